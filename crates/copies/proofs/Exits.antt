-- What the exit of a `?` returns, and how work begun earlier is lost. Assumes nothing.
use Rattle.std.proofs.Common.{◌≡◌, ℕ, ◌<◌, true, is_err, IsErrAnd, Ok, Err, Result, ap, ◌∙◌, subst, arith}
use Rattle.std.proofs.lemmas.Bool.{both_ways}
use Rattle.store.specs.declared.fault.Fault.{Fault}
use Rattle.store.specs.declared.fault.Refusal.{Refusal}
use Rattle.store.specs.declared.fault.Refusal.TheVariants.{Down}
use Rattle.store.specs.Meaning.{Meaning, Fell, count, with_at}
use Rattle.store.specs.Calls.{TakeFails, TakeDone, Take, WordFails, SetDone, Set, Deep, Lost}
use Rattle.store.specs.Calls.TakeFails.{take_down, take_full}
use Rattle.store.specs.Calls.WordFails.{word_down, word_missing, word_outside}
use Rattle.copies.specs.Work.{Work}
use Rattle.copies.specs.Blocks.{Word, Edited, edit}

err_is : {T E : Type 0} (r : Result T E) (e : E) → IsErrAnd r (λ y. y ≡ e) → r ≡ Err e
err_is (Ok x) e h = absurd h
err_is (Err y) e h = ap Err h

-- what the exit of a `?` returns, where the error is passed on as it is
pub raised : {T E : Type 0} (r : Result T E) (e : E) → (is_err r ≡ true) × IsErrAnd r (λ y. y ≡ e) → r ≡ Err e
raised r e h = err_is r e h.1

-- two meanings of one store
pub record Kin (l m : Meaning) : Type 0 where
  pub shape : m.shape ≡ l.shape
  pub below : m.below ≡ l.below

pub kin_same : {l m : Meaning} → m ≡ l → Kin l m
kin_same e = record { shape = ap (λ z. z.shape) e; below = ap (λ z. z.below) e }

pub kin_edit : (l m : Meaning) (b : ℕ) (F : (ℕ → ℕ) → ℕ → ℕ) → m ≡ edit l b F → Kin l m
unfolding edit
kin_edit l m b F e = record { shape = ap (λ z. z.shape) e; below = ap (λ z. z.below) e }

-- work lost at m is lost to what began at l
pub lost_later : {l m n : Meaning} {f : Fault} → Kin l m → Lost m f n → Lost l f n
lost_later k h = record {
  refusal = h.refusal;
  granted_then = h.granted_then;
  deep = h.deep ∙ ap (λ z. z.depth Down h.granted_then) k.shape;
  is_down = h.is_down;
  same_shape = h.same_shape ∙ k.shape;
  same_below = h.same_below ∙ k.below;
}

-- a call on a word that is there fails only by 'down'
word_falls : {r : Refusal} {at b place : ℕ} {m n : Meaning} → Word b place m → WordFails b place r at m n → (r ≡ Down) × Fell m n
word_falls p (word_down e f) = (e, f)
word_falls p (word_missing e a f k) = absurd (both_ways _ f p.granted)
word_falls p (word_outside e a h f k) = absurd (omega (arith, p.within))

pub word_lost : {m n : Meaning} {f : Fault} {b place : ℕ} → Word b place m → WordFails b place f.refusal f.block m n → f.depth ≡ m.shape.depth f.refusal (count m) → Lost m f n
word_lost {m} p w d =
    let q = word_falls p w in
    record {
      refusal = q.0;
      granted_then = count m;
      deep = d ∙ ap (λ r. m.shape.depth r (count m)) q.0;
      is_down = q.1.is_down;
      same_shape = q.1.same_shape;
      same_below = q.1.same_below;
    }

pub set_edit : (m n : Meaning) (b p x : ℕ) → SetDone m b p x n → n ≡ edit m b (λ β. with_at β p x)
unfolding edit
set_edit m n b p x h = h.after

-- a word set, as work
pub set_work : (m n : Meaning) (b p x : ℕ) (r : Result (Unit {0}) Fault) → Set b p x m r n → Deep m r → Work (Word b p) (Edited b (λ β. with_at β p x)) m r n
set_work m n b p x (Ok _) h d = λ k. set_edit m n b p x h
set_work m n b p x (Err f) h d = λ k. word_lost k h d

-- the same where the block, the place and the word are known to be these
pub set_at : (m n : Meaning) (b p x : ℕ) {b' p' x' : ℕ} → SetDone m b' p' x' n → b' ≡ b → p' ≡ p → x' ≡ x → n ≡ edit m b (λ β. with_at β p x)
set_at m n b p x h d e f = set_edit m n _ _ _ h ∙ (λ z. edit m (d z) (λ β. with_at β (e z) (f z)))

pub fails_at : {r : Refusal} {at : ℕ} {m n : Meaning} {b p b' p' : ℕ} → WordFails b' p' r at m n → b' ≡ b → p' ≡ p → WordFails b p r at m n
fails_at {r} {at} {m} {n} {b} {p} {b'} {p'} h d e = subst (λ z. WordFails z p r at m n) d (subst (λ z. WordFails b' z r at m n) e h)

pub set_work_at : (m n : Meaning) (b p x : ℕ) {b' p' x' : ℕ} (r : Result (Unit {0}) Fault) → Set b' p' x' m r n → Deep m r → b' ≡ b → p' ≡ p → x' ≡ x → Work (Word b p) (Edited b (λ β. with_at β p x)) m r n
set_work_at m n b p x (Ok _) h k d e f = λ _. set_at m n b p x h d e f
set_work_at m n b p x (Err y) h k d e f = λ q. word_lost q (fails_at h d e) k

-- work that goes on from m, where other work had come to from l
pub work_on : {A : Type 0} (P Q : Meaning → Type 0) (D E : Meaning → A → Meaning → Type 0) (l m n : Meaning) (r : Result A Fault) → (P l → Q m) → (P l → Kin l m) → ((a : A) → P l → E m a n → D l a n) → Work Q E m r n → Work P D l r n
work_on P Q D E l m n (Ok a) q k f w = λ p. f a p (w (q p))
work_on P Q D E l m n (Err e) q k f w = λ p. lost_later (k p) (w (q p))

-- the same, where all is told at once
pub work_then : {A : Type 0} (P Q : Meaning → Type 0) (D E : Meaning → A → Meaning → Type 0) (l m n : Meaning) (r : Result A Fault) → (P l → Q m × Kin l m × ((a : A) → E m a n → D l a n)) → Work Q E m r n → Work P D l r n
work_then P Q D E l m n (Ok a) f w = λ p. let x = f p in x.2 a (w x.0)
work_then P Q D E l m n (Err e) f w = λ p. let x = f p in lost_later x.1 (w x.0)

-- where a block is free, taking one fails only by 'down'
take_falls : {r : Refusal} {at : ℕ} {m n : Meaning} → count m < m.shape.capacity → TakeFails r at m n → (r ≡ Down) × Fell m n
take_falls p (take_down e f) = (e, f)
take_falls p (take_full e a h k) = absurd (omega arith)

take_lost : {m n : Meaning} {f : Fault} → count m < m.shape.capacity → TakeFails f.refusal f.block m n → f.depth ≡ m.shape.depth f.refusal (count m) → Lost m f n
take_lost {m} p w d =
    let q = take_falls p w in
    record {
      refusal = q.0;
      granted_then = count m;
      deep = d ∙ ap (λ r. m.shape.depth r (count m)) q.0;
      is_down = q.1.is_down;
      same_shape = q.1.same_shape;
      same_below = q.1.same_below;
    }

-- a block taken, as work
pub take_work : (m n : Meaning) (r : Result ℕ Fault) → Take m r n → Deep m r → Work (λ z. count z < z.shape.capacity) TakeDone m r n
take_work m n (Ok b) h d = λ p. h
take_work m n (Err f) h d = λ p. take_lost p h d
