-- What one store call, and one change of a block, do to grants and words.
use Rattle.std.proofs.Common.{◌≡◌, ℕ, ◌+◌, ◌≤◌, Bool, true, false, eqb, List, [], ◌∷◌, sym, refl, ap, ◌∙◌, ⊎_elim, arith}
use Rattle.std.proofs.lemmas.Bool.{eq-eqb, ne_eqb, cond-true, cond-false, cases_eq}
use Rattle.store.specs.Meaning.{Meaning, limit, count, free, with_at, with_block}
use Rattle.store.specs.Calls.{TakeDone, GiveDone}
use Rattle.store.specs.Laws.Changes.{with_at_here, with_at_other}
use Rattle.store.specs.Laws.Counts.{count_more}
use Rattle.copies.proofs.Exits.{Kin}
use Rattle.nodes.specs.Places.{Form}
use Rattle.nodes.specs.Nodes.{Room}
use Rattle.held.specs.Held.{times, bit, Step}

-- a grant that is counted is there
pub bit_true : (b : Bool) → 1 ≤ bit b → b ≡ true
bit_true true h = refl
bit_true false h = absurd (omega arith)

pub bit_most : (b : Bool) → bit b ≤ 1
bit_most true = omega arith
bit_most false = omega arith

-- one block has other words
pub step_block : (m n : Meaning) (b : ℕ) (β : ℕ → ℕ) → n ≡ with_block m b β → Step m n (b ∷ []) (b ∷ [])
step_block m n b β e = record {
  same_shape = ap (λ z. z.shape) e;
  same_below = ap (λ z. z.below) e;
  same_down = ap (λ z. z.down) e;
  moved = λ c. ap (λ z. times c (b ∷ []) + bit (z c)) (sym (ap (λ z. z.granted) e));
  kept = λ c h. ap (λ z. z.words c) e ∙ with_at_other m.words b β c (λ q. absurd (omega (arith, cond-true {A = ℕ} (eqb c b) 1 0 (eq-eqb c b q), bit_most (m.granted c))));
}

-- the grants of a block taken, counted
bit_taken : (g : ℕ → Bool) (b c : ℕ) → g b ≡ false → times c (b ∷ []) + bit (g c) ≡ bit (with_at g b true c)
bit_taken g b c e = ⊎_elim
    (λ (q : c ≡ b). omega (arith, cond-true {A = ℕ} (eqb c b) 1 0 (eq-eqb c b q), ap bit (ap g q ∙ e), ap bit (ap (with_at g b true) q ∙ with_at_here g b true)))
    (λ (q : c ≡ b → ⊥). omega (arith, cond-false {A = ℕ} (eqb c b) 1 0 (ne_eqb c b q), ap bit (with_at_other g b true c q)))
    (cases_eq c b)

-- a block was taken
pub step_take : (m n : Meaning) (b : ℕ) → TakeDone m b n → Step m n [] (b ∷ [])
step_take m n b t = record {
  same_shape = ap (λ z. z.shape) t.after;
  same_below = ap (λ z. z.below) t.after;
  same_down = ap (λ z. z.down) t.after;
  moved = λ c. omega (arith, bit_taken m.granted b c t.was_free, ap (λ z. bit (z.granted c)) t.after);
  kept = λ c h. ap (λ z. z.words c) t.after ∙ with_at_other m.words b (λ p. 0) c (λ q. absurd (omega (arith, ap bit (ap m.granted q ∙ t.was_free))));
}

-- its words are all 0
pub taken_blank : (m n : Meaning) (b p : ℕ) → TakeDone m b n → n.words b p ≡ 0
taken_blank m n b p t = ap (λ z. z.words b p) t.after ∙ ap (λ β. β p) (with_at_here m.words b (λ q. 0))

pub taken_granted : (m n : Meaning) (b : ℕ) → TakeDone m b n → n.granted b ≡ true
taken_granted m n b t = ap (λ z. z.granted b) t.after ∙ with_at_here m.granted b true

-- one block fewer is free
pub taken_free : (m n : Meaning) (b : ℕ) → TakeDone m b n → free n + 1 ≡ free m
taken_free m n b t = omega (arith, count_more m.granted b limit t.low t.high t.was_free, ap count t.after, ap (λ z. z.shape.capacity) t.after, t.had_room)

-- the grants of a block given back, counted
bit_given : (g : ℕ → Bool) (b c : ℕ) → g b ≡ true → bit (g c) ≡ times c (b ∷ []) + bit (with_at g b false c)
bit_given g b c e = ⊎_elim
    (λ (q : c ≡ b). omega (arith, cond-true {A = ℕ} (eqb c b) 1 0 (eq-eqb c b q), ap bit (ap g q ∙ e), ap bit (ap (with_at g b false) q ∙ with_at_here g b false)))
    (λ (q : c ≡ b → ⊥). omega (arith, cond-false {A = ℕ} (eqb c b) 1 0 (ne_eqb c b q), ap bit (with_at_other g b false c q)))
    (cases_eq c b)

-- a block was given back
pub step_give : (m n : Meaning) (b : ℕ) → GiveDone m b n → Step m n (b ∷ []) []
step_give m n b t = record {
  same_shape = ap (λ z. z.shape) t.after;
  same_below = ap (λ z. z.below) t.after;
  same_down = ap (λ z. z.down) t.after;
  moved = λ c. omega (arith, bit_given m.granted b c t.granted, ap (λ z. bit (z.granted c)) t.after);
  kept = λ c h. ap (λ z. z.words c) t.after ∙ with_at_other m.words b (λ p. 0) c (λ q. absurd (omega (arith, cond-true {A = ℕ} (eqb c b) 1 0 (eq-eqb c b q), bit_most (m.granted c))));
}

-- a step is between two meanings of one store
pub kin_step : (m n : Meaning) (F G : List ℕ) → Step m n F G → Kin m n
kin_step m n F G s = record { shape = s.same_shape; below = s.same_below }

-- a block with room for a node keeps it, unless it was given back
pub room_step : (φ : Form) (b : ℕ) (m n : Meaning) (F G : List ℕ) → Step m n F G → times b F ≤ times b G → Room φ b m → Room φ b n
room_step φ b m n F G s k r = record { granted = bit_true (n.granted b) (omega (arith, s.moved b, ap bit r.granted)); wide = omega (arith, r.wide, ap (λ z. z.width) s.same_shape) }
