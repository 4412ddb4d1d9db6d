-- What the store below answers, seen through the lines.
use Rattle.std.proofs.Common.{◌≡◌, ℕ, Bool, List, ◌∷◌, sym, ap, ◌∙◌, subst, ap₂, arith}
use Rattle.store.specs.declared.fault.Fault.{Fault}
use Rattle.store.specs.declared.fault.Refusal.{Refusal}
use Rattle.store.specs.declared.fault.Refusal.TheVariants.{Down, NoRoom, NotGranted, Outside}
use Rattle.store.specs.Faults.{number_of, one_deeper, deeper}
use Rattle.store.specs.Meaning.{Meaning, Fell}
use Rattle.store.specs.Calls.{Kept, WordFails, TakeFails, GiveFails}
use Rattle.store.specs.Calls.WordFails.{word_down, word_missing, word_outside}
use Rattle.store.specs.Calls.TakeFails.{take_down, take_full}
use Rattle.store.specs.Calls.GiveFails.{give_down, give_missing}
use Rattle.cache.specs.Lines.{View, NotedErr}
use Rattle.cache.specs.Cache.{cached, cached_shape, Held}
use Rattle.cache.specs.Steps.{Falls}
use Rattle.cache.proofs.Helds.{held_fell}

pub fell_cached : {m n : Meaning} (vs ws : List View) → Fell m n → Fell (cached vs m) (cached ws n)
fell_cached vs ws f = record {
  is_down = f.is_down;
  same_shape = ap cached_shape f.same_shape;
  same_below = ap₂ (λ s l. s ∷ l) f.same_shape f.same_below;
  same_grants = f.same_grants;
}

pub falls_cached : {m n : Meaning} {f : Fault} (vs ws : List View) → Falls f m n → Falls (deeper f) (cached vs m) (cached ws n)
falls_cached vs ws q = record { refusal = q.refusal; fell = fell_cached vs ws q.fell; deep = ap one_deeper q.deep }

kept_cached : {m n : Meaning} (vs : List View) → Kept m n → Kept (cached vs m) (cached vs n)
kept_cached vs k = record { was_up = k.was_up; same = ap (cached vs) k.same }

pub word_cached : {b place at : ℕ} {r : Refusal} {m n : Meaning} (vs : List View) → WordFails b place r at m n → WordFails b place r at (cached vs m) (cached vs n)
word_cached vs (word_down e f) = word_down e (fell_cached vs vs f)
word_cached vs (word_missing e a q k) = word_missing e a q (kept_cached vs k)
word_cached vs (word_outside e a g l k) = word_outside e a g l (kept_cached vs k)

pub give_cached : {b at : ℕ} {r : Refusal} {m n : Meaning} (vs : List View) → GiveFails b r at m n → GiveFails b r at (cached vs m) (cached vs n)
give_cached vs (give_down e f) = give_down e (fell_cached vs vs f)
give_cached vs (give_missing e a q k) = give_missing e a q (kept_cached vs k)

pub take_cached : {at : ℕ} {r : Refusal} {m n : Meaning} (vs : List View) → TakeFails r at m n → TakeFails r at (cached vs m) (cached vs n)
take_cached vs (take_down e f) = take_down e (fell_cached vs vs f)
take_cached vs (take_full e a l k) = take_full e a l (kept_cached vs k)

-- the lines after a call that changed nothing
pub held_same : {m n : Meaning} {lost lost' : Bool} {vs : List View} → lost' ≡ lost → n ≡ m → Held m lost vs → Held n lost' vs
held_same {n = n} {lost} {lost'} {vs} e q h = subst (λ t. Held n t vs) (sym e) (subst (λ k. Held k lost vs) (sym q) h)

-- the lines after a call that fell
pub held_falls : {m n : Meaning} {lost lost' : Bool} {vs : List View} {f : Fault} → NotedErr lost f lost' → f.refusal ≡ Down → Fell m n → Held m lost vs → Held n lost' vs
held_falls {n = n} {vs = vs} t e f h = subst (λ k. Held n k vs) (sym (t.fell e)) (held_fell f h)

-- another refusal is not 'down'
other : {r s : Refusal} → (number_of s ≡ 1 → ⊥) → r ≡ s → r ≡ Down → ⊥
other ne e d = ne (ap number_of (sym e ∙ d))

-- the lines after a failed call
module _ {m n : Meaning} {lost lost' : Bool} {vs : List View} (f : Fault) (t : NotedErr lost f lost') (h : Held m lost vs) where
  kept : {s : Refusal} → (number_of s ≡ 1 → ⊥) → f.refusal ≡ s → Kept m n → Held n lost' vs
  kept ne e k = held_same (t.kept (other ne e)) k.same h

  pub held_word : {b place at : ℕ} → WordFails b place f.refusal at m n → Held n lost' vs
  held_word (word_down e k) = held_falls t e k h
  held_word (word_missing e a q k) = kept (λ (z : number_of NotGranted ≡ 1). omega arith) e k
  held_word (word_outside e a g l k) = kept (λ (z : number_of Outside ≡ 1). omega arith) e k

  pub held_give : {b at : ℕ} → GiveFails b f.refusal at m n → Held n lost' vs
  held_give (give_down e k) = held_falls t e k h
  held_give (give_missing e a q k) = kept (λ (z : number_of NotGranted ≡ 1). omega arith) e k

  pub held_take : {at : ℕ} → TakeFails f.refusal at m n → Held n lost' vs
  held_take (take_down e k) = held_falls t e k h
  held_take (take_full e a l k) = kept (λ (z : number_of NoRoom ≡ 1). omega arith) e k
