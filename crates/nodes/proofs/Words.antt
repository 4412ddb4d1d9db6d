-- Which words of a node a copy of entries, or an entry written, leaves as they were.
use Rattle.std.proofs.Common.{◌≡◌, ℕ, ◌+◌, ◌-◌, ◌*◌, ◌<◌, ◌≤◌, ◌⊎◌, List, length, get_or, sym, ◌∙◌, inl, inr, ⊎_elim, mul-le-mul_left, arith}
use Rattle.std.proofs.lemmas.Bool.{cases_lt}
use Rattle.std.proofs.lemmas.Bool.Decides.{nat_tests}
use Rattle.std.proofs.lemmas.List.FromFn.{fill_by_all}
use Rattle.store.specs.Meaning.{with_at}
use Rattle.copies.specs.Blocks.{splice, filled}
use Rattle.copies.proofs.Changes.{with_at_other}
use Rattle.copies.proofs.Edits.{pasted_in, pasted_out}
use Rattle.nodes.specs.Places.{Form, weight_at, key_at, child_at}
use Rattle.nodes.specs.Nodes.{Entry, entry_at, carried, placed}
use Rattle.nodes.proofs.Upto.{upto_same}

-- an entry is known by its words
abbrev entry_with : ℕ → List ℕ → ℕ → Entry
entry_with w ks x = record { weight = w; key = ks; child = x }

pub entry_same : (φ : Form) (i j : ℕ) (β γ : ℕ → ℕ) → β (weight_at i) ≡ γ (weight_at j) → ((q : ℕ) → q < φ.words → β (key_at φ i + q) ≡ γ (key_at φ j + q)) → β (child_at φ i) ≡ γ (child_at φ j) → entry_at φ β i ≡ entry_at φ γ j
unfolding entry_at
entry_same φ i j β γ w ks x = λ z. entry_with (w z) (upto_same φ.words _ _ ks z) (x z)

-- words below 2 are no entry's
pub entry_head : (φ : Form) (j p v : ℕ) (β : ℕ → ℕ) → p < 2 → entry_at φ (with_at β p v) j ≡ entry_at φ β j
entry_head φ j p v β h =
    entry_same φ j j (with_at β p v) β (with_at_other β p v _ (omega arith)) (λ q l. with_at_other β p v _ (omega arith)) (with_at_other β p v _ (omega arith))

-- n entries of α, from place i on, carried to the places of β from j on
module _ (φ : Form) (α : ℕ → ℕ) (i j n : ℕ) (β : ℕ → ℕ) (l : i + n ≤ φ.places) (m : j + n ≤ φ.places) where
  bound : φ.words * (j + n) ≤ φ.words * φ.places
  bound = mul-le-mul_left {m = j + n} {n = φ.places} φ.words m

  pub carried_head : (p : ℕ) → p < 2 → carried φ α i j n β p ≡ β p
  unfolding carried
  carried_head p h = pasted_out _ _ _ _ _ _ (inl (omega arith)) ∙ pasted_out _ _ _ _ _ _ (inl (omega arith)) ∙ pasted_out _ _ _ _ _ _ (inl (omega arith))

  -- the entry at place j + x
  pub carried_in : (x : ℕ) → x < n → entry_at φ (carried φ α i j n β) (j + x) ≡ entry_at φ α (i + x)
  unfolding carried
  carried_in x h =
      let b = bound in
      let a = mul-le-mul_left {m = x + 1} {n = n} φ.words (omega arith) in
      entry_same φ (j + x) (i + x) _ _
      (pasted_out _ _ _ _ _ _ (inl (omega arith)) ∙ pasted_out _ _ _ _ _ _ (inl (omega arith)) ∙ pasted_in α _ (weight_at i) (weight_at j) n _ _ (omega arith) (omega arith) (omega arith))
      (λ q h'. pasted_out _ _ _ _ _ _ (inl (omega arith)) ∙ pasted_in α _ (key_at φ i) (key_at φ j) (φ.words * n) _ _ (omega arith) (omega arith) (omega arith))
      (pasted_in α _ (child_at φ i) (child_at φ j) n _ _ (omega arith) (omega arith) (omega arith))

  pub carried_out : (x : ℕ) → x < φ.places → (x < j) ⊎ (j + n ≤ x) → entry_at φ (carried φ α i j n β) x ≡ entry_at φ β x
  unfolding carried
  carried_out x h out =
      let b = bound in
      let a = mul-le-mul_left {m = x + 1} {n = φ.places} φ.words (omega arith) in
      entry_same φ x x _ _
      (pasted_out _ _ _ _ _ _ (inl (omega arith)) ∙ pasted_out _ _ _ _ _ _ (inl (omega arith)) ∙ pasted_out _ _ _ _ _ _ (⊎_elim (λ (y : x < j). inl (omega arith)) (λ (y : j + n ≤ x). inr (omega arith)) out))
      (λ q h'. pasted_out _ _ _ _ _ _ (inl (omega arith)) ∙ pasted_out _ _ _ _ _ _ (⊎_elim (λ (y : x < j). let d = mul-le-mul_left {m = x + 1} {n = j} φ.words (omega arith) in inl (omega arith)) (λ (y : j + n ≤ x). let d = mul-le-mul_left {m = j + n} {n = x} φ.words y in inr (omega arith)) out) ∙ pasted_out _ _ _ _ _ _ (inr (omega arith)))
      (pasted_out _ _ _ _ _ _ (⊎_elim (λ (y : x < j). inl (omega arith)) (λ (y : j + n ≤ x). inr (omega arith)) out) ∙ pasted_out _ _ _ _ _ _ (inr (omega arith)) ∙ pasted_out _ _ _ _ _ _ (inr (omega arith)))

-- the entry e written at place i
module _ (φ : Form) (i : ℕ) (e : Entry) (β : ℕ → ℕ) (l : i < φ.places) where
  pub placed_head : (p : ℕ) → p < 2 → placed φ i e β p ≡ β p
  unfolding placed filled splice with_at
  placed_head p h = grind (arith, nat_tests)

  placed_weight : (j : ℕ) → j < φ.places → (j ≡ i → ⊥) → placed φ i e β (weight_at j) ≡ β (weight_at j)
  unfolding placed filled splice with_at
  placed_weight j h ne = grind (arith, nat_tests)

  placed_key : (j q : ℕ) → j < φ.places → (j ≡ i → ⊥) → q < φ.words → placed φ i e β (key_at φ j + q) ≡ β (key_at φ j + q)
  unfolding placed filled splice with_at
  placed_key j q h ne h' =
      let a = mul-le-mul_left {m = j + 1} {n = φ.places} φ.words (omega arith) in
      ⊎_elim
      (λ (x : j < i). let b = mul-le-mul_left {m = j + 1} {n = i} φ.words (omega arith) in grind (arith, nat_tests))
      (λ (x : i ≤ j). let b = mul-le-mul_left {m = i + 1} {n = j} φ.words (omega arith) in grind (arith, nat_tests))
      (cases_lt j i)

  placed_child : (j : ℕ) → j < φ.places → (j ≡ i → ⊥) → placed φ i e β (child_at φ j) ≡ β (child_at φ j)
  unfolding placed filled splice with_at
  placed_child j h ne = let a = mul-le-mul_left {m = i + 1} {n = φ.places} φ.words (omega arith) in grind (arith, nat_tests)

  placed_weight_here : placed φ i e β (weight_at i) ≡ e.weight
  unfolding placed filled splice with_at
  placed_weight_here = grind (arith, nat_tests)

  placed_key_here : (q : ℕ) → q < φ.words → placed φ i e β (key_at φ i + q) ≡ get_or e.key q 0
  unfolding placed filled splice with_at
  placed_key_here q h =
      let a = mul-le-mul_left {m = i + 1} {n = φ.places} φ.words (omega arith) in
      let z : key_at φ i + q - key_at φ i ≡ q = omega arith in grind (arith, nat_tests)

  placed_child_here : placed φ i e β (child_at φ i) ≡ e.child
  unfolding placed filled splice with_at
  placed_child_here = grind (arith, nat_tests)

  pub placed_other : (j : ℕ) → j < φ.places → (j ≡ i → ⊥) → entry_at φ (placed φ i e β) j ≡ entry_at φ β j
  placed_other j h ne = entry_same φ j j _ _ (placed_weight j h ne) (λ q. placed_key j q h ne) (placed_child j h ne)

  pub placed_here : length e.key ≡ φ.words → entry_at φ (placed φ i e β) i ≡ e
  unfolding entry_at
  placed_here m = λ z. entry_with (placed_weight_here z) (sym (fill_by_all (λ q. placed φ i e β (key_at φ i + q)) e.key φ.words 0 m (λ q h. sym (placed_key_here q h))) z) (placed_child_here z)
