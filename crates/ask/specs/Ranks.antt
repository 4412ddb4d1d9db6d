-- How many keys come before a bound.
use Rattle.std.specs.Prelude.{◌≡◌, ℕ, ◌≤◌, Bool, List, take, Result}
use Rattle.std.specs.declared.cmp.Ordering.{Ordering}
use Rattle.store.specs.Meaning.{Meaning}
use Rattle.store.specs.declared.fault.Fault.{Fault}
use Rattle.keys.specs.Sorted.{how_many, passes}
use Rattle.copies.specs.Work.{Work}
use Rattle.nodes.specs.Places.{Form}
use Rattle.plain.specs.declared.pair.Pair.{Pair}
use Rattle.tree.specs.Tree.{index_unit}
use Rattle.balance.specs.Cuts.{Mild, sum, weights}
use Rattle.held.specs.Held.{Kind, Sits}
use Rattle.held.specs.Roots.{Tells, pairs_in}

-- how many keys are below k, or at most k where an equal one counts
abbrev pub passing : {K : Type 0} → (K → K → Ordering) → Bool → K → List (Pair K) → ℕ
passing order equal k ps = how_many (λ p. passes equal (order p.key k)) ps

-- block b is a node of level l that has n entries or more, and its weights can be added
pub record Begun (φ : Form) (b l n : ℕ) (m : Meaning) : Type 0 where
  pub mild : Mild φ b l m
  pub within : n ≤ m.words b 1

-- the answer is what its first n entries add, and nothing changed
pub record Passed (φ : Form) (b l n : ℕ) (m : Meaning) (all : ℕ) (m' : Meaning) : Type 0 where
  pub value : all ≡ sum (take n (weights φ l (m.words b)))
  pub same : m' ≡ m

-- where a leaf that keeps the rules stands in block b, the answer is this of its pairs and nothing changed, or the store said 'down'
abbrev pub CountsLeaf : {K : Type 0} → Kind K → ℕ → (List (Pair K) → ℕ) → Meaning → Result ℕ Fault → Meaning → Type 0
CountsLeaf κ b value = Work (λ m. Sits κ index_unit m 0 b) (Tells (λ m. value (pairs_in κ m.words 0 b)))
