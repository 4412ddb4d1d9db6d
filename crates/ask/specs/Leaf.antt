-- The leaf that a key belongs to.
use Rattle.std.specs.Prelude.{◌≡◌, ℕ, Result}
use Rattle.store.specs.Meaning.{Meaning}
use Rattle.store.specs.declared.fault.Fault.{Fault}
use Rattle.copies.specs.Work.{Work}
use Rattle.nodes.specs.declared.node.Node.{Node}
use Rattle.plain.specs.Plain.{floor}
use Rattle.tree.specs.Tree.{index_unit}
use Rattle.held.specs.Held.{Kind, Sits}
use Rattle.held.specs.Roots.{Rooted, pairs_in, pairs_below}

-- block `leaf` holds a leaf of the tree below the root: the floor of k in it is the floor of k in the whole tree
pub record LeafOf {K : Type 0} (κ : Kind K) (root : Node) (k : K) (m : Meaning) (leaf : ℕ) (n : Meaning) : Type 0 where
  pub sits : Sits κ index_unit m 0 leaf
  pub floors : floor κ.order k (pairs_in κ m.words 0 leaf) ≡ floor κ.order k (pairs_below κ root m)
  pub same : n ≡ m

-- where a tree stands below the root, the answer is the block of k's leaf, or the store said 'down'
abbrev pub Reaches : {K : Type 0} → Kind K → Node → K → Meaning → Result ℕ Fault → Meaning → Type 0
Reaches κ root k = Work (Rooted κ root) (LeafOf κ root k)
