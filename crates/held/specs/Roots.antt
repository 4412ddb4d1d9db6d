-- A tree that stands in blocks below its root, what a question to it tells, and what an update makes of it.
use Rattle.std.specs.Prelude.{◌≡◌, ℕ, suc, ◌≤◌, List, Result}
use Rattle.store.specs.Meaning.{Meaning}
use Rattle.store.specs.declared.fault.Fault.{Fault}
use Rattle.copies.specs.Work.{Work}
use Rattle.nodes.specs.declared.node.Node.{Node}
use Rattle.nodes.specs.declared.header.Header.{Header}
use Rattle.plain.specs.declared.pair.Pair.{Pair}
use Rattle.tree.specs.Tree.{Tree, Update, index_shape, index_unit, pairs, size, updated, mark}
use Rattle.balance.specs.Marks.{mark_at}
use Rattle.balance.specs.declared.update.Updated.{Updated}
use Rattle.held.specs.Held.{Kind, node, feet, Whole, Step, Sits}

-- the answer is this of the blocks as they were, and nothing changed
pub record Tells {A : Type 0} (value : Meaning → A) (m : Meaning) (a : A) (n : Meaning) : Type 0 where
  pub value_is : a ≡ value m
  pub same : n ≡ m

module _ {K : Type 0} (κ : Kind K) where
  -- the tree in the blocks below a root
  abbrev pub tree_of : (ℕ → ℕ → ℕ) → Header → Tree K
  tree_of ω h = record { level = h.root.level; root = node κ ω h.root.level h.root.block }

  -- the pairs of the node of level l in block b
  abbrev pub pairs_in : (ℕ → ℕ → ℕ) → ℕ → ℕ → List (Pair K)
  pairs_in ω l b = pairs K (suc l) (node κ ω l b)

  -- a tree that keeps the rules stands below this root
  abbrev pub Rooted : Node → Meaning → Type 0
  Rooted root m = Sits κ index_unit m root.level root.block

  -- the pairs below a root
  abbrev pub pairs_below : Node → Meaning → List (Pair K)
  pairs_below root m = pairs_in m.words root.level root.block

  -- where a tree stands below the root, the answer is this of its pairs and nothing changed, or the store said 'down'
  abbrev pub Asks : {A : Type 0} → Node → (List (Pair K) → A) → Meaning → Result A Fault → Meaning → Type 0
  Asks root value = Work (Rooted root) (Tells (λ m. value (pairs_below root m)))

  -- a tree that keeps the rules stands below the root, with as many keys as the header says
  pub record Stands (h : Header) (m : Meaning) : Type 0 where
    pub sits : Rooted h.root m
    pub keys : h.keys ≡ size K (tree_of m.words h)
    pub low : h.root.level ≤ index_shape.top

  -- From m to n the tree below h became what the update makes of it, with the update's marks. Of all other blocks granted no word changed.
  pub record Becomes (h : Header) (u : Update K) (m : Meaning) (r : Updated) (n : Meaning) : Type 0 where
    pub tree_is : tree_of n.words r.tree.header ≡ updated κ.order index_unit (tree_of m.words h) u
    pub whole : Whole κ n.words r.tree.header.root.level r.tree.header.root.block
    pub step : Step m n (feet κ m.words h.root.level h.root.block) (feet κ n.words r.tree.header.root.level r.tree.header.root.block)
    pub keys : r.tree.header.keys ≡ size K (tree_of n.words r.tree.header)
    pub marks : (j : ℕ) → mark_at r.marks j ≡ mark κ.order index_unit j (tree_of m.words h) u
