-- Two neighbours in their parent, and what they are merged into.
use Rattle.std.specs.Prelude.{◌≡◌, ℕ, suc, ◌+◌, ◌*◌, ◌<◌, ◌≤◌, List, [], ◌∷◌, ◌++◌}
use Rattle.std.specs.List.{AllByRecursion}
use Rattle.store.specs.Meaning.{Meaning}
use Rattle.nodes.specs.Nodes.{Node as IsNode, entry_at}
use Rattle.tree.specs.declared.mark.Mark.{Mark}
use Rattle.tree.specs.Tree.{index_shape, index_unit, Item, weight, Fit, left, right, merged, merged_mark}
use Rattle.held.specs.Held.{Kind, item, foot, Right, Owned}
use Rattle.held.specs.Exchange.{Exchanged}
use Rattle.shrink.specs.declared.merge.Siblings.{Siblings}

module _ {K : Type 0} (κ : Kind K) where
  -- the items of the two nodes of level l that block p names at the places i and i + 1, in one list
  abbrev pub pooled : (p i l : ℕ) → Meaning → Item K (suc l)
  pooled p i l m = item κ m.words (suc l) (entry_at κ.form (m.words p) i) ++ item κ m.words (suc l) (entry_at κ.form (m.words p) (i + 1))

  -- the blocks of these two
  abbrev pub pooled_feet : (p i l : ℕ) → Meaning → List ℕ
  pooled_feet p i l m = foot κ m.words (suc l) (entry_at κ.form (m.words p) i) ++ foot κ m.words (suc l) (entry_at κ.form (m.words p) (i + 1))

  -- in the node in block p the entries at the places i and i + 1 are right, and their two nodes together weigh no more than 5/4 of the limit
  pub record Neighbours (p i l : ℕ) (m : Meaning) : Type 0 where
    pub parent : IsNode κ.form p m
    pub within : i + 1 < m.words p 1
    pub low : l ≤ index_shape.top
    pub left : Right κ m.words (suc l) (entry_at κ.form (m.words p) i)
    pub right : Right κ m.words (suc l) (entry_at κ.form (m.words p) (i + 1))
    pub fits : AllByRecursion (Fit K index_unit l) (pooled p i l m)
    pub some : 1 ≤ weight K (suc l) (item κ m.words (suc l) (entry_at κ.form (m.words p) i))
    pub light : weight K (suc l) (pooled p i l m) ≤ 10 * index_unit l
    pub owned : Owned m (p ∷ pooled_feet p i l m)

  -- s has the ways to both, the smallest key of the left one, and what both weigh
  pub record Paired (p i l : ℕ) (m : Meaning) (s : Siblings K) : Type 0 where
    pub left_parent : s.left.parent ≡ p
    pub left_place : s.left.place ≡ i
    pub left_child : s.left.child ≡ record { block = (entry_at κ.form (m.words p) i).child; level = l }
    pub right_parent : s.right.parent ≡ p
    pub right_place : s.right.place ≡ i + 1
    pub right_child : s.right.child ≡ record { block = (entry_at κ.form (m.words p) (i + 1)).child; level = l }
    pub low : s.low ≡ κ.unpacked (entry_at κ.form (m.words p) i).key
    pub weight : s.weight ≡ (entry_at κ.form (m.words p) i).weight + (entry_at κ.form (m.words p) (i + 1)).weight

  -- they were read, and nothing changed
  pub record Looked (p i l : ℕ) (m : Meaning) (s : Siblings K) (n : Meaning) : Type 0 where
    pub pair : Paired p i l m s
    pub same : n ≡ m

  -- s is about such neighbours
  pub record Mergeable (s : Siblings K) (m : Meaning) : Type 0 where
    pub near : Neighbours s.left.parent s.left.place s.left.child.level m
    pub pair : Paired s.left.parent s.left.place s.left.child.level m s

  -- that together weigh 7/8 of the limit or more
  pub record Shareable (s : Siblings K) (m : Meaning) : Type 0 where
    pub pair : Mergeable s m
    pub heavy : 7 * index_unit s.left.child.level ≤ weight K (suc s.left.child.level) (pooled s.left.parent s.left.place s.left.child.level m)

  -- their two entries gave way to entries for the nodes xs
  abbrev pub Rejoined : (p i l : ℕ) → List (Item K (suc l)) → Meaning → Meaning → Type 0
  Rejoined p i l xs m n = Exchanged κ p i 2 l (pooled_feet p i l m) xs m n

  -- to one for the node of both
  abbrev pub Merged : Siblings K → Meaning → Unit {0} → Meaning → Type 0
  Merged s m x n = let p = s.left.parent in let i = s.left.place in let l = s.left.child.level in Rejoined p i l (pooled p i l m ∷ []) m n

  -- to those for the two nodes that a node of both is split into
  abbrev pub Shared : Siblings K → Meaning → Unit {0} → Meaning → Type 0
  Shared s m x n =
      let p = s.left.parent in let i = s.left.place in let l = s.left.child.level in
      let z = pooled p i l m in Rejoined p i l (left K index_unit l z ∷ right K index_unit l z ∷ []) m n

  -- to what stands for two nodes merged
  pub record Fused (p i l : ℕ) (m : Meaning) (mark : Mark) (n : Meaning) : Type 0 where
    pub entry : Rejoined p i l (merged K index_unit l (pooled p i l m)) m n
    pub marked : mark ≡ merged_mark K index_unit l (pooled p i l m)
