-- The tree as lists of lists, its rules, and what an update does.
use Rattle.std.specs.Prelude.{ℕ, zero, suc, ◌*◌, ◌^◌, ◌≤◌, Bool, false, cond, List, [], ◌∷◌, ◌++◌, length, Some, None, Option, ◌==◌, nat_lt}
use Rattle.std.specs.declared.cmp.Ordering.{Ordering}
use Rattle.std.proofs.Common.{lit≤}
use Rattle.std.specs.Option.{option_map, unwrap_or}
use Rattle.std.specs.Ordering.{is_le}
use Rattle.std.specs.List.{AllByRecursion}
use Rattle.tree.specs.Lists.{total, joined, onto, first_half, second_half, Place, seek}
use Rattle.plain.specs.Plain.{Sorted, put, cut}
use Rattle.tree.specs.declared.mark.Mark.{Mark}
use Rattle.tree.specs.declared.mark.Mark.TheVariants.{Nothing, Split, Merge, MergeSplit}
use Rattle.plain.specs.declared.pair.Pair.{Pair}

-- a leaf holds at most 8 * eighth pairs, W grows by the branching from level to level, and no root stands above the top
pub record Shape : Type 0 where
  pub eighth : ℕ
  pub branching : ℕ
  pub top : ℕ
  pub wide_leaves : 16 ≤ 8 * eighth
  pub wide_nodes : 16 ≤ branching

-- an eighth of W(l), so that W(l) / 4 is 2 units, W(l) itself is 8, and no bound needs a division
abbrev pub unit_of : Shape → ℕ → ℕ
unit_of s l = s.eighth * s.branching ^ l

-- the shape of an index: at most 64 pairs in a leaf, a branching of 16, no root above level 4
abbrev pub index_shape : Shape
index_shape = record { eighth = 8; branching = 16; top = 4; wide_leaves = lit≤ tt; wide_nodes = lit≤ tt }

-- an eighth of W(l) there
abbrev pub index_unit : ℕ → ℕ
index_unit = unit_of index_shape

-- An item of level 0 is a pair. An item of level l + 1 is a node of level l, the list of its items of level l: a leaf is the list of its pairs.
abbrev pub Item : Type 0 → ℕ → Type 0
Item K zero = Pair K
Item K (suc l) = List (Item K l)

module _ (K : Type 0) where
  -- a leaf weighs as much as it has pairs, an inner node as much as its children together
  abbrev pub weight : (l : ℕ) → Item K l → ℕ
  weight zero x = 1
  weight (suc l) xs = total (weight l) xs

  -- the smallest key, where keys ascend
  abbrev pub smallest : (l : ℕ) → Item K l → Option K
  smallest zero x = Some x.key
  smallest (suc l) [] = None
  smallest (suc l) (x ∷ xs) = smallest l x

  -- the pairs in order
  abbrev pub pairs : (l : ℕ) → Item K l → List (Pair K)
  pairs zero x = x ∷ []
  pairs (suc l) xs = joined (pairs l) xs

module _ (K : Type 0) (unit : ℕ → ℕ) where
  -- an item below a root keeps the rules of weight: from W / 4 to W, and so does every node in it
  abbrev pub Fit : (l : ℕ) → Item K l → Type 0
  Fit zero x = Unit {0}
  Fit (suc l) xs = (2 * unit l ≤ weight K (suc l) xs) × (weight K (suc l) xs ≤ 8 * unit l) × AllByRecursion (Fit l) xs

  -- an inner node has two children or more
  abbrev pub Kids : (l : ℕ) → Item K (suc l) → Type 0
  Kids zero x = Unit {0}
  Kids (suc l) x = 2 ≤ length x

  -- the two nodes that a node is split into (law: Splits)
  abbrev pub left : (l : ℕ) → Item K (suc l) → Item K (suc l)
  left l x = first_half (weight K l) (weight K (suc l) x) 0 x

  -- and the right one
  abbrev pub right : (l : ℕ) → Item K (suc l) → Item K (suc l)
  right l x = second_half (weight K l) (weight K (suc l) x) 0 x

  -- a node, or its two parts if it weighs more than m
  abbrev pub split_above : (l : ℕ) → ℕ → Item K (suc l) → List (Item K (suc l))
  split_above l m x = cond (nat_lt m (weight K (suc l) x)) (left l x ∷ right l x ∷ []) (x ∷ [])

  -- it weighs more than W
  abbrev pub over : (l : ℕ) → Item K (suc l) → Bool
  over l x = nat_lt (8 * unit l) (weight K (suc l) x)

  -- what stands for a node after an insertion into it
  abbrev pub grown : (l : ℕ) → Item K (suc l) → List (Item K (suc l))
  grown l x = split_above l (8 * unit l) x

  -- it weighs less than W / 4
  abbrev pub under : (l : ℕ) → Item K (suc l) → Bool
  under l x = nat_lt (weight K (suc l) x) (2 * unit l)

  -- what stands for two nodes merged into x: above 7 W / 8 it is split again
  abbrev pub merged : (l : ℕ) → Item K (suc l) → List (Item K (suc l))
  merged l x = split_above l (7 * unit l) x

  -- and the mark of that
  abbrev pub merged_mark : (l : ℕ) → Item K (suc l) → Mark
  merged_mark l x = cond (nat_lt (7 * unit l) (weight K (suc l) x)) MergeSplit Merge

  -- the children where x merges with its left sibling, or its right if it has no left; the siblings to the left come nearest first
  abbrev pub fused : (l : ℕ) → List (Item K (suc l)) → Item K (suc l) → List (Item K (suc l)) → List (Item K (suc l))
  fused l (y ∷ b) x a = onto b (merged l (y ++ x) ++ a)
  fused l [] x (y ∷ a) = merged l (x ++ y) ++ a
  fused l [] x [] = x ∷ []

  -- and the mark of that
  abbrev pub fused_mark : (l : ℕ) → List (Item K (suc l)) → Item K (suc l) → List (Item K (suc l)) → Mark
  fused_mark l (y ∷ b) x a = merged_mark l (y ++ x)
  fused_mark l [] x (y ∷ a) = merged_mark l (x ++ y)
  fused_mark l [] x [] = Nothing

  -- the children after a deletion from x among them
  abbrev pub mended : (l : ℕ) → List (Item K (suc l)) → Item K (suc l) → List (Item K (suc l)) → List (Item K (suc l))
  mended l b x a = cond (under l x) (fused l b x a) (onto b (x ∷ a))

module _ {K : Type 0} (order : K → K → Ordering) where
  -- the smallest key of an item is at most k
  abbrev pub starts : (l : ℕ) → K → Item K l → Bool
  starts l k x = unwrap_or (option_map (λ m. is_le (order m k)) (smallest K l x)) false

  -- the way down: the child of c ∷ cs that k leads to (law: Way-down)
  abbrev pub route : (l : ℕ) → K → Item K l → List (Item K l) → Place (Item K l)
  route l k c cs = seek (starts l k) [] c cs

module _ {K : Type 0} (order : K → K → Ordering) (unit : ℕ → ℕ) where
  -- a node of level l after an insertion: all below it is rebalanced, it itself not yet
  abbrev pub ins : (l : ℕ) → K → ℕ → Item K (suc l) → Item K (suc l)
  ins zero k h x = put order k h x
  ins (suc l) k h [] = []
  ins (suc l) k h (c ∷ cs) =
      let at = route order (suc l) k c cs in
      onto at.before (grown K unit l (ins l k h at.here) ++ at.after)

  -- the mark of level j below that node
  abbrev pub ins_mark : ℕ → (l : ℕ) → K → ℕ → Item K (suc l) → Mark
  ins_mark j zero k h x = Nothing
  ins_mark j (suc l) k h [] = Nothing
  ins_mark j (suc l) k h (c ∷ cs) =
      let at = route order (suc l) k c cs in
      cond (j == l) (cond (over K unit l (ins l k h at.here)) Split Nothing) (ins_mark j l k h at.here)

  -- a node of level l after a deletion: all below it is rebalanced, it itself not yet
  abbrev pub del : (l : ℕ) → K → Item K (suc l) → Item K (suc l)
  del zero k x = cut order k x
  del (suc l) k [] = []
  del (suc l) k (c ∷ cs) =
      let at = route order (suc l) k c cs in
      mended K unit l at.before (del l k at.here) at.after

  -- the mark of level j below that node
  abbrev pub del_mark : ℕ → (l : ℕ) → K → Item K (suc l) → Mark
  del_mark j zero k x = Nothing
  del_mark j (suc l) k [] = Nothing
  del_mark j (suc l) k (c ∷ cs) =
      let at = route order (suc l) k c cs in
      let y = del l k at.here in
      cond (j == l) (cond (under K unit l y) (fused_mark K unit l at.before y at.after) Nothing) (del_mark j l k at.here)

-- the level of the root, and the root
pub record Tree (K : Type 0) : Type 0 where
  pub level : ℕ
  pub root : Item K (suc level)

-- an empty leaf
abbrev pub empty : (K : Type 0) → Tree K
empty K = record { level = 0; root = [] }

-- all pairs in order
abbrev pub content : (K : Type 0) → Tree K → List (Pair K)
content K t = pairs K (suc t.level) t.root

-- how many they are, which is what the root weighs
abbrev pub size : (K : Type 0) → Tree K → ℕ
size K t = weight K (suc t.level) t.root

-- The rules of weight: the root weighs at most W, an inner root has two children or more, every other node weighs from W / 4 to W.
pub record Weighed (K : Type 0) (unit : ℕ → ℕ) (t : Tree K) : Type 0 where
  pub limit : size K t ≤ 8 * unit t.level
  pub two : Kids K unit t.level t.root
  pub fits : AllByRecursion (Fit K unit t.level) t.root

-- All rules: those of weight, keys ascend across the leaves, the root stands no higher than the top.
pub record Rules {K : Type 0} (order : K → K → Ordering) (unit : ℕ → ℕ) (top : ℕ) (t : Tree K) : Type 0 where
  pub weighed : Weighed K unit t
  pub ascending : Sorted order (content K t)
  pub low : t.level ≤ top

-- a root that weighs more than W is split, under a new root
abbrev pub raised : (K : Type 0) (unit : ℕ → ℕ) (l : ℕ) → Item K (suc l) → Tree K
raised K unit l x = cond (over K unit l x) (record { level = suc l; root = left K unit l x ∷ right K unit l x ∷ [] }) (record { level = l; root = x })

-- a root left with one child gives way to it
abbrev pub lowered : (K : Type 0) (l : ℕ) → Item K (suc l) → Tree K
lowered K zero x = record { level = zero; root = x }
lowered K (suc l) [] = record { level = suc l; root = [] }
lowered K (suc l) (c ∷ []) = record { level = l; root = c }
lowered K (suc l) (c ∷ d ∷ cs) = record { level = suc l; root = c ∷ d ∷ cs }

-- an insertion of a key with its handle, or a deletion of a key
pub data Update (K : Type 0) : Type 0 where
  adds : K → ℕ → Update K
  drops : K → Update K

module _ {K : Type 0} (order : K → K → Ordering) (unit : ℕ → ℕ) where
  -- the tree after an update (laws: Rules-kept, Blocks-counted)
  abbrev pub updated : Tree K → Update K → Tree K
  updated t (adds k h) = raised K unit t.level (ins order unit t.level k h t.root)
  updated t (drops k) = lowered K t.level (del order unit t.level k t.root)

  -- its mark at level j; a root never merges (law: Rebalancings-bounded)
  abbrev pub mark : ℕ → Tree K → Update K → Mark
  mark j t (adds k h) = cond (j == t.level) (cond (over K unit t.level (ins order unit t.level k h t.root)) Split Nothing) (ins_mark order unit j t.level k h t.root)
  mark j t (drops k) = del_mark order unit j t.level k t.root
