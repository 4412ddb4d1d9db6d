-- Examples at the edges, in the shape of an index: leaves of 64, a branching of 16 and the top at level 4. Keys are numbers.
use Rattle.std.specs.Prelude.{◌≡◌, ℕ, zero, suc, ◌+◌, ◌*◌, List, [], ◌∷◌, map}
use Rattle.tree.specs.Tree.{index_unit, Item, Tree, Update, adds, drops, weight, left, right, updated, mark}
use Rattle.tree.specs.Counts.{blocks, taken, given_back}
use Rattle.tree.specs.declared.mark.Mark.{Mark}
use Rattle.tree.specs.declared.mark.Mark.TheVariants.{Nothing, Split, Merge, MergeSplit}
use Rattle.std.specs.Ordering.{nat_cmp}

-- a leaf with n keys: a, a + 2, ..
abbrev pub leaf : ℕ → ℕ → Item ℕ 1
leaf a zero = []
leaf a (suc n) = record { key = a; handle = 0 } ∷ leaf (2 + a) n

-- leaves of these sizes, one after the other, the keys from a on
abbrev pub leaves : ℕ → List ℕ → Item ℕ 2
leaves a [] = []
leaves a (n ∷ ns) = leaf a n ∷ leaves (a + 2 * n) ns

-- n times x, then xs
abbrev pub times : ℕ → ℕ → List ℕ → List ℕ
times zero x xs = xs
times (suc n) x xs = x ∷ times n x xs

-- a leaf root with n keys: 0, 2, ..
abbrev pub leaf_root : ℕ → Tree ℕ
leaf_root n = record { level = 0; root = leaf 0 n }

-- a root of level 1 over leaves of these sizes
abbrev pub root_over : List ℕ → Tree ℕ
root_over ns = record { level = 1; root = leaves 0 ns }

-- a root of level 2 over a node of 1,024, whose first leaf has 20, and one of 300
abbrev pub two_high : Tree ℕ
two_high = record { level = 2; root = leaves 0 (20 ∷ 44 ∷ times 15 64 []) ∷ leaves 2048 (times 5 60 []) ∷ [] }

-- the tree after an update
abbrev pub after : Update ℕ → Tree ℕ → Tree ℕ
after u t = updated nat_cmp index_unit t u

-- its marks, level 0 first
abbrev pub marks : Update ℕ → Tree ℕ → List Mark
marks u t = map (λ j. mark nat_cmp index_unit j t u) (0 ∷ 1 ∷ 2 ∷ 3 ∷ 4 ∷ [])

-- the tree after n insertions: of a, a + 2, ..
abbrev pub after_adds : ℕ → ℕ → Tree ℕ → Tree ℕ
after_adds zero a t = t
after_adds (suc n) a t = after_adds n (2 + a) (after (adds a 0) t)

-- the level of the root, then what its items weigh
abbrev pub seen : Tree ℕ → List ℕ
seen t = t.level ∷ map (weight ℕ t.level) t.root

-- the table
pub record Edges : Type 0 where
  -- a full leaf root of 64 and one more: leaves of 32 and 33 under a root of level 1, and two blocks more
  pub full_leaf : seen (after (adds 7 0) (leaf_root 64)) ≡ 1 ∷ 32 ∷ 33 ∷ []
  pub full_leaf_marks : marks (adds 7 0) (leaf_root 64) ≡ Split ∷ Nothing ∷ Nothing ∷ Nothing ∷ Nothing ∷ []
  pub full_leaf_blocks : (blocks ℕ (leaf_root 64) ≡ 2) × (taken nat_cmp index_unit 7 (leaf_root 64) ≡ 2) × (blocks ℕ (after (adds 7 0) (leaf_root 64)) ≡ 4)
  -- a leaf fallen to 15: beside 41 one leaf of 56, beside 42 leaves of 28 and 29, beside 64 leaves of 39 and 40
  pub beside_41 : (seen (after (drops 82) (root_over (41 ∷ 16 ∷ 20 ∷ []))) ≡ 1 ∷ 56 ∷ 20 ∷ []) × (marks (drops 82) (root_over (41 ∷ 16 ∷ 20 ∷ [])) ≡ Merge ∷ Nothing ∷ Nothing ∷ Nothing ∷ Nothing ∷ [])
  pub beside_42 : seen (after (drops 84) (root_over (42 ∷ 16 ∷ 20 ∷ []))) ≡ 1 ∷ 28 ∷ 29 ∷ 20 ∷ []
  pub beside_64 : (seen (after (drops 128) (root_over (64 ∷ 16 ∷ 20 ∷ []))) ≡ 1 ∷ 39 ∷ 40 ∷ 20 ∷ []) × (marks (drops 128) (root_over (64 ∷ 16 ∷ 20 ∷ [])) ≡ MergeSplit ∷ Nothing ∷ Nothing ∷ Nothing ∷ Nothing ∷ [])
  -- the same where the light leaf is the first, and its sibling stands to the right
  pub right_of_15 : (seen (after (drops 0) (root_over (16 ∷ 41 ∷ []))) ≡ 0 ∷ times 56 1 []) × (seen (after (drops 0) (root_over (16 ∷ 42 ∷ []))) ≡ 1 ∷ 28 ∷ 29 ∷ [])
  -- a root over leaves of 16 and 16, one deletion: a leaf root of 31, and two blocks given back
  pub lone_leaf : (seen (after (drops 0) (root_over (16 ∷ 16 ∷ []))) ≡ 0 ∷ times 31 1 []) × (blocks ℕ (root_over (16 ∷ 16 ∷ [])) ≡ 4) × (given_back nat_cmp index_unit 0 (root_over (16 ∷ 16 ∷ [])) ≡ 2)
  -- a node of level 1 that weighs 1,024, alone full on the path, an insertion into its leaf of 20
  pub full_inner : (marks (adds 1 0) two_high ≡ Nothing ∷ Split ∷ Nothing ∷ Nothing ∷ Nothing ∷ []) × (seen (after (adds 1 0) two_high) ≡ 2 ∷ 449 ∷ 576 ∷ 300 ∷ []) × (taken nat_cmp index_unit 1 two_high ≡ 1)
  -- 25 children of 41 split into 492 and 533
  pub inner_halves : (weight ℕ 2 (left ℕ index_unit 1 (leaves 0 (times 25 41 []))) ≡ 492) × (weight ℕ 2 (right ℕ index_unit 1 (leaves 0 (times 25 41 []))) ≡ 533)
  -- a merged leaf of 56 splits at the ninth insertion, not at the eighth
  pub eighth : seen (after_adds 8 1 (root_over (56 ∷ 20 ∷ []))) ≡ 1 ∷ 64 ∷ 20 ∷ []
  pub ninth : seen (after_adds 9 1 (root_over (56 ∷ 20 ∷ []))) ≡ 1 ∷ 32 ∷ 33 ∷ 20 ∷ []
  -- W / 8 + 1 at levels 2, 3 and 4
  pub rates : (index_unit 2 + 1 ≡ 2049) × (index_unit 3 + 1 ≡ 32769) × (index_unit 4 + 1 ≡ 524289)
