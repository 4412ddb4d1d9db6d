-- How many nodes a tree has, how many an insertion takes, and how many a deletion gives back.
use Rattle.std.specs.Prelude.{ℕ, zero, suc, ◌+◌, ◌*◌, Bool, cond, [], ◌∷◌, ◌==◌}
use Rattle.std.specs.declared.cmp.Ordering.{Ordering}
use Rattle.tree.specs.Lists.{total}
use Rattle.tree.specs.Tree.{Item, Tree, drops, weight, route, del, mark}
use Rattle.tree.specs.declared.mark.Mark.{Mark}
use Rattle.tree.specs.declared.mark.Mark.TheVariants.{Nothing, Split, Merge, MergeSplit}

-- the nodes in an item; a pair is none
abbrev pub nodes : (K : Type 0) (l : ℕ) → Item K l → ℕ
nodes K zero x = 0
nodes K (suc l) xs = suc (total (nodes K l) xs)

-- the blocks of a tree: its nodes, and a header
abbrev pub blocks : (K : Type 0) → Tree K → ℕ
blocks K t = suc (nodes K (suc t.level) t.root)

-- a node that weighs W is full
abbrev pub full : (K : Type 0) (unit : ℕ → ℕ) (l : ℕ) → Item K (suc l) → Bool
full K unit l x = weight K (suc l) x == 8 * unit l

module _ {K : Type 0} (order : K → K → Ordering) (unit : ℕ → ℕ) where
  -- the full nodes on the path of k, below a node of level l
  abbrev pub full_below : (l : ℕ) → K → Item K (suc l) → ℕ
  full_below zero k x = 0
  full_below (suc l) k [] = 0
  full_below (suc l) k (c ∷ cs) = let at = route order (suc l) k c cs in cond (full K unit l at.here) 1 0 + full_below l k at.here

  -- the blocks that an insertion of k takes: one for each full node on its path, the root among them, and one more if the root is full
  abbrev pub taken : K → Tree K → ℕ
  taken k t = let root = cond (full K unit t.level t.root) 1 0 in (full_below t.level k t.root + root) + root

-- a merge gives a block back, unless it is split again
abbrev pub gives : Mark → ℕ
gives Nothing = 0
gives Split = 0
gives Merge = 1
gives MergeSplit = 0

-- the sum of f over the levels below l
abbrev pub levels : (ℕ → ℕ) → ℕ → ℕ
levels f zero = 0
levels f (suc l) = f l + levels f l

-- a root left with one child is given back
abbrev pub lone : (K : Type 0) (l : ℕ) → Item K (suc l) → ℕ
lone K zero x = 0
lone K (suc l) [] = 0
lone K (suc l) (c ∷ []) = 1
lone K (suc l) (c ∷ d ∷ cs) = 0

-- the blocks that a deletion of k gives back: one for each merge not split again, one for a root left with one child
abbrev pub given_back : {K : Type 0} (order : K → K → Ordering) (unit : ℕ → ℕ) → K → Tree K → ℕ
given_back {K} order unit k t = levels (λ j. gives (mark order unit j t (drops k))) t.level + lone K t.level (del order unit t.level k t.root)
