-- How far nodes are out of the middle, which is what pays for rebalancings.
use Rattle.std.proofs.Common.{ℕ, zero, suc, ◌+◌, ◌-◌, ◌*◌, max, cond, eqb}
use Rattle.tree.specs.Lists.{total}
use Rattle.tree.specs.Tree.{Item, Tree, weight, size}
use Rattle.tree.specs.declared.mark.Mark.{Mark}
use Rattle.tree.specs.declared.mark.Mark.TheVariants.{Nothing, Split, Merge, MergeSplit}

-- what a rebalancing costs
abbrev pub price : ℕ → Mark → ℕ
price u Nothing = 0
price u Split = u + 1
price u Merge = u + 1
price u MergeSplit = u + 1

-- how far a node of weight w is below 3 W / 8 or above 7 W / 8, where W is 8 * u
unfoldable pub strain : ℕ → ℕ → ℕ
strain u w = max (w - 7 * u) (3 * u - w)

-- a root can weigh too little without harm
unfoldable pub root_strain : ℕ → ℕ → ℕ
root_strain u w = w - 7 * u

module _ (K : Type 0) (unit : ℕ → ℕ) where
  -- the strain of level j at a node of level l
  abbrev pub here_strain : ℕ → ℕ → ℕ → ℕ
  here_strain j l w = cond (eqb j l) (strain (unit l) w) 0

  -- in an item, and in a tree
  abbrev pub strains : ℕ → (l : ℕ) → Item K l → ℕ
  strains j zero x = 0
  strains j (suc l) xs = here_strain j l (weight K (suc l) xs) + total (strains j l) xs

  abbrev pub tree_strain : ℕ → Tree K → ℕ
  tree_strain j t = cond (eqb j t.level) (root_strain (unit t.level) (size K t)) 0 + total (strains j t.level) t.root
