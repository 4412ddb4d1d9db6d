-- The questions to the plain list, answered by going down the tree (law: Answers).
use Rattle.std.specs.Prelude.{ℕ, zero, suc, ◌+◌, List, [], ◌∷◌, None, Option}
use Rattle.std.specs.declared.cmp.Ordering.{Ordering}
use Rattle.plain.specs.Plain.{find, floor, rank, up_to, within}
use Rattle.plain.specs.declared.pair.Pair.{Pair}
use Rattle.tree.specs.Lists.{total, joined, while}
use Rattle.tree.specs.Tree.{Item, weight, starts, route}

module _ {K : Type 0} (order : K → K → Ordering) where
  -- the handle of k, from its leaf
  abbrev pub find_down : (l : ℕ) → K → Item K (suc l) → Option ℕ
  find_down zero k x = find order k x
  find_down (suc l) k [] = None
  find_down (suc l) k (c ∷ cs) = find_down l k (route order (suc l) k c cs).here

  -- the floor of k, from its leaf
  abbrev pub floor_down : (l : ℕ) → K → Item K (suc l) → Option (Pair K)
  floor_down zero k x = floor order k x
  floor_down (suc l) k [] = None
  floor_down (suc l) k (c ∷ cs) = floor_down l k (route order (suc l) k c cs).here

  -- the rank of k: what the children passed weigh, and the rank in its leaf
  abbrev pub rank_down : (l : ℕ) → K → Item K (suc l) → ℕ
  rank_down zero k x = rank order k x
  rank_down (suc l) k [] = 0
  rank_down (suc l) k (c ∷ cs) = let at = route order (suc l) k c cs in total (weight K (suc l)) at.before + rank_down l k at.here

  -- how many keys are at most k, in the same way
  abbrev pub up_to_down : (l : ℕ) → K → Item K (suc l) → ℕ
  up_to_down zero k x = up_to order k x
  up_to_down (suc l) k [] = 0
  up_to_down (suc l) k (c ∷ cs) = let at = route order (suc l) k c cs in total (weight K (suc l)) at.before + up_to_down l k at.here

  -- the pairs from low to high: from the child that low leads to on, while children start at high or below
  abbrev pub within_down : (l : ℕ) → K → K → Item K (suc l) → List (Pair K)
  within_down zero low high x = within order low high x
  within_down (suc l) low high [] = []
  within_down (suc l) low high (c ∷ cs) =
      let at = route order (suc l) low c cs in
      joined (within_down l low high) (at.here ∷ while (starts order (suc l) high) at.after)
