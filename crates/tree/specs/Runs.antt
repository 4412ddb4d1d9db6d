-- Lists of updates from a tree on, and from a plain list on.
use Rattle.std.specs.Prelude.{ℕ, ◌+◌, ◌*◌, Bool, false, cond, not, List, [], ◌∷◌, is_some}
use Rattle.std.specs.declared.cmp.Ordering.{Ordering}
use Rattle.plain.specs.Plain.{put, cut, refuses_insert, refuses_delete}
use Rattle.tree.specs.Tree.{Tree, Update, adds, drops, content, updated, mark}
use Rattle.tree.specs.declared.mark.Mark.{Mark}
use Rattle.tree.specs.declared.mark.Mark.TheVariants.{Nothing, Split, Merge, MergeSplit}
use Rattle.plain.specs.declared.pair.Pair.{Pair}

-- every mark but Nothing is one rebalancing
abbrev pub counts : Mark → ℕ
counts Nothing = 0
counts Split = 1
counts Merge = 1
counts MergeSplit = 1

-- what an accepted update makes of the plain list
abbrev pub listed : {K : Type 0} (order : K → K → Ordering) → List (Pair K) → Update K → List (Pair K)
listed order ps (adds k h) = put order k h ps
listed order ps (drops k) = cut order k ps

module _ {K : Type 0} (order : K → K → Ordering) (most : ℕ) where
  -- the plain list accepts an update
  abbrev pub accepts : List (Pair K) → Update K → Bool
  accepts ps (adds k h) = not (is_some (refuses_insert order most k false ps))
  accepts ps (drops k) = not (is_some (refuses_delete order k ps))

  -- the list after any updates, of which the refused change nothing
  abbrev pub plain : List (Pair K) → List (Update K) → List (Pair K)
  plain ps [] = ps
  plain ps (u ∷ us) = plain (cond (accepts ps u) (listed order ps u) ps) us

  -- how many of them were accepted
  abbrev pub accepted : List (Pair K) → List (Update K) → ℕ
  accepted ps [] = 0
  accepted ps (u ∷ us) = cond (accepts ps u) 1 0 + accepted (cond (accepts ps u) (listed order ps u) ps) us

module _ {K : Type 0} (order : K → K → Ordering) (unit : ℕ → ℕ) (top : ℕ) where
  -- the tree accepts an update as the plain list of its pairs does, with W(top) keys at most
  abbrev pub takes_up : Tree K → Update K → Bool
  takes_up t u = accepts order (8 * unit top) (content K t) u

  -- the tree after an update, accepted or not
  abbrev pub next : Tree K → Update K → Tree K
  next t u = cond (takes_up t u) (updated order unit t u) t

  -- the tree after any updates
  abbrev pub grown_by : Tree K → List (Update K) → Tree K
  grown_by t [] = t
  grown_by t (u ∷ us) = grown_by (next t u) us

  -- the rebalancings of level j in them
  abbrev pub rebalancings : ℕ → Tree K → List (Update K) → ℕ
  rebalancings j t [] = 0
  rebalancings j t (u ∷ us) = cond (takes_up t u) (counts (mark order unit j t u)) 0 + rebalancings j (next t u) us
