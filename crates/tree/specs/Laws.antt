-- The laws of the tree, over any kind of key and any shape.
use Rattle.std.specs.Prelude.{◌≡◌, ℕ, suc, ◌+◌, ◌-◌, ◌*◌, ◌/◌, ◌<◌, ◌≤◌, true, false, ◌⊎◌, List, [], ◌∷◌, ◌++◌, length, take, drop, slice_index_or}
use Rattle.std.specs.declared.cmp.Ordering.{Ordering}
use Rattle.std.specs.List.{AllByRecursion}
use Rattle.plain.specs.Plain.{Sorted, find, floor, rank, within}
use Rattle.plain.specs.declared.pair.Pair.{Pair}
use Rattle.tree.specs.Lists.{total, joined, onto, Place}
use Rattle.tree.specs.Tree.{Shape, unit_of, Item, Tree, Update, adds, drops, weight, pairs, size, content, empty, Fit, Rules, left, right, starts, route, updated, mark}
use Rattle.tree.specs.Runs.{listed, plain, accepted, takes_up, grown_by, rebalancings}
use Rattle.tree.specs.Counts.{blocks, taken, given_back}
use Rattle.tree.specs.Queries.{find_down, floor_down, rank_down, up_to_down, within_down}
use Rattle.tree.specs.declared.mark.Mark.TheVariants.{Nothing}

-- n is the largest number such that the first n weigh at most what the rest weighs
pub record Largest {X : Type 0} (w : X → ℕ) (xs : List X) (n : ℕ) : Type 0 where
  pub within : n ≤ length xs
  pub light : total w (take n xs) ≤ total w (drop n xs)
  pub largest : (r : ℕ) → r ≤ length xs → total w (take r xs) ≤ total w (drop r xs) → r ≤ n

-- i is the place of the last child that starts at k or below, or the first place if none does
pub record LastChild {K : Type 0} (order : K → K → Ordering) (l : ℕ) (k : K) (c : Item K l) (cs : List (Item K l)) (i : ℕ) : Type 0 where
  pub within : i < length (c ∷ cs)
  pub starts_here : (i ≡ 0) ⊎ (starts order l k (slice_index_or (c ∷ cs) i c) ≡ true)
  pub none_later : (j : ℕ) → i < j → j < length (c ∷ cs) → starts order l k (slice_index_or (c ∷ cs) j c) ≡ false

-- p is place i of xs
pub record At {X : Type 0} (p : Place X) (xs : List X) (i : ℕ) : Type 0 where
  pub put_back : (ys : List X) → onto p.before ys ≡ take i xs ++ ys
  pub is_here : (d : X) → slice_index_or xs i d ≡ p.here
  pub is_after : drop (suc i) xs ≡ p.after

module _ {K : Type 0} (order : K → K → Ordering) (s : Shape) where
  -- t keeps the rules and holds these pairs
  pub record Holds (t : Tree K) (ps : List (Pair K)) : Type 0 where
    pub rules : Rules order (unit_of s) s.top t
    pub pairs : content K t ≡ ps

  -- An accepted update keeps the rules and does to the pairs what it does to the plain list; so do all of a list, from an empty leaf on.
  pub record RulesKept : Type 0 where
    pub each : (t : Tree K) (u : Update K) → Rules order (unit_of s) s.top t → takes_up order (unit_of s) s.top t u ≡ true → Holds (updated order (unit_of s) t u) (listed order (content K t) u)
    pub all : (us : List (Update K)) → Holds (grown_by order (unit_of s) s.top (empty K) us) (plain order (8 * unit_of s s.top) [] us)

  -- At each level, rebalancings times W / 8 + 1 are at most the accepted updates, over any list of updates from an empty leaf on.
  abbrev pub RebalancingsBounded : Type 0
  RebalancingsBounded = (us : List (Update K)) (j : ℕ) → rebalancings order (unit_of s) s.top j (empty K) us * (unit_of s j + 1) ≤ accepted order (8 * unit_of s s.top) [] us

  -- Blocks are counted: two at first, then by what an insertion takes and a deletion gives back. No level above the root has a mark.
  pub record BlocksCounted : Type 0 where
    pub first : blocks K (empty K) ≡ 2
    pub takes : (t : Tree K) (k : K) (h : ℕ) → Rules order (unit_of s) s.top t → blocks K (updated order (unit_of s) t (adds k h)) ≡ blocks K t + taken order (unit_of s) k t
    pub gives : (t : Tree K) (k : K) → blocks K (updated order (unit_of s) t (drops k)) + given_back order (unit_of s) k t ≡ blocks K t
    pub unmarked : (j : ℕ) (t : Tree K) (u : Update K) → t.level < j → mark order (unit_of s) j t u ≡ Nothing

  -- A node of at most 5 W / 4, as when just merged: a leaf has at most 5 / 4 of the leaf limit as pairs, any other at most 5 times the branching as children.
  pub record PlacesSuffice : Type 0 where
    pub leaf : (x : Item K 1) → weight K 1 x ≤ 10 * unit_of s 0 → length x ≤ 10 * s.eighth
    pub inner : (l : ℕ) (x : Item K (suc (suc l))) → AllByRecursion (Fit K (unit_of s) (suc l)) x → weight K (suc (suc l)) x ≤ 10 * unit_of s (suc l) → length x ≤ 5 * s.branching

  -- A node keeps its first items, the most that weigh no more than the rest, and gives the others away: a leaf its larger half.
  pub record Splits : Type 0 where
    pub parts : (l : ℕ) (x : Item K (suc l)) → (n : ℕ) × Largest (weight K l) x n × (left K (unit_of s) l x ≡ take n x) × (right K (unit_of s) l x ≡ drop n x)
    pub leaf : (x : Item K 1) → (length (left K (unit_of s) 0 x) ≡ length x / 2) × (length (right K (unit_of s) 0 x) ≡ (length x + 1) / 2)

  -- The way down goes to the last child that starts at the key or below, or the first.
  abbrev pub WayDown : Type 0
  WayDown = (l : ℕ) (k : K) (c : Item K l) (cs : List (Item K l)) → AllByRecursion (Fit K (unit_of s) l) (c ∷ cs) → Sorted order (joined (pairs K l) (c ∷ cs)) → (i : ℕ) × LastChild order l k c cs i × At (route order l k c cs) (c ∷ cs) i

-- Going down a tree answers as the plain list of its pairs does.
pub record Answers {K : Type 0} (order : K → K → Ordering) (t : Tree K) : Type 0 where
  pub finds : (k : K) → find_down order t.level k t.root ≡ find order k (content K t)
  pub floors : (k : K) → floor_down order t.level k t.root ≡ floor order k (content K t)
  pub ranks : (k : K) → rank_down order t.level k t.root ≡ rank order k (content K t)
  pub reports : (low high : K) → within_down order t.level low high t.root ≡ within order low high (content K t)
  pub counts : (low high : K) → up_to_down order t.level high t.root - rank_down order t.level low t.root ≡ length (within order low high (content K t))
  pub sizes : size K t ≡ length (content K t)

-- It does so in every tree that keeps the rules.
abbrev pub Asked : {K : Type 0} → (K → K → Ordering) → Shape → Type 0
Asked {K} order s = (t : Tree K) → Rules order (unit_of s) s.top t → Answers order t
