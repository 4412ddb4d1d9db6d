-- The plain sorted list: pairs in ascending order of their keys, a tally of accepted updates, and every call.
use Rattle.std.specs.Prelude.{ℕ, ◌+◌, ◌-◌, ◌^◌, min, Bool, cond, ◌&&◌, List, [], ◌∷◌, ◌++◌, map, length, take, drop, is_some, Some, None, Ok, Err, filter, Option, Result, ◌==◌, nat_le}
use Rattle.std.specs.declared.cmp.Ordering.{Ordering}
use Rattle.std.specs.List.{last_or}
use Rattle.std.specs.Ordering.{is_lt, is_le, is_eq, is_ge}
use Rattle.keys.specs.Sorted.{Ascending, how_many}
use Rattle.plain.specs.declared.pair.Pair.{Pair}

module _ {K : Type 0} (order : K → K → Ordering) where
  -- the keys ascend
  abbrev pub Sorted : List (Pair K) → Type 0
  Sorted ps = Ascending (λ p q. order p.key q.key) ps

  -- the handle of the key k, or nothing
  abbrev pub find : K → List (Pair K) → Option ℕ
  find k [] = None
  find k (p ∷ ps) = cond (is_eq (order p.key k)) (Some p.handle) (find k ps)

  -- the key k is there
  abbrev pub present : K → List (Pair K) → Bool
  present k ps = is_some (find k ps)

  -- the last pair with a key at most k, or nothing
  abbrev pub floor : K → List (Pair K) → Option (Pair K)
  floor k ps = last_or None (filter (λ p. is_le (order p.key k)) ps)

  -- how many keys are below k
  abbrev pub rank : K → List (Pair K) → ℕ
  rank k ps = how_many (λ p. is_lt (order p.key k)) ps

  -- how many keys are at most k
  abbrev pub up_to : K → List (Pair K) → ℕ
  up_to k ps = how_many (λ p. is_le (order p.key k)) ps

  -- the pairs with keys from low to high, both included
  abbrev pub within : K → K → List (Pair K) → List (Pair K)
  within low high ps = filter (λ p. is_ge (order p.key low) && is_le (order p.key high)) ps

  -- one pair more, before the first key above it
  abbrev pub put : K → ℕ → List (Pair K) → List (Pair K)
  put k h [] = record { key = k; handle = h } ∷ []
  put k h (p ∷ ps) = cond (is_le (order p.key k)) (p ∷ put k h ps) (record { key = k; handle = h } ∷ p ∷ ps)

  -- without the key k
  abbrev pub cut : K → List (Pair K) → List (Pair K)
  cut k [] = []
  cut k (p ∷ ps) = cond (is_eq (order p.key k)) ps (p ∷ cut k ps)

  -- why an insertion of k is refused: 3 if it is present, 5 at the most keys there may be, 6 if the index says so
  abbrev pub refuses_insert : ℕ → K → Bool → List (Pair K) → Option ℕ
  refuses_insert most k no_room ps = cond (present k ps) (Some 3) (cond (nat_le most (length ps)) (Some 5) (cond no_room (Some 6) None))

  -- why a deletion of k is refused: 4 if it is absent
  abbrev pub refuses_delete : K → List (Pair K) → Option ℕ
  refuses_delete k ps = cond (present k ps) None (Some 4)

-- the pairs, and how many updates were accepted since the list was made or reopened
pub record Plain (K : Type 0) : Type 0 where
  pub pairs : List (Pair K)
  pub tally : ℕ

-- one more, but no more than a word holds
abbrev pub one_more : ℕ → ℕ
one_more n = min (n + 1) (2 ^ 64 - 1)

-- an update with these pairs as its result, unless it is refused: then nothing changes
abbrev pub settled : {K : Type 0} → Option ℕ → List (Pair K) → Plain K → Result (Unit {0}) ℕ × Plain K
settled (Some n) ps s = (Err n, s)
settled None ps s = (Ok tt, record { pairs = ps; tally = one_more s.tally })

-- what f gives of ps in the first places of ys, as many as there are; the other places as they were
abbrev pub over : {P X : Type 0} → (P → X) → List P → List X → List X
over f ps ys = map f (take (length ys) ps) ++ drop (length ps) ys

-- the calls; a report comes with what the lent keys and handles hold
pub data Call (K : Type 0) : Type 0 where
  insert : K → ℕ → Call K
  delete find_key floor_key rank_key : K → Call K
  report : K → K → List K → List ℕ → Call K
  read_tally reopen : Call K

-- the answers, refusals by number; a report's with what the lent keys and handles hold then
pub data Answer (K : Type 0) : Type 0 where
  outcome : Result (Unit {0}) ℕ → Answer K
  found : Option ℕ → Answer K
  nearest : Option (Pair K) → Answer K
  number : ℕ → Answer K
  reported : Result ℕ ℕ → List K → List ℕ → Answer K
  reopened : Answer K

module _ {K : Type 0} (order : K → K → Ordering) where
  -- an insertion into a list of at most so many keys, told whether the index has no room for it
  abbrev pub inserts : ℕ → K → ℕ → Bool → Plain K → Result (Unit {0}) ℕ × Plain K
  inserts most k h no_room s = settled (refuses_insert order most k no_room s.pairs) (put order k h s.pairs) s

  -- a deletion
  abbrev pub deletes : K → Plain K → Result (Unit {0}) ℕ × Plain K
  deletes k s = settled (refuses_delete order k s.pairs) (cut order k s.pairs) s

  -- a report: 7 if the lent keys and handles differ in length, else how many pairs there are, as many written as fit
  abbrev pub reports : K → K → List (Pair K) → List K → List ℕ → Result ℕ ℕ × List K × List ℕ
  reports low high ps ks hs =
      let qs = within order low high ps in
      cond (length ks == length hs) (Ok (length qs), over (λ p. p.key) qs ks, over (λ p. p.handle) qs hs) (Err 7, ks, hs)

  -- what a call answers and leaves
  abbrev pub step : ℕ → Plain K → Call K → Bool → Answer K × Plain K
  step most s (insert k h) no_room = let r = inserts most k h no_room s in (outcome r.0, r.1)
  step most s (delete k) no_room = let r = deletes k s in (outcome r.0, r.1)
  step most s (find_key k) no_room = (found (find order k s.pairs), s)
  step most s (floor_key k) no_room = (nearest (floor order k s.pairs), s)
  step most s (rank_key k) no_room = (number (rank order k s.pairs), s)
  step most s (report low high ks hs) no_room = let r = reports low high s.pairs ks hs in (reported r.0 r.1 r.2, s)
  step most s read_tally no_room = (number s.tally, s)
  step most s reopen no_room = (reopened, record { pairs = s.pairs; tally = 0 })
