-- What holds of the plain sorted list.
use Rattle.std.specs.Prelude.{◌≡◌, ℕ, ◌-◌, ◌^◌, ◌<◌, ◌≤◌, Bool, true, false, cond, List, [], ◌∷◌, ◌++◌, length, Some, None, Err, Option, ◌≢◌}
use Rattle.std.specs.declared.cmp.Ordering.TheVariants.{Less, Greater}
use Rattle.std.specs.declared.cmp.Ordering.{Ordering}
use Rattle.std.specs.Ordering.{is_le, is_eq}
use Rattle.std.specs.List.{AllByRecursion}
use Rattle.keys.specs.declared.checkpoint.Checkpoint.{Checkpoint}
use Rattle.keys.specs.Checkpoints.{order as checkpoint_order}
use Rattle.plain.specs.Plain.{Plain, Call, step, inserts, deletes, reports, Sorted, find, present, put, cut, floor, rank, up_to, within}
use Rattle.plain.specs.Resume.{resume}
use Rattle.plain.specs.declared.pair.Pair.{Pair}

module _ {K : Type 0} (order : K → K → Ordering) where
  -- r is the handle that k has in the list, or nothing where it has none
  abbrev pub HandleOf : K → List (Pair K) → Option ℕ → Type 0
  HandleOf k ps None = AllByRecursion (λ p. p.key ≢ k) ps
  HandleOf k ps (Some h) = (before : List (Pair K)) × (after : List (Pair K)) × (ps ≡ before ++ (record { key = k; handle = h } ∷ after))

  -- r is the largest pair with a key at most k: all before it are below it, all after it are above k
  pub record LargestAt (k : K) (ps : List (Pair K)) (r : Pair K) : Type 0 where
    pub before : List (Pair K)
    pub after : List (Pair K)
    pub is : ps ≡ before ++ (r ∷ after)
    pub at_most : is_le (order r.key k) ≡ true
    pub smaller : AllByRecursion (λ p. order p.key r.key ≡ Less) before
    pub above : AllByRecursion (λ p. order p.key k ≡ Greater) after

  -- r is that pair, or nothing where every key is above k
  abbrev pub Floor : K → List (Pair K) → Option (Pair K) → Type 0
  Floor k ps None = AllByRecursion (λ p. order p.key k ≡ Greater) ps
  Floor k ps (Some r) = LargestAt k ps r

  -- the keys that stand from low to high are counted by two ranks, and there are none where low exceeds high
  pub record Interval (low high : K) (ps : List (Pair K)) : Type 0 where
    pub counted : length (within order low high ps) ≡ up_to order high ps - rank order low ps
    pub none : order low high ≡ Greater → within order low high ps ≡ []

  -- a refusal leaves list, tally, and lent keys and handles as they were
  pub record Refusals (most : ℕ) (s : Plain K) : Type 0 where
    pub insertion : (k : K) (h : ℕ) (no_room : Bool) (n : ℕ) → (inserts order most k h no_room s).0 ≡ Err n → (inserts order most k h no_room s).1 ≡ s
    pub deletion : (k : K) (n : ℕ) → (deletes order k s).0 ≡ Err n → (deletes order k s).1 ≡ s
    pub report : (low high : K) (ks : List K) (hs : List ℕ) (n : ℕ) → (reports order low high s.pairs ks hs).0 ≡ Err n → ((reports order low high s.pairs ks hs).1 ≡ ks) × ((reports order low high s.pairs ks hs).2 ≡ hs)

  -- the laws at one list
  pub record Listing (ps : List (Pair K)) : Type 0 where
    pub finds : (k : K) → HandleOf k ps (find order k ps)
    -- a pair put in is found, and every other key as before; a key cut out is not, and every other as before
    pub puts : (k : K) (h : ℕ) (q : K) → present order k ps ≡ false → find order q (put order k h ps) ≡ cond (is_eq (order k q)) (Some h) (find order q ps)
    pub cuts : (k q : K) → find order q (cut order k ps) ≡ cond (is_eq (order k q)) None (find order q ps)
    pub floors : (k : K) → Floor k ps (floor order k ps)
    pub intervals : (low high : K) → Interval low high ps
    -- every call keeps the keys ascending
    pub kept : (most n : ℕ) (call : Call K) (no_room : Bool) → Sorted order (step order most (record { pairs = ps; tally = n }) call no_room).1.pairs

  -- they hold of every list in ascending order; refusals change nothing in any
  abbrev pub PlainLaws : Type 0
  PlainLaws = ((ps : List (Pair K)) → Sorted order ps → Listing ps) × ((most : ℕ) (s : Plain K) → Refusals most s)

-- r is the last step of the case, or nothing where the case has none
abbrev pub LastStep : ℕ → List (Pair Checkpoint) → Option (Pair Checkpoint) → Type 0
LastStep case ps None = AllByRecursion (λ p. p.key.case ≢ case) ps
LastStep case ps (Some r) = (r.key.case ≡ case) × LargestAt checkpoint_order r.key ps r × AllByRecursion (λ p. p.key.case ≡ case → p.key.step ≤ r.key.step) ps

-- resume finds it
abbrev pub Resumes : Type 0
Resumes = (ps : List (Pair Checkpoint)) → Sorted checkpoint_order ps → (case : ℕ) → case < 2 ^ 32 → LastStep case ps (resume case ps)
