-- What the calls on a store's marks do.
use Rattle.std.specs.Prelude.{◌≡◌, ℕ, ◌+◌, ◌-◌, ◌^◌, ◌<◌, ◌≤◌, min, List, Some, None, Option, ◌⊎◌, ◌≢◌, slice_index, slice_set}
use Rattle.store.specs.Meaning.{count_to}
use Rattle.stores.specs.declared.grants.Grants.{Grants}
use Rattle.stores.specs.Table.{in_use, unmarked}

-- t is s with so many grants, and these marks
pub record Noted (s t : Grants) (granted : ℕ) (marks : List ℕ) : Type 0 where
  pub capacity_is : t.capacity ≡ s.capacity
  pub granted_is : t.granted ≡ granted
  pub marks_are : t.marks.now ≡ marks

-- a slot was marked, with one grant more
abbrev pub Adding : Grants → ℕ → Grants → Type 0
Adding s slot t = Noted s t (min (s.granted + 1) 4294967295) (slice_set s.marks.now slot 1)

-- a slot's mark was taken away, with one grant less
abbrev pub Removing : Grants → ℕ → Grants → Type 0
Removing s slot t = Noted s t (s.granted - 1) (slice_set s.marks.now slot 0)

-- every slot's mark was taken away
abbrev pub Clearing : Grants → Grants → Type 0
Clearing s t = Noted s t s.granted (unmarked s.capacity s.marks.now)

-- the marks were counted
abbrev pub Counting : Grants → Grants → Type 0
Counting s t = Noted s t (count_to (in_use s.capacity s.marks.now) s.capacity) s.marks.now

-- a slot below the capacity that is not marked
pub record FreeAt (s : Grants) (slot : ℕ) : Type 0 where
  pub low : slot < s.capacity
  pub unused : slice_index s.marks.now slot ≡ 0

-- what a look from a slot on for a free one answers: the first there is
abbrev pub FreeFrom : Grants → ℕ → Option ℕ → Type 0
FreeFrom s start (Some slot) = FreeAt s slot × ((k : ℕ) → start ≤ k → k < slot → slice_index s.marks.now k ≢ 0)
FreeFrom s start None = (k : ℕ) → start ≤ k → k < s.capacity → slice_index s.marks.now k ≢ 0

-- such a slot, where fewer are granted than may be; its block's number is a `u32`
pub record Spare (s : Grants) (slot : ℕ) : Type 0 where
  pub few : s.granted < s.capacity
  pub free : FreeAt s slot
  pub numbered : slot + 1 < 2 ^ 32

-- what a look for a free slot answers: none, where so many are granted, or all are marked
abbrev pub Free : Grants → Option ℕ → Type 0
Free s (Some slot) = Spare s slot
Free s None = (s.capacity ≤ s.granted) ⊎ ((k : ℕ) → k < s.capacity → slice_index s.marks.now k ≢ 0)
