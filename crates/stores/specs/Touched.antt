-- What each call of a store in lent memory leaves of its runs.
use Rattle.std.specs.Prelude.{ℕ, ◌+◌, ◌-◌, min, Ok, Err, Result, ◌≢◌, slice_set}
use Rattle.store.specs.declared.fault.Fault.{Fault}
use Rattle.stores.specs.declared.lent.LentStore.{LentStore}
use Rattle.stores.specs.Table.{wiped}
use Rattle.stores.specs.Plan.{Plan, block_at}
use Rattle.stores.specs.Steps.{Becomes, Put}

-- no mark and no word changed
abbrev pub Untouched : {L : Type 0} → LentStore L → LentStore L → Type 0
Untouched s t = Becomes s t s.grants.granted s.grants.marks.now s.words.now

module _ {L E : Type 0} (plan : L → Plan E) where
  -- block b's mark became some byte but 0, and its words 0; no other mark or word changed
  pub record Marked (s t : LentStore L) (b : ℕ) : Type 0 where
    pub byte : ℕ
    pub some : byte ≢ 0
    pub runs : Becomes s t (min (s.grants.granted + 1) 4294967295) (slice_set s.grants.marks.now (b - 1) byte) (wiped (block_at (plan s.layout) s.width b) s.width s.words.now)

  -- what a take leaves
  abbrev pub TakeLeaves : LentStore L → Result ℕ Fault → LentStore L → Type 0
  TakeLeaves s (Ok b) t = Marked s t b
  TakeLeaves s (Err f) t = Untouched s t

  -- what setting the word at a place of block b leaves
  abbrev pub SetLeaves : ℕ → ℕ → ℕ → LentStore L → Result (Unit {0}) Fault → LentStore L → Type 0
  SetLeaves b place v s (Ok _) t = Put s (block_at (plan s.layout) s.width b place) v t
  SetLeaves b place v s (Err f) t = Untouched s t

-- what giving block b back leaves: its mark became 0, and nothing else changed
abbrev pub GiveLeaves : {L : Type 0} → ℕ → LentStore L → Result (Unit {0}) Fault → LentStore L → Type 0
GiveLeaves b s (Ok _) t = Becomes s t (s.grants.granted - 1) (slice_set s.grants.marks.now (b - 1) 0) s.words.now
GiveLeaves b s (Err f) t = Untouched s t
