-- What a pile over fresh runs answers, and what it leaves in the runs. `plan` tells what each layout says of itself.
use Rattle.std.specs.Prelude.{◌≡◌, ℕ, ◌<◌, ◌≤◌, min, cond, length, Ok, Err, Result, nat_le, slice_index_or}
use Rattle.store.specs.declared.fault.Fault.{Fault}
use Rattle.store.specs.declared.fault.Refusal.TheVariants.{NoRoom}
use Rattle.store.specs.declared.fault.Unmade.{Unmade}
use Rattle.store.specs.Meaning.{Meaning}
use Rattle.stores.specs.declared.lent.LentStore.{LentStore}
use Rattle.stores.specs.declared.lent.Runs.{Runs}
use Rattle.stores.specs.declared.table.Rows.{Rows}
use Rattle.stores.specs.Table.{laid, blank}
use Rattle.stores.specs.Plan.{Plan, block_at, Suits}
use Rattle.stores.specs.Rows.{rows_plan}
use Rattle.stores.specs.Opened.{Fresh}
use Rattle.piles.specs.declared.one.Ended.{Ended}
use Rattle.piles.specs.One.{with_one}
use Rattle.piles.specs.Lined.{Untouched, Lined, Unmaking}

-- the runs that a store was ended into
pub record Returned {L : Type 0} (s : LentStore L) (b : Runs L) : Type 0 where
  pub same_layout : b.layout ≡ s.layout
  pub same_marks : b.marks.now ≡ s.grants.marks.now
  pub same_words : b.words.now ≡ s.words.now

module _ {L E : Type 0} (plan : L → Plan E) where
  -- the blocks of w words that runs hold
  abbrev pub blocks_in : ℕ → Runs L → ℕ
  blocks_in w a = (plan a.layout).most w (length a.marks.now) (length a.words.now)

  -- what runs mean to a store that is opened over them
  abbrev pub runs_mean : ℕ → Runs L → Meaning
  runs_mean w a = laid (block_at (plan a.layout) w) w (blocks_in w a) a.marks.now a.words.now

  -- the blocks of w words that runs hold have all that they need
  abbrev pub RunsSuit : ℕ → Runs L → Type 0
  RunsSuit w a = Suits (plan a.layout) w (length a.marks.now) (length a.words.now) (blocks_in w a)

  -- the word x came back as v, and stands in the lent words as the first of a block, where the layout handed back says
  pub record RunsDone (room w x : ℕ) (a : Runs L) (v : ℕ) (b : Runs L) : Type 0 where
    pub suits : RunsSuit w a
    pub some_room : 0 < room
    pub value : v ≡ x
    pub block : ℕ
    pub low : 1 ≤ block
    pub high : block ≤ blocks_in w a
    pub after : runs_mean w b ≡ with_one x (blank w (blocks_in w a)) block
    pub stands : slice_index_or b.words.now (block_at (plan b.layout) w block 0) 0 ≡ x

  -- the pile had no room, and the runs have no grants
  pub record RunsFull (room deep w : ℕ) (a : Runs L) (f : Fault) (b : Runs L) : Type 0 where
    pub suits : RunsSuit w a
    pub no_room : room ≡ 0
    pub refusal : f.refusal ≡ NoRoom
    pub block : f.block ≡ 0
    pub depth : f.depth ≡ deep
    pub after : runs_mean w b ≡ blank w (blocks_in w a)

  -- no store was made, and the runs are as they were
  pub record RunsUnfit (w : ℕ) (a : Runs L) (e : E) (b : Runs L) : Type 0 where
    pub because : (plan a.layout).because w (length a.marks.now) (length a.words.now) e
    pub left : Untouched a b

  -- what a pile with so much room answers over a store that was made, where its lack of room arises so deep
  abbrev pub Served : ℕ → ℕ → ℕ → ℕ → Runs L → Result ℕ Fault → Runs L → Type 0
  Served room deep w x a (Ok v) b = RunsDone room w x a v b
  Served room deep w x a (Err f) b = RunsFull room deep w a f b

  module _ (cause : Fault → E) (Rel : Result ℕ Fault → Runs L → Type 0) (w : ℕ) (a : Runs L) where
    -- why it was refused: no store was made, or the pile refused
    pub data RunsFail (e : E) (b : Runs L) : Type 0 where
      runs_unfit : RunsUnfit w a e b → RunsFail e b
      pile_fail : (f : Fault) → e ≡ cause f → Rel (Err f) b → RunsFail e b

    -- what a pile answers over a store that is made first, where it answers `Rel` over a store that was made
    abbrev pub Ran : Result ℕ E → Runs L → Type 0
    Ran (Ok v) b = Rel (Ok v) b
    Ran (Err e) b = RunsFail e b

  -- a step with a fresh store in the runs was taken, and the store ended
  pub record Stepped (Post : LentStore L → Ended E (LentStore L) → Type 0) (w : ℕ) (a : Runs L) (r : Ended E (Runs L)) : Type 0 where
    pub store : LentStore L
    pub fresh : Fresh plan w a.layout a.marks.now a.words.now store
    pub ended : Ended E (LentStore L)
    pub post : Post store ended
    pub same_answer : r.answer ≡ ended.answer
    pub back : Returned ended.back r.back

  -- what such a step leaves, or the runs where there is no store
  pub data OverFresh (Post : LentStore L → Ended E (LentStore L) → Type 0) (w : ℕ) (a : Runs L) (r : Ended E (Runs L)) : Type 0 where
    not_made : (e : E) → r.answer ≡ Err e → RunsUnfit w a e r.back → OverFresh Post w a r
    made : Stepped Post w a r → OverFresh Post w a r

-- the plan of a table
abbrev pub rows : Rows → Plan Fault
rows _ = rows_plan

-- what a pile with so much room answers over a table that is made first
abbrev pub RanRows : ℕ → ℕ → ℕ → ℕ → Runs Rows → Result ℕ Fault → Runs Rows → Type 0
RanRows room deep w x a r b = Ran rows (λ f. f) (λ s c. Served rows room deep w x a s c) w a r b

-- under a quota of p blocks over one of q
abbrev pub TwoQuotas : ℕ → ℕ → ℕ → ℕ → Runs Rows → Result ℕ Fault → Runs Rows → Type 0
TwoQuotas p q w x a r b =
    RanRows (min p (min q (blocks_in rows w a))) (cond (nat_le p 0) 1 (cond (nat_le q 0) 2 3)) w x a r b

-- under a quota of p blocks over a cache
abbrev pub Cached : ℕ → ℕ → ℕ → Runs Rows → Result ℕ Fault → Runs Rows → Type 0
Cached p w x a r b = RanRows (min p (blocks_in rows w a)) (cond (nat_le p 0) 1 3) w x a r b

-- the same with a cache of n lines that is made first
abbrev pub QuotaCache : ℕ → ℕ → ℕ → ℕ → Runs Rows → Result ℕ Unmade → Runs Rows → Type 0
QuotaCache p n w x a r b = Lined n (λ s c. Unmaking (λ t. Cached p w x a t c) s) a r b
