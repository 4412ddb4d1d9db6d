-- What a store in lent memory is made with, and what it means. `plan` tells what each layout says of itself.
use Rattle.std.specs.Prelude.{◌≡◌, ℕ, List, length, Ok, Err, Result}
use Rattle.store.specs.declared.fault.Refused.{Refused}
use Rattle.store.specs.Meaning.{Meaning}
use Rattle.stores.specs.declared.lent.LentStore.{LentStore}
use Rattle.stores.specs.declared.lent.Runs.{Runs}
use Rattle.stores.specs.Table.{laid, blank, unmarked}
use Rattle.stores.specs.Plan.{Plan, block_at, StoreFits}

module _ {L E : Type 0} (plan : L → Plan E) where
  -- what a store means
  abbrev pub means : LentStore L → Meaning
  means s = laid (block_at (plan s.layout) s.width) s.width s.grants.capacity s.grants.marks.now s.words.now

  -- what every call on a store needs and keeps; the rover may have any value
  abbrev pub Ready : LentStore L → Type 0
  Ready s = StoreFits (plan s.layout) s.width s.grants.capacity s.grants.granted s.grants.marks.now s.words.now

  -- a fresh store over marks and words has no grants; it leaves the words and the marks past its capacity
  pub record Fresh (width : ℕ) (layout : L) (marks words : List ℕ) (s : LentStore L) : Type 0 where
    pub ready : Ready s
    pub same : means s ≡ blank width ((plan layout).most width (length marks) (length words))
    pub layout_left : s.layout ≡ layout
    pub marks_left : s.grants.marks.now ≡ unmarked s.grants.capacity marks
    pub words_left : s.words.now ≡ words

  -- a store opened over marks and words as they were left
  pub record Reopened (width : ℕ) (layout : L) (marks words : List ℕ) (s : LentStore L) : Type 0 where
    pub ready : Ready s
    pub same : means s ≡ laid (block_at (plan layout) width) width ((plan layout).most width (length marks) (length words)) marks words
    pub layout_left : s.layout ≡ layout
    pub marks_left : s.grants.marks.now ≡ marks
    pub words_left : s.words.now ≡ words

  -- no store, and the runs are handed back as they were
  pub record HandedBack (width : ℕ) (layout : L) (marks words : List ℕ) (u : Refused E (Runs L)) : Type 0 where
    pub because : (plan layout).because width (length marks) (length words) u.cause
    pub layout_left : u.back.layout ≡ layout
    pub marks_left : u.back.marks.now ≡ marks
    pub words_left : u.back.words.now ≡ words

  -- what `fresh` answers
  abbrev pub FreshOr : ℕ → L → List ℕ → List ℕ → Result (LentStore L) (Refused E (Runs L)) → Type 0
  FreshOr width layout marks words (Ok s) = Fresh width layout marks words s
  FreshOr width layout marks words (Err u) = HandedBack width layout marks words u

  -- what `reopen` answers
  abbrev pub ReopenedOr : ℕ → L → List ℕ → List ℕ → Result (LentStore L) (Refused E (Runs L)) → Type 0
  ReopenedOr width layout marks words (Ok s) = Reopened width layout marks words s
  ReopenedOr width layout marks words (Err u) = HandedBack width layout marks words u

  -- a ready store that means m
  pub record Means (m : Meaning) (s : LentStore L) : Type 0 where
    pub ready : Ready s
    pub same : means s ≡ m

  -- the cause is no fault of the runs, and those of s are handed back as they were
  pub record Starved (s : LentStore L) (u : Refused E (Runs L)) : Type 0 where
    pub cause : (plan s.layout).aside u.cause
    pub layout_left : u.back.layout ≡ s.layout
    pub marks_left : u.back.marks.now ≡ s.grants.marks.now
    pub words_left : u.back.words.now ≡ s.words.now

  -- a store that means what s means, unless the cause is no fault of the runs
  abbrev pub StillMeans : LentStore L → Result (LentStore L) (Refused E (Runs L)) → Type 0
  StillMeans s (Ok t) = Means (means s) t
  StillMeans s (Err u) = Starved s u

  -- runs that, opened again with the width of s, give a store that means what s means, unless the cause is no fault of theirs
  abbrev pub OpenAgain : LentStore L → Runs L → Type 0
  OpenAgain s runs = (r : Result (LentStore L) (Refused E (Runs L))) → ReopenedOr s.width runs.layout runs.marks.now runs.words.now r → StillMeans s r
