-- What the parts of a store's calls do, by its fields.
use Rattle.std.specs.Prelude.{◌≡◌, ℕ, ◌+◌, min, List, length, Ok, Err, Result, slice_set}
use Rattle.store.specs.declared.fault.Fault.{Fault}
use Rattle.store.specs.declared.fault.Refused.{Refused}
use Rattle.stores.specs.declared.lent.LentStore.{LentStore}
use Rattle.stores.specs.declared.lent.Runs.{Runs}
use Rattle.stores.specs.Table.{wiped}
use Rattle.stores.specs.Plan.{Plan, block_at, Suits}
use Rattle.stores.specs.Located.{Located}
use Rattle.stores.specs.Opened.{HandedBack}

-- t is s with so many grants, and these marks and words
pub record Becomes {L : Type 0} (s t : LentStore L) (granted : ℕ) (marks words : List ℕ) : Type 0 where
  pub width_is : t.width ≡ s.width
  pub layout_is : t.layout ≡ s.layout
  pub capacity_is : t.grants.capacity ≡ s.grants.capacity
  pub granted_is : t.grants.granted ≡ granted
  pub marks_are : t.grants.marks.now ≡ marks
  pub words_are : t.words.now ≡ words

-- the word at `at` was changed to v
abbrev pub Put : {L : Type 0} → LentStore L → ℕ → ℕ → LentStore L → Type 0
Put s at v t = Becomes s t s.grants.granted s.grants.marks.now (slice_set s.words.now at v)

module _ {L E : Type 0} (plan : L → Plan E) where
  -- the first n words of a slot were cleared
  abbrev pub Cleared : LentStore L → ℕ → ℕ → LentStore L → Type 0
  Cleared s slot n t = Becomes s t s.grants.granted s.grants.marks.now (wiped ((plan s.layout).at s.width slot) n s.words.now)

  -- all words of a slot were cleared
  abbrev pub Wiping : LentStore L → ℕ → LentStore L → Type 0
  Wiping s slot t = Cleared s slot s.width t

  -- a slot was marked and its words cleared, with one grant more
  abbrev pub Granting : LentStore L → ℕ → LentStore L → Type 0
  Granting s slot t = Becomes s t (min (s.grants.granted + 1) 4294967295) (slice_set s.grants.marks.now slot 1) (wiped ((plan s.layout).at s.width slot) s.width s.words.now)

  -- s stands over marks and words as they are, with no grants noted yet
  pub record Over (width : ℕ) (layout : L) (marks words : List ℕ) (s : LentStore L) : Type 0 where
    pub suits : Suits (plan layout) width (length marks) (length words) s.grants.capacity
    pub width_is : s.width ≡ width
    pub layout_is : s.layout ≡ layout
    pub granted_is : s.grants.granted ≡ 0
    pub marks_are : s.grants.marks.now ≡ marks
    pub words_are : s.words.now ≡ words

  -- such a store, or the runs where there is none
  abbrev pub OverOr : ℕ → L → List ℕ → List ℕ → Result (LentStore L) (Refused E (Runs L)) → Type 0
  OverOr width layout marks words (Ok s) = Over width layout marks words s
  OverOr width layout marks words (Err u) = HandedBack plan width layout marks words u

  -- where a word of s stands, or why there is none
  abbrev pub LocatedIn : LentStore L → ℕ → ℕ → Result ℕ Fault → Type 0
  LocatedIn s b i r = Located (block_at (plan s.layout) s.width) s.width s.grants.capacity s.grants.marks.now b i r
