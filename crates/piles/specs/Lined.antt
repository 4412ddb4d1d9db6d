-- What a pile through a cache answers whose table of lines is made first.
use Rattle.std.specs.Prelude.{◌≡◌, ℕ, ◌≤◌, Ok, Err, Result}
use Rattle.store.specs.declared.fault.Fault.{Fault}
use Rattle.store.specs.declared.fault.Unmade.{Unmade}
use Rattle.store.specs.declared.fault.Unmade.TheVariants.{Refused, NoMemory}
use Rattle.stores.specs.declared.lent.Runs.{Runs}
use Rattle.cache.specs.declared.line.LineTable.{LineTable}
use Rattle.cache.specs.Lines.{Made, MadeNone}
use Rattle.piles.specs.declared.one.Ended.{Ended}

-- runs that are as they were
pub record Untouched {L : Type 0} (a b : Runs L) : Type 0 where
  pub same_layout : b.layout ≡ a.layout
  pub same_marks : b.marks.now ≡ a.marks.now
  pub same_words : b.words.now ≡ a.words.now

-- a cache has so many lines
pub record Lines (n : ℕ) : Type 0 where
  pub some : 1 ≤ n
  pub few : n ≤ 16

-- no table has n lines, or there was no memory for it
abbrev pub NoTable : ℕ → Unmade → Type 0
NoTable n (Refused f) = MadeNone n f
NoTable n NoMemory = Lines n

-- what a step with a table of n lines leaves, or what was lent where there is no table
pub data WithLines {T : Type 0} (n : ℕ) (Post : LineTable → Ended Unmade T → Type 0) (lent : T) (r : Ended Unmade T) : Type 0 where
  not_lined : (e : Unmade) → Made n (Err e) → r.answer ≡ Err e → r.back ≡ lent → WithLines n Post lent r
  lined : (table : LineTable) → Made n (Ok table) → Post table r → WithLines n Post lent r

module _ {L : Type 0} (n : ℕ) (Rel : Result ℕ Unmade → Runs L → Type 0) where
  -- why there was no answer: no table was made and the runs are as they were, or a cache has n lines
  pub data LinesFail (a : Runs L) (why : Unmade) (b : Runs L) : Type 0 where
    no_table : NoTable n why → Untouched a b → LinesFail a why b
    with_table : Lines n → Rel (Err why) b → LinesFail a why b

  -- what a pile answers through a cache of n lines that is made first, where it answers `Rel` with a cache at hand
  abbrev pub Lined : Runs L → Result ℕ Unmade → Runs L → Type 0
  Lined a (Ok v) b = Lines n × Rel (Ok v) b
  Lined a (Err why) b = LinesFail a why b

-- what an answer tells whose fault was taken for one of the causes
abbrev pub Unmaking : (Result ℕ Fault → Type 0) → Result ℕ Unmade → Type 0
Unmaking Rel (Ok v) = Rel (Ok v)
Unmaking Rel (Err (Refused f)) = Rel (Err f)
Unmaking Rel (Err NoMemory) = ⊥
