-- What a table of cache lines holds and answers.
use Rattle.std.specs.Prelude.{◌≡◌, ℕ, ◌+◌, ◌-◌, ◌^◌, ◌<◌, ◌≤◌, min, Bool, true, false, not, ◌&&◌, List, [], map, length, Some, None, Ok, Err, vec_items, vec_len, Option, Result, ◌==◌, ◌≢◌, nat_lt, slice_index, slice_index_or, slice_set}
use Rattle.store.specs.declared.fault.Fault.{Fault}
use Rattle.store.specs.declared.fault.Refusal.TheVariants.{Down, Misfit}
use Rattle.store.specs.Faults.{own_fault}
use Rattle.cache.specs.declared.line.Line.{Line}
use Rattle.cache.specs.declared.line.LineTable.{LineTable}
use Rattle.store.specs.declared.fault.Unmade.{Unmade}
use Rattle.store.specs.declared.fault.Unmade.TheVariants.{Refused, NoMemory}

-- a block number, 0 for none; whether its words were set since they were last written below; and the words
pub record View : Type 0 where
  pub block : ℕ
  pub altered : Bool
  pub words : List ℕ

-- what a line holds
abbrev pub view : Line → View
view l = record { block = l.block; altered = l.changed; words = vec_items l.words }

-- a line that holds nothing
abbrev pub blank : View
blank = record { block = 0; altered = false; words = [] }

-- line i
abbrev pub nth : List View → ℕ → View
nth vs i = slice_index_or vs i blank

-- what each of some lines holds
abbrev pub views : List Line → List View
views ls = map view ls

-- what each line of a table holds
abbrev pub table_views : LineTable → List View
table_views t = views (vec_items t.lines)

-- when each of some lines was last used
abbrev pub ages_of : List Line → List ℕ
ages_of ls = map (λ l. l.used) ls

-- when each line of a table was last used
abbrev pub ages : LineTable → List ℕ
ages t = ages_of (vec_items t.lines)

-- one use later; the largest clock stays
abbrev pub later : ℕ → ℕ
later n = min (n + 1) (2 ^ 64 - 1)

-- no line was used later than the clock says
abbrev pub Timed : LineTable → Type 0
Timed t = (k : ℕ) → slice_index (ages t) k ≤ t.clock

-- no line holds a block
abbrev pub Clear : List View → Type 0
Clear vs = (i : ℕ) → (nth vs i).block ≡ 0

-- a table that no store was put under yet
pub record Unused (t : LineTable) : Type 0 where
  pub clear : Clear (table_views t)
  pub timed : Timed t
  pub up : t.lost ≡ false

-- a table of n unused lines
pub record MadeTable (n : ℕ) (t : LineTable) : Type 0 where
  pub lines : vec_len t.lines ≡ n
  pub unused : Unused t

-- no table has so many lines
pub record MadeNone (n : ℕ) (f : Fault) : Type 0 where
  pub fault : f ≡ own_fault Misfit 0
  pub no_table : 1 ≤ n → 16 < n

-- what making a table of n lines answers
abbrev pub Made : ℕ → Result LineTable Unmade → Type 0
Made n (Ok t) = MadeTable n t
Made n (Err (Refused f)) = MadeNone n f
Made n (Err NoMemory) = (1 ≤ n) × (n ≤ 16)

-- line i has the block, and the place in it
pub record Hit (lost : Bool) (vs : List View) (b place i : ℕ) : Type 0 where
  pub up : lost ≡ false
  pub some : b ≡ 0 → ⊥
  pub line : i < length vs
  pub block : (nth vs i).block ≡ b
  pub within : place < length (nth vs i).words

-- what looking up a word answers
abbrev pub Hits : Bool → List View → ℕ → ℕ → Option ℕ → Type 0
Hits lost vs b place (Some i) = Hit lost vs b place i
Hits lost vs b place None = lost ≡ false → (b ≢ 0) → (k : ℕ) → (nth vs k).block ≡ b → length (nth vs k).words ≤ place

-- what looking up a block answers
abbrev pub Finds : List View → ℕ → Option ℕ → Type 0
Finds vs b (Some i) = (i < length vs) × ((nth vs i).block ≡ b)
Finds vs b None = (b ≢ 0) → (k : ℕ) → (nth vs k).block ≡ b → ⊥

-- whether a line has the word at a place of block b
abbrev pub has : View → ℕ → ℕ → Bool
has v b place = v.block == b && nat_lt place (length v.words)

-- a line with one word set
abbrev pub set_view : View → ℕ → ℕ → View
set_view v place word = record { block = v.block; altered = true; words = slice_set v.words place word }

-- a line that has no block any more
abbrev pub free_view : View → View
free_view v = record { block = 0; altered = false; words = v.words }

-- a line with words that the store below has not
abbrev pub goes : View → Bool
goes v = not (v.block == 0) && v.altered

-- the flag `lost` after the store below answered 'down', or another refusal
pub record NotedErr (lost : Bool) (f : Fault) (lost' : Bool) : Type 0 where
  pub fell : f.refusal ≡ Down → lost' ≡ true
  pub kept : (f.refusal ≢ Down) → lost' ≡ lost

-- the flag after an answer
abbrev pub Noted : {A : Type 0} → Bool → Result A Fault → Bool → Type 0
Noted lost (Ok x) lost' = lost' ≡ lost
Noted lost (Err f) lost' = NotedErr lost f lost'
