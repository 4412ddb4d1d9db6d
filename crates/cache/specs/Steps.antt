-- What the steps of a cache answer, and what they leave.
use Rattle.std.specs.Prelude.{◌≡◌, ℕ, ◌<◌, ◌≤◌, Bool, true, false, cond, List, length, Ok, Err, Result, ◌≢◌, slice_index, slice_set}
use Rattle.store.specs.declared.fault.Fault.{Fault}
use Rattle.store.specs.declared.fault.Refusal.TheVariants.{Down}
use Rattle.store.specs.Meaning.{Meaning, Fell, count, with_block}
use Rattle.store.specs.Faults.{one_deeper}
use Rattle.store.specs.Calls.{WordFails, Deep, Told, Left}
use Rattle.store.specs.declared.fault.Refused.{Refused}
use Rattle.cache.specs.declared.cached.Cache.{Cache}
use Rattle.cache.specs.declared.line.LineTable.{LineTable}
use Rattle.cache.specs.Lines.{View, nth, table_views, ages, later, Timed, goes, Hit}
use Rattle.cache.specs.Cache.{word_of, cached, flat, Whole, Held}

-- the store fell, and f says so
pub record Falls (f : Fault) (m n : Meaning) : Type 0 where
  pub refusal : f.refusal ≡ Down
  pub fell : Fell m n
  pub deep : f.depth ≡ m.shape.depth f.refusal (count m)

-- all words of a block written
abbrev pub Spill : ℕ → List ℕ → Meaning → Result (Unit {0}) Fault → Meaning → Type 0
Spill b ws m (Ok _) n = n ≡ with_block m b (word_of ws)
Spill b ws m (Err f) n = Falls f m n

-- the same of a line that holds its block whole
abbrev pub Spilled : View → Meaning → Result (Unit {0}) Fault → Meaning → Type 0
Spilled v m r n = Whole m v → Spill v.block v.words m r n

-- the store after a line went down
abbrev pub emptied : View → Meaning → Meaning
emptied v m = cond (goes v) (with_block m v.block (word_of v.words)) m

-- the line v has gone down, and is now w, which holds no block
pub record EmptyDone (v w : View) (m n : Meaning) : Type 0 where
  pub after : n ≡ emptied v m
  pub none : w.block ≡ 0

-- the store fell as the line v went down: the line stays
pub record EmptyFails (f : Fault) (v w : View) (m n : Meaning) : Type 0 where
  pub down : Falls f m n
  pub kept : w ≡ v

-- what emptying a line answers
abbrev pub Empty : View → View → Meaning → Result (Unit {0}) Fault → Meaning → Type 0
Empty v w m (Ok _) n = EmptyDone v w m n
Empty v w m (Err f) n = EmptyFails f v w m n

-- a line that holds no block, or holds it whole, was emptied
abbrev pub Emptied : View → View → Meaning → Result (Unit {0}) Fault → Meaning → Type 0
Emptied v w m r n = ((v.block ≢ 0) → Whole m v) → Empty v w m r n

-- block b was read into the line w
pub record FillDone (b : ℕ) (w : View) (m n : Meaning) : Type 0 where
  pub after : n ≡ m
  pub block : w.block ≡ b
  pub altered : w.altered ≡ false
  pub words : m.words b ≡ word_of w.words
  pub wide : length w.words ≡ m.shape.width

-- the store fell as the line w was filled: it holds no block
pub record FillFails (f : Fault) (w : View) (m n : Meaning) : Type 0 where
  pub down : Falls f m n
  pub none : w.block ≡ 0

-- what filling a line answers
abbrev pub Fill : ℕ → View → Meaning → Result (Unit {0}) Fault → Meaning → Type 0
Fill b w m (Ok _) n = FillDone b w m n
Fill b w m (Err f) n = FillFails f w m n

-- a granted block was read into a line v that held none, and is now w
abbrev pub Filled : ℕ → View → View → Meaning → Result (Unit {0}) Fault → Meaning → Type 0
Filled b v w m r n = m.granted b ≡ true → v.block ≡ 0 → Fill b w m r n

-- what work on a cache tells: its relation, and that store and lines are ready for the next
pub record Worked (P R H : Type 0) : Type 0 where
  pub call : P
  pub ready : R
  pub held : H

-- the store below a cache and the lines of the cache are ready for a call
abbrev pub Ready : {S : Type 0} → (S → Meaning) → (S → Type 0) → Cache S → Type 0
Ready meaning ready c = ready c.store × Held (meaning c.store) c.table.lost (table_views c.table) × Timed c.table

-- work on the cache c that leaves d: where c was ready and `Pre` held, `Rel` holds of their meanings
abbrev pub Works : {S : Type 0} → (S → Meaning) → (S → Type 0) → (Meaning → List View → Type 0) → (Meaning → List View → Meaning → List View → Type 0) → Cache S → Cache S → Type 0
Works meaning ready Pre Rel c d =
    ready c.store
    → Held (meaning c.store) c.table.lost (table_views c.table)
    → Pre (meaning c.store) (table_views c.table)
    → Worked (Rel (meaning c.store) (table_views c.table) (meaning d.store) (table_views d.table)) (ready d.store) (Held (meaning d.store) d.table.lost (table_views d.table))

-- the store below is up
abbrev pub Up : Meaning → List View → Type 0
Up m vs = m.down ≡ false

-- line i was made free
pub record EvictDone (i : ℕ) (m : Meaning) (vs : List View) (n : Meaning) (ws : List View) : Type 0 where
  pub same : cached ws n ≡ cached vs m
  pub none : (nth ws i).block ≡ 0
  pub absent : (b : ℕ) → (b ≢ 0) → ((k : ℕ) → (nth vs k).block ≡ b → ⊥) → (k : ℕ) → (nth ws k).block ≡ b → ⊥

-- what freeing a line answers
abbrev pub Evicted : Result ℕ Fault → Meaning → List View → Meaning → List View → Type 0
Evicted (Ok i) m vs n ws = EvictDone i m vs n ws
Evicted (Err f) m vs n ws = Falls f (cached vs m) (cached ws n)

-- line i was longest unused
abbrev pub Least : List ℕ → ℕ → Type 0
Least ages i = (k : ℕ) → k < length ages → slice_index ages i ≤ slice_index ages k

-- block b can be read into line i: it is granted and in no line, and line i is free
pub record Loadable (b i : ℕ) (m : Meaning) (vs : List View) : Type 0 where
  pub up : m.down ≡ false
  pub granted : m.granted b ≡ true
  pub absent : (k : ℕ) → (nth vs k).block ≡ b → ⊥
  pub none : (nth vs i).block ≡ 0

-- block b was read into line i
pub record LoadDone (b i : ℕ) (m : Meaning) (vs : List View) (n : Meaning) (ws : List View) : Type 0 where
  pub same : cached ws n ≡ cached vs m
  pub block : (nth ws i).block ≡ b

-- what reading a block into line i answers
abbrev pub Loaded : ℕ → ℕ → Result (Unit {0}) Fault → Meaning → List View → Meaning → List View → Type 0
Loaded b i (Ok _) m vs n ws = LoadDone b i m vs n ws
Loaded b i (Err f) m vs n ws = Falls f (cached vs m) (cached ws n)

-- block b can be brought up: it is granted and in no line
pub record Missing (b : ℕ) (m : Meaning) (vs : List View) : Type 0 where
  pub up : m.down ≡ false
  pub granted : m.granted b ≡ true
  pub absent : (k : ℕ) → (nth vs k).block ≡ b → ⊥

-- block b was brought up into some line
abbrev pub Brought : ℕ → Result ℕ Fault → Meaning → List View → Meaning → List View → Type 0
Brought b (Ok i) m vs n ws = LoadDone b i m vs n ws
Brought b (Err f) m vs n ws = Falls f (cached vs m) (cached ws n)

-- line i has the word at a place of block b
pub record FetchDone (b place i : ℕ) (m : Meaning) (vs : List View) (n : Meaning) (ws : List View) : Type 0 where
  pub up : m.down ≡ false
  pub same : cached ws n ≡ cached vs m
  pub some : b ≡ 0 → ⊥
  pub block : (nth ws i).block ≡ b
  pub within : place < length (nth ws i).words

-- there is no such word, or the store fell
pub record FetchFails (b place : ℕ) (f : Fault) (m : Meaning) (vs : List View) (n : Meaning) (ws : List View) : Type 0 where
  pub call : WordFails b place f.refusal f.block (cached vs m) (cached ws n)
  pub deep : f.depth ≡ (cached vs m).shape.depth f.refusal (count m)

-- what fetching a word answers
abbrev pub Fetched : ℕ → ℕ → Result ℕ Fault → Meaning → List View → Meaning → List View → Type 0
Fetched b place (Ok i) m vs n ws = FetchDone b place i m vs n ws
Fetched b place (Err f) m vs n ws = FetchFails b place f m vs n ws

-- nothing more is needed
abbrev pub Any : Meaning → List View → Type 0
Any m vs = Unit {0}

-- some line of a table has the word at a place of block b
abbrev pub Has : LineTable → ℕ → ℕ → Type 0
Has t b place = (i : ℕ) × Hit t.lost (table_views t) b place i

-- lines and clock are as they were
pub record Still (t u : LineTable) : Type 0 where
  pub lines : u.lines ≡ t.lines
  pub clock : u.clock ≡ t.clock

-- line i was emptied, and may hold another block; it counts as unused, and no other line changed
pub record Vacated (i : ℕ) (t u : LineTable) : Type 0 where
  pub clock : u.clock ≡ t.clock
  pub aged : ages u ≡ slice_set (ages t) i 0
  pub others : (k : ℕ) → k ≢ i → nth (table_views u) k ≡ nth (table_views t) k

-- line i was longest unused, and made room
abbrev pub MadeRoom : LineTable → Result ℕ Fault → LineTable → Type 0
MadeRoom t (Ok i) u = Vacated i t u × Least (ages t) i
MadeRoom t (Err f) u = Unit {0}

-- line i has a block: it had it before and nothing changed, or it was longest unused and made room for it
pub data Seated (i : ℕ) (t u : LineTable) : Type 0 where
  stayed : u ≡ t → Seated i t u
  moved : Vacated i t u → Least (ages t) i → Seated i t u

-- what the lines are when a block was sought for a line
abbrev pub Seats : LineTable → Result ℕ Fault → LineTable → Type 0
Seats t (Ok i) u = Seated i t u
Seats t (Err f) u = (f.refusal ≢ Down) → Still t u

-- line i was used last, for block b, and no other line changed; had it another block before, it was longest unused
pub record Turned (b i : ℕ) (t u : LineTable) : Type 0 where
  pub clock : u.clock ≡ later t.clock
  pub aged : ages u ≡ slice_set (ages t) i u.clock
  pub block : (nth (table_views u) i).block ≡ b
  pub others : (k : ℕ) → k ≢ i → nth (table_views u) k ≡ nth (table_views t) k
  pub oldest : ((nth (table_views t) i).block ≢ b) → Least (ages t) i

-- what a get or a set of block b leaves of the lines: where it's refused, but for 'down', they are as they were
abbrev pub Uses : {A : Type 0} → ℕ → LineTable → Result A Fault → LineTable → Type 0
Uses b t (Ok x) u = (i : ℕ) × Turned b i t u
Uses b t (Err f) u = (f.refusal ≢ Down) → Still t u

-- block b was given back: a line that had it has none and counts as unused, and no other line changed
pub record Dropped (b : ℕ) (t u : LineTable) : Type 0 where
  pub clock : u.clock ≡ t.clock
  pub freed : (k : ℕ) → (nth (table_views t) k).block ≡ b → ((nth (table_views u) k).block ≡ 0) × (slice_index (ages u) k ≡ 0)
  pub others : (k : ℕ) → ((nth (table_views t) k).block ≢ b) → (nth (table_views u) k ≡ nth (table_views t) k) × (slice_index (ages u) k ≡ slice_index (ages t) k)

-- what giving block b back leaves of the lines
abbrev pub Drops : {A : Type 0} → ℕ → LineTable → Result A Fault → LineTable → Type 0
Drops b t (Ok x) u = Dropped b t u
Drops b t (Err f) u = Still t u

-- a new cache over m, whose lines hold nothing
pub record Opened (m : Meaning) (t : LineTable) : Type 0 where
  pub held : Held m t.lost (table_views t)
  pub timed : Timed t
  pub same : flat (table_views t) m ≡ m

-- a store call on the cache c, which answers r and leaves d
abbrev pub Serves : {S A : Type 0} → (S → Meaning) → (S → Type 0) → (Meaning → Result A Fault → Meaning → Type 0) → Cache S → Result A Fault → Cache S → Type 0
Serves meaning ready Rel c r d =
    Ready meaning ready c
    → Told
    (Rel (cached (table_views c.table) (meaning c.store)) r (cached (table_views d.table) (meaning d.store)))
    (Deep (cached (table_views c.table) (meaning c.store)) r)
    (Ready meaning ready d)

-- a store that a cache lost says so again; one that it did not lose is left alone
abbrev pub Heard : Bool → Meaning → Result (Unit {0}) Fault → Meaning → Type 0
Heard lost m (Ok _) n = (n ≡ m) × (lost ≡ true → m.down ≡ false)
Heard lost m (Err f) n = Falls f m n

-- closing met the fault f: the store below m is down
pub record CloseFails (f : Fault) (m n : Meaning) : Type 0 where
  pub refusal : f.refusal ≡ Down
  pub deep : f.depth ≡ one_deeper (m.shape.depth f.refusal (count m))
  pub fell : Fell m n

-- writing every line of vs into m leaves n: where no fault was met, n has every word of the cache
abbrev pub Flushed : List View → Meaning → Result (Unit {0}) Fault → Meaning → Type 0
Flushed vs m (Ok _) n = n ≡ flat vs m
Flushed vs m (Err f) n = CloseFails f m n

-- closing the cache c yields the store below: where no fault was met, it has every word of the cache
abbrev pub Closes : {S : Type 0} → (S → Meaning) → (S → Type 0) → Cache S → Result S (Refused Fault S) → Type 0
Closes meaning ready c (Ok s) = Left (meaning s ≡ flat (table_views c.table) (meaning c.store)) (ready s)
Closes meaning ready c (Err r) = Left (CloseFails r.cause (meaning c.store) (meaning r.back)) (ready r.back)
