-- A node's entries, in the words of its block.
use Rattle.std.specs.Prelude.{◌≡◌, ℕ, ◌+◌, ◌*◌, ◌<◌, ◌≤◌, true, List, ◌∷◌, ◌++◌, map, take, drop}
use Rattle.std.specs.List.{range_with_len}
use Rattle.store.specs.Meaning.{Meaning, with_at, with_block}
use Rattle.copies.specs.Blocks.{Word, edit, pasted, filled}
use Rattle.store.specs.declared.fault.Fault.{Fault}
use Rattle.nodes.specs.declared.entry.Entry.{Entry as Coded}
use Rattle.nodes.specs.Places.{Form, most, weight_at, key_at, child_at, breadth, block_number, damage}

-- one entry: its weight, the words of its key, and its child or handle
pub record Entry : Type 0 where
  pub weight : ℕ
  pub key : List ℕ
  pub child : ℕ

-- an entry of the code, its key packed
abbrev pub entry_of : {K : Type 0} → (K → List ℕ) → Coded K → Entry
entry_of packed e = record { weight = e.weight; key = packed e.key; child = e.child }

-- the list of f 0 to f (n - 1)
abbrev pub upto : {X : Type 0} → ℕ → (ℕ → X) → List X
upto n f = map f (range_with_len 0 n)

-- the entry at place i of a block with the words β
unfoldable pub entry_at : Form → (ℕ → ℕ) → ℕ → Entry
entry_at φ β i = record { weight = β (weight_at i); key = upto φ.words (λ j. β (key_at φ i + j)); child = β (child_at φ i) }

-- the entries: those of the first places, as many as word 1 says
unfoldable pub entries : Form → (ℕ → ℕ) → List Entry
entries φ β = upto (β 1) (entry_at φ β)

-- block b is granted and wide enough for a node
pub record Room (φ : Form) (b : ℕ) (m : Meaning) : Type 0 where
  pub granted : m.granted b ≡ true
  pub wide : breadth φ ≤ m.shape.width

pub record Rooms (φ : Form) (b c : ℕ) (m : Meaning) : Type 0 where
  pub one : Room φ b m
  pub other : Room φ c m

-- β with n entries of α, those from place i on, at the places from j on
unfoldable pub carried : Form → (ℕ → ℕ) → ℕ → ℕ → ℕ → (ℕ → ℕ) → ℕ → ℕ
carried φ α i j n β = pasted α (child_at φ i) (child_at φ j) n (pasted α (key_at φ i) (key_at φ j) (φ.words * n) (pasted α (weight_at i) (weight_at j) n β))

-- n entries of block `from`, as they were, now stand in block `to`
abbrev pub Carried : Form → ℕ → ℕ → ℕ → ℕ → ℕ → Meaning → Unit {0} → Meaning → Type 0
Carried φ from i to j n m _ m' = m' ≡ edit m to (carried φ (m.words from) i j n)

-- β with the entry e at place i
unfoldable pub placed : Form → ℕ → Entry → (ℕ → ℕ) → ℕ → ℕ
placed φ i e β = with_at (filled (key_at φ i) e.key φ.words (with_at β (weight_at i) e.weight)) (child_at φ i) e.child

-- block b has a count, and it is no more than a node may have
pub record Countable (b : ℕ) (m : Meaning) : Type 0 where
  pub there : Word b 1 m
  pub few : m.words b 1 ≤ most

-- block b has a count, and it is more
pub record Overfull (b : ℕ) (m : Meaning) : Type 0 where
  pub there : Word b 1 m
  pub many : most < m.words b 1

-- refused since the words of block b are no node's, and nothing changed
pub record Damage (b : ℕ) (m : Meaning) (f : Fault) (n : Meaning) : Type 0 where
  pub fault : f ≡ damage b
  pub same : n ≡ m

-- block b is a node
pub record Node (φ : Form) (b : ℕ) (m : Meaning) : Type 0 where
  pub room : Room φ b m
  pub few : m.words b 1 ≤ φ.places

-- block b is a node with an entry at place i
pub record Has (φ : Form) (b i : ℕ) (m : Meaning) : Type 0 where
  pub room : Room φ b m
  pub has : i < m.words b 1
  pub few : m.words b 1 ≤ φ.places

-- block b is a node that an entry can be put into before place i, or last
pub record Open (φ : Form) (b i : ℕ) (m : Meaning) : Type 0 where
  pub room : Room φ b m
  pub upto : i ≤ m.words b 1
  pub free : m.words b 1 < φ.places

-- block `to` is a node that has room for the entries of the node `from`
pub record Joinable (φ : Form) (from to : ℕ) (m : Meaning) : Type 0 where
  pub rooms : Rooms φ from to m
  pub fits : m.words to 1 + m.words from 1 ≤ φ.places

-- block `from` is a node with k entries or more, and block `to` is another block
pub record Partable (φ : Form) (from to k : ℕ) (m : Meaning) : Type 0 where
  pub rooms : Rooms φ from to m
  pub apart : from ≡ to → ⊥
  pub upto : k ≤ m.words from 1
  pub few : m.words from 1 ≤ φ.places

-- xs with e put in before place i, with e in place of the one at i, and without the one at i
abbrev pub insert_at : ℕ → Entry → List Entry → List Entry
insert_at i e xs = take i xs ++ (e ∷ drop i xs)

abbrev pub replace_at : ℕ → Entry → List Entry → List Entry
replace_at i e xs = take i xs ++ (e ∷ drop (i + 1) xs)

abbrev pub remove_at : ℕ → List Entry → List Entry
remove_at i xs = take i xs ++ drop (i + 1) xs

-- block b now has the entries xs and the level that it had, and nothing else changed
pub record Holds (φ : Form) (b : ℕ) (xs : List Entry) (m n : Meaning) : Type 0 where
  pub frame : n ≡ with_block m b (n.words b)
  pub level : n.words b 0 ≡ m.words b 0
  pub entries_are : entries φ (n.words b) ≡ xs

-- the entries of block b went through G
abbrev pub Changed : Form → ℕ → (List Entry → List Entry) → Meaning → Unit {0} → Meaning → Type 0
Changed φ b G m _ n = Holds φ b (G (entries φ (m.words b))) m n

-- the entries of block `from` now follow those of block `to`
abbrev pub Joined : Form → ℕ → ℕ → Meaning → Unit {0} → Meaning → Type 0
Joined φ from to m _ n = Holds φ to (entries φ (m.words to) ++ entries φ (m.words from)) m n

-- block `from` kept its first k entries, block `to` has the others and the same level, and nothing else changed
pub record Parted (φ : Form) (from to k : ℕ) (m : Meaning) (x : Unit {0}) (n : Meaning) : Type 0 where
  pub frame : n ≡ with_block (with_block m to (n.words to)) from (n.words from)
  pub level_from : n.words from 0 ≡ m.words from 0
  pub level_to : n.words to 0 ≡ m.words from 0
  pub entries_from : entries φ (n.words from) ≡ take k (entries φ (m.words from))
  pub entries_to : entries φ (n.words to) ≡ drop k (entries φ (m.words from))

-- the answer is the weight of the entry at place i of block b, and nothing changed
pub record Weighs (b i : ℕ) (m : Meaning) (v : ℕ) (n : Meaning) : Type 0 where
  pub value : (φ : Form) → v ≡ (entry_at φ (m.words b) i).weight
  pub same : n ≡ m

-- it is that entry's key
pub record Keyed {K : Type 0} (φ : Form) (unpacked : List ℕ → K) (b i : ℕ) (m : Meaning) (x : K) (n : Meaning) : Type 0 where
  pub value : x ≡ unpacked (entry_at φ (m.words b) i).key
  pub same : n ≡ m

-- its child
pub record Leads (φ : Form) (b i : ℕ) (m : Meaning) (v : ℕ) (n : Meaning) : Type 0 where
  pub value : v ≡ (entry_at φ (m.words b) i).child
  pub same : n ≡ m

-- its child as a block number
pub record LeadsTo (φ : Form) (b i : ℕ) (m : Meaning) (c : ℕ) (n : Meaning) : Type 0 where
  pub value : c ≡ block_number (entry_at φ (m.words b) i).child
  pub same : n ≡ m
