-- One word written to one block taken of a store.
use Rattle.std.specs.Prelude.{◌≡◌, ℕ, ◌<◌, ◌≤◌, true, false, Ok, Err, Result}
use Rattle.store.specs.declared.fault.Fault.{Fault}
use Rattle.store.specs.declared.fault.Refusal.TheVariants.{Down, NoRoom}
use Rattle.store.specs.Meaning.{Shape, Meaning, limit, count, taken, written}

-- m with the block b taken, and the word x at its first place
abbrev pub with_one : ℕ → Meaning → ℕ → Meaning
with_one x m b = written (taken m b) b 0 x

-- through a pile whose uppermost store has the shape `top`, over a store that means m and then n, the word came back as v
pub record UseDone (top : Shape) (x : ℕ) (m : Meaning) (v : ℕ) (n : Meaning) : Type 0 where
  pub was_up : m.down ≡ false
  pub had_room : count m < top.capacity
  pub value : v ≡ x
  pub block : ℕ
  pub low : 1 ≤ block
  pub high : block ≤ limit
  pub was_free : m.granted block ≡ false
  pub after : n ≡ with_one x m block

-- the pile had no room, and nothing changed
pub record UseFull (top : Shape) (f : Fault) (m n : Meaning) : Type 0 where
  pub refusal : f.refusal ≡ NoRoom
  pub block : f.block ≡ 0
  pub depth : f.depth ≡ top.depth NoRoom (count m)
  pub was_up : m.down ≡ false
  pub no_room : top.capacity ≤ count m
  pub same : n ≡ m

-- the store below said 'down'
pub record UseLost (top : Shape) (f : Fault) (m n : Meaning) : Type 0 where
  pub refusal : f.refusal ≡ Down
  pub granted_then : ℕ
  pub depth : f.depth ≡ top.depth Down granted_then
  pub is_down : n.down ≡ true
  pub same_shape : n.shape ≡ m.shape
  pub same_below : n.below ≡ m.below

-- why it was refused
pub data UseFails (top : Shape) (f : Fault) (m n : Meaning) : Type 0 where
  use_full : UseFull top f m n → UseFails top f m n
  use_lost : UseLost top f m n → UseFails top f m n

-- what using one block answers
abbrev pub Use : Shape → ℕ → Meaning → Result ℕ Fault → Meaning → Type 0
Use top x m (Ok v) n = UseDone top x m v n
Use top x m (Err f) n = UseFails top f m n

-- an answer, its fault taken for a cause
abbrev pub caused_by : {E : Type 0} → (Fault → E) → Result ℕ Fault → Result ℕ E
caused_by cause (Ok v) = Ok v
caused_by cause (Err f) = Err (cause f)
