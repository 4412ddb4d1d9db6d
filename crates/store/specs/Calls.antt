-- What each store call answers, and what it leaves.
use Rattle.std.specs.Prelude.{◌≡◌, ℕ, ◌<◌, ◌≤◌, true, false, Ok, Err, Result}
use Rattle.store.specs.declared.blocks.Stock.{Stock}
use Rattle.store.specs.declared.fault.Fault.{Fault}
use Rattle.store.specs.declared.fault.Refusal.{Refusal}
use Rattle.store.specs.declared.fault.Refusal.TheVariants.{Down, NoRoom, NotGranted, Outside}
use Rattle.store.specs.Meaning.{Meaning, limit, count, taken, returned, written, Fell}

-- a refusal other than 'down': the store was up, and nothing changed
pub record Kept (m n : Meaning) : Type 0 where
  pub was_up : m.down ≡ false
  pub same : n ≡ m

-- a block was free and is now granted
pub record TakeDone (m : Meaning) (b : ℕ) (n : Meaning) : Type 0 where
  pub was_up : m.down ≡ false
  pub had_room : count m < m.shape.capacity
  pub was_free : m.granted b ≡ false
  pub low : 1 ≤ b
  pub high : b ≤ limit
  pub after : n ≡ taken m b

-- a block was granted and is no more
pub record GiveDone (m : Meaning) (b : ℕ) (n : Meaning) : Type 0 where
  pub was_up : m.down ≡ false
  pub granted : m.granted b ≡ true
  pub after : n ≡ returned m b

-- a word was read
pub record GetDone (m : Meaning) (b place v : ℕ) (n : Meaning) : Type 0 where
  pub was_up : m.down ≡ false
  pub granted : m.granted b ≡ true
  pub within : place < m.shape.width
  pub value : v ≡ m.words b place
  pub same : n ≡ m

-- a word was changed
pub record SetDone (m : Meaning) (b place v : ℕ) (n : Meaning) : Type 0 where
  pub was_up : m.down ≡ false
  pub granted : m.granted b ≡ true
  pub within : place < m.shape.width
  pub after : n ≡ written m b place v

-- the stock was told
pub record StockDone (m : Meaning) (s : Stock) (n : Meaning) : Type 0 where
  pub was_up : m.down ≡ false
  pub width : s.width ≡ m.shape.width
  pub granted : s.granted ≡ count m
  pub capacity : s.capacity ≡ m.shape.capacity
  pub same : n ≡ m

-- why a call was refused, by the fault's refusal r and block `at`
pub data TakeFails (r : Refusal) (at : ℕ) (m n : Meaning) : Type 0 where
  take_down : r ≡ Down → Fell m n → TakeFails r at m n
  take_full : r ≡ NoRoom → at ≡ 0 → m.shape.capacity ≤ count m → Kept m n → TakeFails r at m n

pub data GiveFails (b : ℕ) (r : Refusal) (at : ℕ) (m n : Meaning) : Type 0 where
  give_down : r ≡ Down → Fell m n → GiveFails b r at m n
  give_missing : r ≡ NotGranted → at ≡ b → m.granted b ≡ false → Kept m n → GiveFails b r at m n

pub data WordFails (b place : ℕ) (r : Refusal) (at : ℕ) (m n : Meaning) : Type 0 where
  word_down : r ≡ Down → Fell m n → WordFails b place r at m n
  word_missing : r ≡ NotGranted → at ≡ b → m.granted b ≡ false → Kept m n → WordFails b place r at m n
  word_outside : r ≡ Outside → at ≡ b → m.granted b ≡ true → m.shape.width ≤ place → Kept m n → WordFails b place r at m n

pub data StockFails (r : Refusal) (m n : Meaning) : Type 0 where
  stock_down : r ≡ Down → Fell m n → StockFails r m n

-- take, from meaning m to n
abbrev pub Take : Meaning → Result ℕ Fault → Meaning → Type 0
Take m (Ok b) n = TakeDone m b n
Take m (Err f) n = TakeFails f.refusal f.block m n

-- give back block b
abbrev pub Give : ℕ → Meaning → Result (Unit {0}) Fault → Meaning → Type 0
Give b m (Ok _) n = GiveDone m b n
Give b m (Err f) n = GiveFails b f.refusal f.block m n

-- get the word at a place of block b
abbrev pub Get : ℕ → ℕ → Meaning → Result ℕ Fault → Meaning → Type 0
Get b place m (Ok v) n = GetDone m b place v n
Get b place m (Err f) n = WordFails b place f.refusal f.block m n

-- set the word at a place of block b to v
abbrev pub Set : ℕ → ℕ → ℕ → Meaning → Result (Unit {0}) Fault → Meaning → Type 0
Set b place v m (Ok _) n = SetDone m b place v n
Set b place v m (Err f) n = WordFails b place f.refusal f.block m n

-- tell the stock
abbrev pub Stocked : Meaning → Result Stock Fault → Meaning → Type 0
Stocked m (Ok s) n = StockDone m s n
Stocked m (Err f) n = StockFails f.refusal m n

-- a fault of a call on m arose as deep as m's shape says
abbrev pub Deep : {A : Type 0} → Meaning → Result A Fault → Type 0
Deep m (Ok x) = Unit {0}
Deep m (Err f) = f.depth ≡ m.shape.depth f.refusal (count m)

-- what a call tells: its relation, how deep a fault arose, and that the store is ready for the next
pub record Told (P Q R : Type 0) : Type 0 where
  pub call : P
  pub deep : Q
  pub ready : R

-- a call on the store s that answers r and leaves t: where s was ready, `Rel` holds of their meanings
abbrev pub Keeps : {S A : Type 0} → (S → Meaning) → (S → Type 0) → (Meaning → Result A Fault → Meaning → Type 0) → S → Result A Fault → S → Type 0
Keeps meaning ready Rel s r t = ready s → Told (Rel (meaning s) r (meaning t)) (Deep (meaning s) r) (ready t)

-- the same of work of several calls, whose relation itself says how deep a fault arose
pub record Left (P R : Type 0) : Type 0 where
  pub call : P
  pub ready : R

abbrev pub Leaves : {S A : Type 0} → (S → Meaning) → (S → Type 0) → (Meaning → A → Meaning → Type 0) → S → A → S → Type 0
Leaves meaning ready Rel s r t = ready s → Left (Rel (meaning s) r (meaning t)) (ready t)

-- work of several calls on m ended in n since the store said 'down', with the fault f as the store raised it
-- while so many blocks were granted
pub record Lost (m : Meaning) (f : Fault) (n : Meaning) : Type 0 where
  pub refusal : f.refusal ≡ Down
  pub granted_then : ℕ
  pub deep : f.depth ≡ m.shape.depth Down granted_then
  pub is_down : n.down ≡ true
  pub same_shape : n.shape ≡ m.shape
  pub same_below : n.below ≡ m.below
