-- What a block store means.
use Rattle.std.specs.Prelude.{◌≡◌, ℕ, zero, suc, ◌+◌, ◌-◌, ◌<◌, ◌≤◌, Bool, true, false, cond, List, ◌==◌}
use Rattle.store.specs.declared.fault.Refusal.{Refusal}

-- what is fixed for a store's life: the words in a block, the capacity, and how many layers down a
-- refusal arises while so many blocks are granted
pub record Shape : Type 0 where
  pub width : ℕ
  pub capacity : ℕ
  pub depth : Refusal → ℕ → ℕ

-- `below` has the shapes of the stores underneath, the next one first; which block numbers are granted;
-- the words of each block by place; and whether the store is down
pub record Meaning : Type 0 where
  pub shape : Shape
  pub below : List Shape
  pub granted : ℕ → Bool
  pub words : ℕ → ℕ → ℕ
  pub down : Bool

-- the largest block number
unfoldable pub limit : ℕ
limit = 1_048_575

-- how many of the numbers 1 to n are granted
unfoldable pub count_to : (ℕ → Bool) → ℕ → ℕ
count_to g zero = 0
count_to g (suc n) = cond (g (suc n)) 1 0 + count_to g n

-- how many blocks are granted
abbrev pub count : Meaning → ℕ
count m = count_to m.granted limit

-- how many blocks can still be taken
abbrev pub free : Meaning → ℕ
free m = m.shape.capacity - count m

-- f, but v at x
unfoldable pub with_at : {X : Type 0} → (ℕ → X) → ℕ → X → ℕ → X
with_at f x v y = cond (y == x) v (f y)

-- m with other grants and words
abbrev pub with_blocks : Meaning → (ℕ → Bool) → (ℕ → ℕ → ℕ) → Meaning
with_blocks m g ω = record { shape = m.shape; below = m.below; granted = g; words = ω; down = m.down }

-- m with block b granted, all its words 0
abbrev pub taken : Meaning → ℕ → Meaning
taken m b = with_blocks m (with_at m.granted b true) (with_at m.words b (λ p. 0))

-- m with block b given back
abbrev pub returned : Meaning → ℕ → Meaning
returned m b = with_blocks m (with_at m.granted b false) (with_at m.words b (λ p. 0))

-- m with the words β in block b
abbrev pub with_block : Meaning → ℕ → (ℕ → ℕ) → Meaning
with_block m b β = with_blocks m m.granted (with_at m.words b β)

-- m with the word v at a place of block b
abbrev pub written : Meaning → ℕ → ℕ → ℕ → Meaning
written m b place v = with_block m b (with_at (m.words b) place v)

-- what holds of every store: words that no block has count as 0
pub record Sound (m : Meaning) : Type 0 where
  pub some_width : 1 ≤ m.shape.width
  pub width_bound : m.shape.width ≤ 512
  pub capacity_bound : m.shape.capacity ≤ limit
  pub none_at_zero : m.granted 0 ≡ false
  pub none_past : (b : ℕ) → limit < b → m.granted b ≡ false
  pub unused : (b place : ℕ) → m.granted b ≡ false → m.words b place ≡ 0
  pub past_width : (b place : ℕ) → m.shape.width ≤ place → m.words b place ≡ 0

-- n is m after a call that said 'down': its words may be any
pub record Fell (m n : Meaning) : Type 0 where
  pub is_down : n.down ≡ true
  pub same_shape : n.shape ≡ m.shape
  pub same_below : n.below ≡ m.below
  pub same_grants : n.granted ≡ m.granted
