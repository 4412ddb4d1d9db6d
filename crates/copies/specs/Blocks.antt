-- What a block's words go through.
use Rattle.std.specs.Prelude.{◌≡◌, ℕ, ◌+◌, ◌-◌, ◌<◌, ◌≤◌, true, cond, ◌&&◌, List, nat_le, nat_lt, slice_index}
use Rattle.store.specs.Meaning.{Meaning, with_block}
use Rattle.copies.specs.declared.copy.Spot.{Spot}

-- the spot of a block and a place
abbrev pub spot : ℕ → ℕ → Spot
spot b place = record { block = b; at = place }

-- block b is granted and has a word at this place
pub record Word (b place : ℕ) (m : Meaning) : Type 0 where
  pub granted : m.granted b ≡ true
  pub within : place < m.shape.width

-- both blocks are granted and have the places of a copy
pub record Copyable (from to : Spot) (len : ℕ) (m : Meaning) : Type 0 where
  pub from_granted : m.granted from.block ≡ true
  pub to_granted : m.granted to.block ≡ true
  pub from_wide : from.at + len ≤ m.shape.width
  pub to_wide : to.at + len ≤ m.shape.width

-- m with the words of block b gone through F, and nothing else changed
unfoldable pub edit : Meaning → ℕ → ((ℕ → ℕ) → ℕ → ℕ) → Meaning
edit m b F = with_block m b (F (m.words b))

-- β with its words at the places from lo on, below hi, taken from f
unfoldable pub splice : (ℕ → ℕ) → ℕ → ℕ → (ℕ → ℕ) → ℕ → ℕ
splice β lo hi f p = cond (nat_le lo p && nat_lt p hi) (f p) (β p)

-- β with the words of α from a on, as many as len, at the places from c on
unfoldable pub pasted : (ℕ → ℕ) → ℕ → ℕ → ℕ → (ℕ → ℕ) → ℕ → ℕ
pasted α a c len β = splice β c (c + len) (λ p. α ((a + p) - c))

-- β with the first n of the words ws at the places from a on
unfoldable pub filled : ℕ → List ℕ → ℕ → (ℕ → ℕ) → ℕ → ℕ
filled a ws n β = splice β a (a + n) (λ p. slice_index ws (p - a))

-- the word at a place of block b was read, and nothing changed
pub record Read (b place : ℕ) (m : Meaning) (v : ℕ) (n : Meaning) : Type 0 where
  pub value : v ≡ m.words b place
  pub same : n ≡ m

-- block b went through F
abbrev pub Edited : ℕ → ((ℕ → ℕ) → ℕ → ℕ) → Meaning → Unit {0} → Meaning → Type 0
Edited b F m _ n = n ≡ edit m b F

-- so many words from the spot `from` on, as they were, now stand from the spot `to` on
abbrev pub Pasted : Spot → Spot → ℕ → Meaning → Unit {0} → Meaning → Type 0
Pasted from to len m _ n = n ≡ edit m to.block (pasted (m.words from.block) from.at to.at len)
