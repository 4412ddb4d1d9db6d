-- Blocks with room for a node keep it, and have every place that a node has.
use Rattle.std.proofs.Common.{◌≡◌, ℕ, ◌+◌, ◌*◌, ◌<◌, ◌≤◌, sym, ap, ◌∙◌, subst, mul-le-mul_left, arith}
use Rattle.store.specs.Meaning.{Meaning}
use Rattle.copies.specs.Blocks.{Copyable, Word, edit, spot}
use Rattle.copies.proofs.Edits.{edit_granted, edit_width}
use Rattle.nodes.specs.Places.{Form, form, most, key_at, breadth}
use Rattle.nodes.specs.Nodes.{Room, Rooms, Countable, Carried, carried}

pub room_same : (m n : Meaning) (φ : Form) (c : ℕ) → n ≡ m → Room φ c m → Room φ c n
room_same m n φ c e h = subst (Room φ c) (sym e) h

pub room_edit : (m n : Meaning) (b c : ℕ) (φ : Form) (F : (ℕ → ℕ) → ℕ → ℕ) → n ≡ edit m b F → Room φ c m → Room φ c n
room_edit m n b c φ F e h =
    let w = edit_width m n b F e in
    record { granted = ap (λ z. z c) (edit_granted m n b F e) ∙ h.granted; wide = omega (arith, h.wide) }

pub rooms_edit : (m n : Meaning) (a b c : ℕ) (φ : Form) (F : (ℕ → ℕ) → ℕ → ℕ) → n ≡ edit m a F → Rooms φ b c m → Rooms φ b c n
rooms_edit m n a b c φ F e h = record { one = room_edit m n a b φ F e h.one; other = room_edit m n a c φ F e h.other }

pub room_place : (φ : Form) (b p : ℕ) (m : Meaning) → p < breadth φ → Room φ b m → Word b p m
room_place φ b p m l h = record { granted = h.granted; within = omega (arith, h.wide) }

-- a place of a key's words
pub key_within : (φ : Form) (i j : ℕ) → i < φ.places → j < φ.words → key_at φ i + j < breadth φ
key_within φ i j l m = let a = mul-le-mul_left {m = i + 1} {n = φ.places} φ.words (omega arith) in omega arith

-- the places of the keys of n entries
pub keys_within : (φ : Form) (i n : ℕ) → i + n ≤ φ.places → key_at φ i + φ.words * n ≤ 2 + φ.places + φ.words * φ.places
keys_within φ i n l = let a = mul-le-mul_left {m = i + n} {n = φ.places} φ.words l in omega arith

pub rooms_copy : (φ : Form) (f t a b len : ℕ) (m : Meaning) → a + len ≤ breadth φ → b + len ≤ breadth φ → Rooms φ f t m → Copyable (spot f a) (spot t b) len m
rooms_copy φ f t a b len m k l h = record {
  from_granted = h.one.granted;
  to_granted = h.other.granted;
  from_wide = omega (arith, h.one.wide);
  to_wide = omega (arith, h.other.wide);
}

pub rooms_same : (m n : Meaning) (φ : Form) (b c : ℕ) → n ≡ m → Rooms φ b c m → Rooms φ b c n
rooms_same m n φ b c e h = subst (Rooms φ b c) (sym e) h

pub rooms_twice : (m n : Meaning) (φ : Form) (b : ℕ) → n ≡ m → Room φ b m → Rooms φ b b n
rooms_twice m n φ b e h = record { one = room_same m n φ b e h; other = room_same m n φ b e h }

-- a node's count can be read
pub countable : (k b : ℕ) (m : Meaning) → m.words b 1 ≤ most → Room (form k) b m → Countable b m
countable k b m l h = record { there = room_place (form k) b 1 m (omega arith) h; few = l }

pub countable_same : (k b : ℕ) (m n : Meaning) → n ≡ m → m.words b 1 ≤ most → Room (form k) b m → Countable b n
countable_same k b m n e l h = subst (Countable b) (sym e) (countable k b m l h)

-- a copy of entries after a read
pub carry_same : (φ : Form) (from i to j n : ℕ) (l m o : Meaning) → m ≡ l → Carried φ from i to j n m tt o → o ≡ edit l to (carried φ (l.words from) i j n)
carry_same φ from i to j n l m o e h = h ∙ ap (λ z. edit z to (carried φ (z.words from) i j n)) e

-- the same of a copy at these places
pub carry_at : (φ : Form) (from i to j n : ℕ) {i' j' n' : ℕ} (l m o : Meaning) → m ≡ l → Carried φ from i' to j' n' m tt o → i' ≡ i → j' ≡ j → n' ≡ n → o ≡ edit l to (carried φ (l.words from) i j n)
carry_at φ from i to j n l m o e h a b c = carry_same φ from _ to _ _ l m o e h ∙ (λ z. edit l to (carried φ (l.words from) (a z) (b z) (c z)))
