-- An entry written: its weight, its key and its child, one after another.
use Rattle.std.proofs.Common.{◌≡◌, ℕ, ◌∙◌}
use Rattle.store.specs.Meaning.{Meaning, with_at}
use Rattle.copies.specs.Blocks.{edit, filled}
use Rattle.copies.proofs.Edits.{edit_then}
use Rattle.nodes.specs.Places.{Form, weight_at, key_at, child_at}
use Rattle.nodes.specs.Nodes.{Entry, placed}

pub placed_two : (φ : Form) (b i a w : ℕ) (e : Entry) (m u v : Meaning) → u ≡ edit m b (λ β. with_at β a w) → v ≡ edit u b (filled (key_at φ i) e.key φ.words) → v ≡ edit m b (λ β. filled (key_at φ i) e.key φ.words (with_at β a w))
placed_two φ b i a w e m u v one two = edit_then m u v b _ _ one two

pub placed_all : (φ : Form) (b i a c : ℕ) (e : Entry) (m v n : Meaning) → a ≡ weight_at i → c ≡ child_at φ i → v ≡ edit m b (λ β. filled (key_at φ i) e.key φ.words (with_at β a e.weight)) → n ≡ edit v b (λ β. with_at β c e.child) → n ≡ edit m b (placed φ i e)
unfolding placed
placed_all φ b i a c e m v n d d' two three =
    edit_then m v n b _ _ two three
    ∙ (λ z. edit m b (λ β. with_at (filled (key_at φ i) e.key φ.words (with_at β (d z) e.weight)) (d' z) e.child))
