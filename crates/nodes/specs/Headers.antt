-- The words of the header block.
use Rattle.std.specs.Prelude.{◌≡◌, ℕ, ◌≤◌, true, List, [], ◌∷◌}
use Rattle.store.specs.Meaning.{Meaning}
use Rattle.nodes.specs.declared.header.Header.{Header}

-- words of a key, root block, root level and key count
abbrev pub header_words : ℕ → Header → List ℕ
header_words k h = k ∷ h.root.block ∷ h.root.level ∷ h.keys ∷ []

-- block b is granted and wide enough for a header
pub record Headroom (b : ℕ) (m : Meaning) : Type 0 where
  pub granted : m.granted b ≡ true
  pub wide : 4 ≤ m.shape.width
