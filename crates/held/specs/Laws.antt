-- What holds of blocks that hold a tree.
use Rattle.std.specs.Prelude.{◌≡◌, ℕ, ◌≤◌}
use Rattle.held.specs.Held.{Kind, node, feet, Whole, times}

-- a node whose blocks have the same words elsewhere is the same node there, in the same blocks
abbrev pub Known : {K : Type 0} → Kind K → Type 0
Known κ =
    (ω υ : ℕ → ℕ → ℕ) (l b : ℕ) → ((c : ℕ) → 1 ≤ times c (feet κ ω l b) → υ c ≡ ω c) →
    (node κ υ l b ≡ node κ ω l b) × (feet κ υ l b ≡ feet κ ω l b) × (Whole κ ω l b → Whole κ υ l b)
