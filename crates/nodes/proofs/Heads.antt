-- A block with room for a header keeps it.
use Rattle.std.proofs.Common.{◌≡◌, ℕ, ◌<◌, ap, ◌∙◌, arith}
use Rattle.store.specs.Meaning.{Meaning}
use Rattle.copies.specs.Blocks.{Word, edit}
use Rattle.copies.proofs.Edits.{edit_granted, edit_width}
use Rattle.nodes.specs.Headers.{Headroom}

pub head_place : (m n : Meaning) (b p : ℕ) (F : (ℕ → ℕ) → ℕ → ℕ) → p < 4 → n ≡ edit m b F → Headroom b m → Word b p n
head_place m n b p F l e h =
    let w = edit_width m n b F e in
    record { granted = ap (λ z. z b) (edit_granted m n b F e) ∙ h.granted; within = omega (arith, h.wide) }
