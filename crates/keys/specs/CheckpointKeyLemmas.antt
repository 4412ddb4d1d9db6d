use Rattle.std.specs.Prelude.{◌≡◌, ℕ, List, [], ◌∷◌, length}
use Rattle.std.proofs.Common.{ap, arith}
use Rattle.keys.specs.Checkpoints.{packed, unpacked}
use Rattle.keys.specs.Orders.{Words}

pub forth_law : (ws : List ℕ) → length ws ≡ 1 → Words ws → packed (unpacked ws) ≡ ws
forth_law [] e a = absurd (omega arith)
forth_law (w ∷ []) e a = let f = a.0 in ap (λ n. n ∷ []) (omega arith)
forth_law (w ∷ v ∷ vs) e a = absurd (omega arith)
