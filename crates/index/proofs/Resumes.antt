-- A case's last checkpoint, from the floor of the largest that it can have.
use Rattle.std.proofs.Common.{◌≡◌, ℕ, ◌==◌, Bool, true, false, cond, Some, None, Option, ap, ◌∙◌}
use Rattle.std.specs.Bool.{then_some}
use Rattle.std.specs.Option.{MatchOption}
use Rattle.keys.specs.declared.checkpoint.Checkpoint.{Checkpoint}
use Rattle.plain.specs.declared.pair.Pair.{Pair}
use Rattle.plain.specs.Resume.{of_case}

-- what a filter by the case leaves
pub kept_case : (case : ℕ) (Gives : Pair Checkpoint → Bool → Type 0) → ((p : Pair Checkpoint) (b : Bool) → Gives p b → b ≡ (p.key.case == case)) → (f kept : Option (Pair Checkpoint))
    → MatchOption f (kept ≡ None) (λ p. (b : Bool) × Gives p b × (kept ≡ then_some b p)) → kept ≡ of_case case f
kept_case case Gives gives None kept is = is
kept_case case Gives gives (Some p) kept (b, given, is) = is ∙ go b (gives p b given)
  where
    go : (b : Bool) → b ≡ (p.key.case == case) → then_some b p ≡ cond (p.key.case == case) (Some p) None
    go true e = ap (λ z. cond z (Some p) None) e
    go false e = ap (λ z. cond z (Some p) None) e
