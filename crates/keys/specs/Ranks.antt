-- What an answer of a comparison says.
use Rattle.std.specs.Prelude.{◌≡◌, ℕ, ◌<◌, ℤ, ◌<ℤ◌, refl}
use Rattle.std.specs.declared.cmp.Ordering.TheVariants.{Less, Equal, Greater}
use Rattle.std.specs.declared.cmp.Ordering.{Ordering}
use Rattle.std.proofs.Common.{ap, true≢false}
use Rattle.std.specs.Int.Signed.{<ℤ_irrefl}
use Rattle.std.specs.Cmp.{ranks, int_ranks, int_chain, means, below_irrefl, below_chain}
use Rattle.std.specs.Ordering.{ordering_then, is_lt, is_gt, nat_cmp, int_cmp}

-- two answers one after the other are equal only if both are
pub both_equal : (a b : Ordering) → ordering_then a b ≡ Equal → (a ≡ Equal) × (b ≡ Equal)
both_equal Less b e = absurd (true≢false (ap is_lt e))
both_equal Equal b e = (refl, e)
both_equal Greater b e = absurd (true≢false (ap is_gt e))

-- numbers that rank equal are the same
pub rank_equal : (x y : ℕ) → nat_cmp x y ≡ Equal → x ≡ y
rank_equal x y e = means (λ (a b : ℕ). a < b) below_irrefl below_chain nat_cmp ranks x y Equal e

pub int_rank_equal : (x y : ℤ) → int_cmp x y ≡ Equal → x ≡ y
int_rank_equal x y e = means (λ (a b : ℤ). a <ℤ b) (λ x h. <ℤ_irrefl h) int_chain int_cmp int_ranks x y Equal e
