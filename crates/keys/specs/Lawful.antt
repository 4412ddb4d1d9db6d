-- The laws of the order of checkpoints, for those who speak of checkpoints alone.
use Rattle.std.specs.Prelude.{ℕ}
use Rattle.std.specs.Cmp.{nat_cmp_total, then_total, on_total}
use Rattle.keys.specs.Checkpoints.{order}
use Rattle.keys.specs.Orders.{Orderly}
use Rattle.keys.specs.Alike.{checkpoints}
use Rattle.keys.specs.Ranks.{both_equal, rank_equal}
use Rattle.keys.specs.Totals.{orderly_by}

pub checkpoints_ordered : Orderly order
checkpoints_ordered = orderly_by (then_total (on_total (λ (p : ℕ × ℕ). p.0) nat_cmp_total) (on_total (λ (p : ℕ × ℕ). p.1) nat_cmp_total)) (λ x. (x.case, x.step))
    (λ x y e. let b = both_equal _ _ e in checkpoints x y (rank_equal x.case y.case b.0) (rank_equal x.step y.step b.1))
