use Rattle.std.specs.Prelude.{◌≡◌, ℕ, ◌%◌, ◌^◌, ◌<◌, List, [], ◌∷◌, length, ℤ, pos, negsuc}
use Rattle.std.proofs.Common.{arith}
use Rattle.std.specs.Int.Signed.{mag}
use Rattle.keys.specs.Stamps.{packed, unpacked, biased, unbiased}
use Rattle.keys.specs.Orders.{Words}
use Rattle.std.specs.Cmp.{nat_cmp_total, int_cmp_total, then_total, on_total}
use Rattle.keys.specs.Stamps.{order}
use Rattle.keys.specs.Orders.{Orderly}
use Rattle.keys.specs.Alike.{stamps}
use Rattle.keys.specs.Ranks.{both_equal, rank_equal, int_rank_equal}
use Rattle.keys.specs.Totals.{orderly_by}

pub stamps_ordered : Orderly order
stamps_ordered = orderly_by (then_total (on_total (λ (p : ℤ × ℕ). p.0) int_cmp_total) (on_total (λ (p : ℤ × ℕ). p.1) nat_cmp_total)) (λ x. (x.minute, x.serial))
    (λ x y e. let b = both_equal _ _ e in stamps x y (int_rank_equal x.minute y.minute b.0) (rank_equal x.serial y.serial b.1))

pub word_fits : (m : ℤ) → mag m < 2 ^ 63 → biased m < 2 ^ 64
word_fits (pos n) h = omega arith
word_fits (negsuc n) h = grind arith

pub there_back : (m : ℤ) → mag m < 2 ^ 63 → unbiased (biased m) ≡ m
there_back (pos n) h = grind arith
there_back (negsuc n) h = grind arith

pub back_there : (w : ℕ) → biased (unbiased w) ≡ w
back_there w = grind arith

pub forth_law : (ws : List ℕ) → length ws ≡ 2 → Words ws → packed (unpacked ws) ≡ ws
forth_law [] e a = absurd (omega arith)
forth_law (v ∷ []) e a = absurd (omega arith)
forth_law (v ∷ w ∷ []) e a =
    let p : v % 2 ^ 64 ≡ v = omega (arith, a.0) in
    let q : w % 2 ^ 64 ≡ w = omega (arith, a.1.0) in
    rw (p, q, back_there v)
forth_law (v ∷ w ∷ u ∷ us) e a = absurd (omega arith)
