-- How much a node may weigh, by level.
use Rattle.std.proofs.Common.{◌≡◌, ℕ, zero, suc, ◌+◌, ◌*◌, ◌^◌, ◌%◌, ◌<◌, ◌≤◌, min, refl, ap, ◌∙◌, arith, lit≤}
use Rattle.tree.specs.Tree.{index_shape, index_unit}
use Rattle.tree.proofs.Units.{Units, shape_units}
use Rattle.balance.specs.Limits.{limit_of}

-- one level up there is room for one more
pub limit_grows : (l : ℕ) → l < 4 → limit_of l + 1 ≤ limit_of (l + 1)
limit_grows zero h = lit≤ tt
limit_grows (suc zero) h = lit≤ tt
limit_grows (suc (suc zero)) h = lit≤ tt
limit_grows (suc (suc (suc zero))) h = lit≤ tt
limit_grows (suc (suc (suc (suc l)))) h = absurd (omega arith)

-- the limit is the W of an index's shape
pub limit_unit : (l : ℕ) → l ≤ 4 → limit_of l ≡ 8 * index_unit l
limit_unit zero h = refl
limit_unit (suc zero) h = refl
limit_unit (suc (suc zero)) h = refl
limit_unit (suc (suc (suc zero))) h = refl
limit_unit (suc (suc (suc (suc zero)))) h = refl
limit_unit (suc (suc (suc (suc (suc l))))) h = absurd (omega arith)

pub index_units : Units index_unit
index_units = shape_units index_shape

shifted : (m : ℕ) → m ≤ 4 → 64 * 2 ^ (4 * m) % 2 ^ 64 ≡ 64 * 16 ^ m
shifted zero h = refl
shifted (suc zero) h = refl
shifted (suc (suc zero)) h = refl
shifted (suc (suc (suc zero))) h = refl
shifted (suc (suc (suc (suc zero)))) h = refl
shifted (suc (suc (suc (suc (suc m))))) h = absurd (omega arith)

-- the limit by a shift
pub limit_shifted : (l m : ℕ) → m ≡ min l 4 → 64 * 2 ^ (4 * m) % 2 ^ 64 ≡ limit_of l
limit_shifted l m e = shifted m (omega (arith, e)) ∙ ap (λ z. 64 * 16 ^ z) e
