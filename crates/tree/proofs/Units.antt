-- What the laws ask of units, and that every shape has it.
use Rattle.std.proofs.Common.{ℕ, zero, suc, ◌*◌, ◌^◌, ◌≤◌, mul-le-mul_left, pow-suc, arith}
use native.Mathlib.Nat.{pow-zero}
use Rattle.tree.specs.Tree.{Shape, unit_of}

-- two to a leaf, and each level 16 times the one below
pub record Units (unit : ℕ → ℕ) : Type 0 where
  pub some : 2 ≤ unit 0
  pub grows : (l : ℕ) → 16 * unit l ≤ unit (suc l)

pub shape_units : (s : Shape) → Units (unit_of s)
shape_units s = record {
  some = rw (pow-zero s.branching) (omega (arith, s.wide_leaves));
  grows = λ l. rw (pow-suc s.branching l) (omega (arith, mul-le-mul_left (s.eighth * s.branching ^ l) s.wide_nodes));
}

pub unit_some : (unit : ℕ → ℕ) (units : Units unit) (l : ℕ) → 2 ≤ unit l
unit_some unit units zero = units.some
unit_some unit units (suc l) = omega (arith, unit_some unit units l, units.grows l)
