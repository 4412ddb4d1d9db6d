use Rattle.std.proofs.Common.{ℕ, ◌*◌, ◌^◌, sym, ap, ◌∙◌, mul_assoc, pow-suc, arith}
use native.Mathlib.Nat.{pow-zero}
use Rattle.tree.specs.Tree.{unit_of}
use Rattle.tree.proofs.Lists.{total_one}
use Rattle.tree.proofs.Units.{shape_units}
use Rattle.tree.proofs.Counts.{places_suffice}
use Rattle.tree.proofs.laws.places_suffice.Goals as goal

pub returns : goal.returns
returns g c s =
    let next = λ (l : ℕ). ap (λ n. s.eighth * n) (pow-suc s.branching l) ∙ sym (mul_assoc s.eighth (s.branching ^ l) s.branching) in
    record {
      leaf = λ x w. omega (arith, total_one x, ap (λ n. s.eighth * n) (pow-zero s.branching));
      inner = λ l x f w. places_suffice g.row.K.Denot (unit_of s) (shape_units s) s.branching l x (next l) f w;
    }
