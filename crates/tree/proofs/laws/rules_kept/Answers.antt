use Rattle.tree.specs.Tree.{empty, unit_of}
use Rattle.tree.proofs.Units.{shape_units}
use Rattle.tree.proofs.Runs.{makes, runs, empty_rules}
use Rattle.tree.proofs.laws.rules_kept.Goals as goal

pub returns : goal.returns
returns g c s =
    let o = g.met.K.Key.ordered in
    let units = shape_units s in
    record {
      each = λ t u r e. let m = makes o (unit_of s) units s.top t u r e in record { rules = m.rules; pairs = m.holds };
      all = λ us. let r = runs o (unit_of s) units s.top (empty _) us (empty_rules o (unit_of s) units s.top) in record { rules = r.rules; pairs = r.holds };
    }
