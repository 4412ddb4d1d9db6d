use Rattle.std.proofs.Common.{arith}
use Rattle.tree.specs.Tree.{empty, unit_of}
use Rattle.tree.proofs.Units.{shape_units}
use Rattle.tree.proofs.Runs.{runs, empty_rules, empty_strain}
use Rattle.tree.proofs.laws.rebalancings_bounded.Goals as goal

pub returns : goal.returns
returns g c s us j =
    let o = g.met.K.Key.ordered in
    let units = shape_units s in
    let r = runs o (unit_of s) units s.top (empty _) us (empty_rules o (unit_of s) units s.top) in
    omega (arith, r.paid j, empty_strain g.row.K.Denot (unit_of s) j)
