use Rattle.std.proofs.Common.{refl}
use Rattle.tree.specs.Tree.{unit_of}
use Rattle.tree.proofs.Units.{shape_units}
use Rattle.tree.proofs.Counts.{takes_right, gives_back, unmarked}
use Rattle.tree.proofs.laws.blocks_counted.Goals as goal

pub returns : goal.returns
returns g c s =
    let order = g.K.Key.order in
    record {
      first = refl;
      takes = λ t k h r. takes_right order (unit_of s) (shape_units s) t k h r.weighed;
      gives = gives_back order (unit_of s);
      unmarked = unmarked order (unit_of s);
    }
