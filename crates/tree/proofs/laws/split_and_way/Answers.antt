use Rattle.std.proofs.Common.{length}
use Rattle.tree.specs.Tree.{unit_of, route}
use Rattle.tree.proofs.Units.{shape_units}
use Rattle.tree.proofs.Words.{splits, leaf_halved, route_last, route_at}
use Rattle.tree.proofs.laws.split_and_way.Goals as goal

pub returns : goal.returns
returns g c =
    let o = g.met.K.Key.ordered in
    record {
      splits = λ s. record { parts = splits _ (unit_of s); leaf = leaf_halved _ (unit_of s) };
      way = λ s l k c cs f a.
          (length (route g.K.Key.order l k c cs).before, route_last o (unit_of s) (shape_units s) l k c cs f a, route_at o (unit_of s) (shape_units s) l k c cs);
    }
