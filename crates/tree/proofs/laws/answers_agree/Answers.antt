use Rattle.tree.specs.Tree.{unit_of}
use Rattle.tree.proofs.Units.{shape_units}
use Rattle.tree.proofs.Queries.{answers}
use Rattle.tree.proofs.laws.answers_agree.Goals as goal

pub returns : goal.returns
returns g c s t r = answers g.met.K.Key.ordered (unit_of s) (shape_units s) s.top t r
