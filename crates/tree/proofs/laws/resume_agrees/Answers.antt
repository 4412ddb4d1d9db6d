use Rattle.std.proofs.Common.{ap}
use Rattle.keys.specs.Lawful.{checkpoints_ordered}
use Rattle.plain.specs.Resume.{of_case, last_of}
use Rattle.tree.specs.Tree.{unit_of}
use Rattle.tree.proofs.Units.{shape_units}
use Rattle.tree.proofs.Queries.{answers}
use Rattle.tree.proofs.laws.resume_agrees.Goals as goal

pub returns : goal.returns
returns c s t r case = ap (of_case case) ((answers checkpoints_ordered (unit_of s) (shape_units s) s.top t r).floors (last_of case))
