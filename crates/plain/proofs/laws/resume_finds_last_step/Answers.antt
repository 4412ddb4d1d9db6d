use Rattle.keys.specs.Lawful.{checkpoints_ordered}
use Rattle.plain.proofs.Steps.{last_step}
use Rattle.plain.proofs.laws.resume_finds_last_step.Goals as goal

pub returns : goal.returns
returns c ps a case fits = last_step checkpoints_ordered case fits ps a
