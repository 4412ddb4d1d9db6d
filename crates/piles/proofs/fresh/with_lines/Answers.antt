use Rattle.std.proofs.Common.{refl, rules}
use Rattle.piles.specs.Lined.WithLines.{not_lined, lined}
use Rattle.piles.proofs.fresh.with_lines.Goals as goal

pub returns-in-Ok : goal.returns-in-Ok
returns-in-Ok g c = lined _ (search rules) c.step.ensures

pub returns-in-Err : goal.returns-in-Err
returns-in-Err g c = not_lined c.in-Err.why (search rules) (search rules) refl
