use Rattle.std.proofs.Common.{rules, sym, subst}
use Rattle.index.specs.Steps.{StepsAt}
use Rattle.index.proofs.index.Index.step.Goals as goal

pub returns-in-Err-clause-steps : goal.returns-in-Err-clause-steps
returns-in-Err-clause-steps g c = λ e. subst (StepsAt g.F.FnOnce _ _ _ _) (sym c.note.ensures.store) (search rules)
