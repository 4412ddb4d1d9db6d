use Rattle.std.proofs.Common.{rules, ap, ◌∙◌}
use Rattle.keys.specs.Checkpoints.{order}
use Rattle.plain.specs.Resume.{of_case}
use Rattle.plain.specs.Plain.{floor as plain_floor}
use Rattle.tree.specs.Tree.{content}
use Rattle.index.proofs.Resumes.{kept_case}
use Rattle.index.proofs.resume.Index+Checkpoint+S.resume.Goals as goal

pub returns-clause-answers : goal.returns-clause-answers
returns-clause-answers g c t o =
    let a = c.in_ok-floor.ensures.answers t o in
    let kept = kept_case c.args.case _ (λ p b x. search rules) c.in_ok-floor.field-0 c.filter.result c.filter.ensures in
    record { value_is = kept ∙ ap (of_case c.args.case) (a.value_is ∙ ap (λ k. plain_floor order k (content _ t)) c.last_of.ensures); still = a.still; same = a.same }
