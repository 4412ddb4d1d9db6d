use Rattle.std.proofs.Common.{leb, rules, of_calls}
use Rattle.quota.specs.Quota.{quota_shape}
use Rattle.piles.specs.Runs.{rows}
use Rattle.piles.proofs.Runs.{ran, deep_two, piled}
use Rattle.piles.proofs.quotas.two_quotas.Goals as goal

pub returns : goal.returns
returns c =
    let a = c.args in
    ran rows (λ f. f) (λ s. quota_shape a.p (quota_shape a.q s)) a.width a.word _ a.runs (deep_two (leb a.p 0) (leb a.q 0)) (λ s t h k. search (rules, of_calls, piled)) c.over_fresh.ensures
