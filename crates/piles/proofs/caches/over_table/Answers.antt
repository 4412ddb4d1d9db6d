use Rattle.std.proofs.Common.{refl, rules, of_calls}
use Rattle.quota.specs.Quota.{quota_shape}
use Rattle.cache.specs.Cache.{cached_shape}
use Rattle.piles.specs.Runs.{rows}
use Rattle.piles.proofs.Runs.{ran, piled}
use Rattle.piles.proofs.caches.over_table.Goals as goal

pub returns : goal.returns
returns c j =
    let a = c.args in
    ran rows (λ f. f) (λ s. quota_shape a.p (cached_shape s)) a.width a.word _ a.runs refl (λ s t h k. search (rules, of_calls, piled)) c.over_fresh.ensures
