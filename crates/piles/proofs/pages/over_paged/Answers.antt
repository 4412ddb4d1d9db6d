use Rattle.std.proofs.Common.{leb, rules, of_calls}
use Rattle.store.specs.declared.fault.Unmade.TheVariants.{Refused}
use Rattle.quota.specs.Quota.{quota_shape}
use Rattle.cache.specs.Cache.{cached_shape}
use Rattle.piles.specs.Pages.{frames}
use Rattle.piles.proofs.Runs.{ran, deep_cached, piled_as}
use Rattle.piles.proofs.pages.over_paged.Goals as goal

pub returns : goal.returns
returns c j =
    let a = c.args in
    ran frames (λ f. Refused f) (λ s. cached_shape (quota_shape a.q s)) a.width a.word _ a.runs (deep_cached (leb a.q 0)) (λ s t h k. search (rules, of_calls, piled_as)) c.over_fresh.ensures
