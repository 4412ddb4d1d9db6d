use Rattle.cache.proofs.Helds.{clear_held}
use Rattle.cache.proofs.Services.{clear_over}
use Rattle.cache.proofs.cached.Cache.new.Goals as goal

pub returns-clause-opened : goal.returns-clause-opened
returns-clause-opened g c r u =
    let law = g.S.Store.sound c.args.store r in
    record { held = clear_held u.clear u.up; timed = u.timed; same = clear_over _ (g.S.Store.meaning c.args.store) law.none_at_zero u.clear }
