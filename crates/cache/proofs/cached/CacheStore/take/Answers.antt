use Rattle.std.proofs.Common.{◌≡◌, sym, ap, subst}
use Rattle.store.specs.Calls.{Take}
use Rattle.cache.specs.Lines.{views, table_views}
use Rattle.cache.specs.Cache.{cached, Held}
use Rattle.cache.proofs.Turns.{timed_still}
use Rattle.cache.proofs.Services.{took}
use Rattle.cache.proofs.cached.CacheStore.take.Goals as goal

pub returns-clause-keeps : goal.returns-clause-keeps
returns-clause-keeps g c r =
    let s = c.args.self.now in
    let m = g.S.Store.meaning s.store in
    let n = g.S.Store.meaning c.take.new.self in
    let vs = table_views s.table in
    let ve : table_views c.note.new.self ≡ vs = ap (λ l. views l.items) c.note.ensures.lines in
    let law = g.S.Store.sound s.store r.0 in
    let e = c.take.ensures.keeps r.0 in
    let all = took law.none_at_zero r.1 c.note.result c.take.result c.note.ensures.answer e.call e.deep c.note.ensures.lost in
    record {
      call = subst (λ us. Take (cached vs m) c.note.result (cached us n)) (sym ve) all.0;
      deep = all.1;
      ready = (e.ready, subst (Held n c.note.new.self.lost) (sym ve) all.2, timed_still s.table c.note.new.self c.note.ensures.lines c.note.ensures.clock r.2);
    }
