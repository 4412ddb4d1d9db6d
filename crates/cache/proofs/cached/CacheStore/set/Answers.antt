use Rattle.std.proofs.Common.{◌≡◌, ◌<◌, length, set, sym, refl, ap, ◌∙◌, subst, arith}
use Rattle.store.specs.Calls.{SetDone}
use Rattle.cache.specs.Lent.{ticked, with_line}
use Rattle.cache.specs.Lines.{View, nth, table_views, set_view}
use Rattle.cache.specs.Cache.{cached, Held}
use Rattle.cache.proofs.Turns.{views_set, timed_set, turned}
use Rattle.cache.proofs.Services.{wrote}
use Rattle.cache.proofs.cached.CacheStore.set.Goals as goal

pub returns-clause-uses : goal.returns-clause-uses
returns-clause-uses g c r =
    let i = c.in_ok-i.i in
    let t = c.fetch.new.self.table in
    let w = c.put.new.self in
    let h : i < length t.lines.items = omega (arith, t.lines.ok.0, c.in_ok-i.ensures.within) in
    let e = c.in_ok-i.ensures.works r.0 r.1 tt in
    let at = ap (λ v. v.block) c.put.ensures.view ∙ ap (λ v. v.block) c.used.ensures.line ∙ e.call.block in
    (i, turned t (with_line (ticked t) i w) i w refl c.args.block c.args.self.now.table h at (c.in_ok-i.ensures.seats r) refl (c.put.ensures.used ∙ c.used.ensures.used) e.call.block)

pub returns-clause-keeps : goal.returns-clause-keeps
returns-clause-keeps g c r =
    let i = c.in_ok-i.i in
    let b = c.args.block in
    let place = c.args.place in
    let word = c.args.word in
    let m = g.S.Store.meaning c.args.self.now.store in
    let n = g.S.Store.meaning c.fetch.new.self.store in
    let t = c.fetch.new.self.table in
    let vs = table_views c.args.self.now.table in
    let ws = table_views t in
    let w = c.put.new.self in
    let u = with_line (ticked t) i w in
    let f = λ (v : View). set_view v place word in
    let ue : table_views u ≡ set ws i (f (nth ws i)) = views_set t u i w refl ∙ ap (set ws i) (c.put.ensures.view ∙ ap f c.used.ensures.line) in
    let e = c.in_ok-i.ensures.works r.0 r.1 tt in
    let law = g.S.Store.sound c.fetch.new.self.store e.ready in
    let d = wrote law.none_at_zero e.call e.held word in
    record {
      call = subst (λ us. SetDone (cached vs m) b place word (cached us n)) (sym ue) d.0;
      deep = tt;
      ready = (
        e.ready,
        subst (Held n t.lost) (sym ue) d.1,
        timed_set t u i w refl c.used.ensures.forward (omega (arith, c.put.ensures.used, c.used.ensures.used)) (c.in_ok-i.ensures.timed r.2),
      );
    }
