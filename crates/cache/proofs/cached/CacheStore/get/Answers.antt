use Rattle.std.proofs.Common.{◌≡◌, ◌<◌, length, get_or, set, sym, refl, ap, ◌∙◌, subst, arith}
use Rattle.std.proofs.lemmas.List.{set-get_or}
use Rattle.store.specs.Calls.{GetDone}
use Rattle.cache.specs.Lent.{ticked, with_line}
use Rattle.cache.specs.Lines.{nth, blank, table_views}
use Rattle.cache.specs.Cache.{cached, Held}
use Rattle.cache.proofs.Turns.{views_set, timed_set, turned}
use Rattle.cache.proofs.Services.{got}
use Rattle.cache.proofs.cached.CacheStore.get.Goals as goal

pub returns-clause-uses : goal.returns-clause-uses
returns-clause-uses g c r =
    let i = c.in_ok-i.i in
    let t = c.fetch.new.self.table in
    let w = c.used.result.now in
    let h : i < length t.lines.items = omega (arith, t.lines.ok.0, c.in_ok-i.ensures.within) in
    let e = c.in_ok-i.ensures.works r.0 r.1 tt in
    let at = ap (λ v. v.block) c.used.ensures.line ∙ e.call.block in
    (i, turned t (with_line (ticked t) i w) i w refl c.args.block c.args.self.now.table h at (c.in_ok-i.ensures.seats r) refl c.used.ensures.used e.call.block)

pub returns-clause-keeps : goal.returns-clause-keeps
returns-clause-keeps g c r =
    let i = c.in_ok-i.i in
    let place = c.args.place in
    let m = g.S.Store.meaning c.args.self.now.store in
    let n = g.S.Store.meaning c.fetch.new.self.store in
    let t = c.fetch.new.self.table in
    let vs = table_views c.args.self.now.table in
    let ws = table_views t in
    let w = c.used.result.now in
    let u = with_line (ticked t) i w in
    let ue : table_views u ≡ ws = views_set t u i w refl ∙ ap (set ws i) c.used.ensures.line ∙ set-get_or ws i blank in
    let value : c.word.result ≡ get_or (nth ws i).words place 0 = omega (arith, c.word.ensures, ap (λ v. get_or v.words place 0) c.used.ensures.line) in
    let e = c.in_ok-i.ensures.works r.0 r.1 tt in
    let law = g.S.Store.sound c.fetch.new.self.store e.ready in
    record {
      call = subst (λ us. GetDone (cached vs m) c.args.block place c.word.result (cached us n)) (sym ue) (got law.none_at_zero e.call e.held c.word.result value);
      deep = tt;
      ready = (
        e.ready,
        subst (Held n t.lost) (sym ue) e.held,
        timed_set t u i w refl c.used.ensures.forward (omega (arith, c.used.ensures.used)) (c.in_ok-i.ensures.timed r.2),
      );
    }
