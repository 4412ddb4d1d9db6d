use Rattle.std.proofs.Common.{◌≡◌, ◌<◌, length, set, vec_items, sym, ap, ◌∙◌, subst, arith}
use Rattle.std.proofs.lemmas.List.{length-map}
use Rattle.cache.specs.Lines.{view, views, table_views}
use Rattle.cache.specs.Cache.{cached, Held}
use Rattle.cache.specs.Steps.{Falls, Loaded, LoadDone}
use Rattle.cache.proofs.Exits.{at_exit}
use Rattle.cache.proofs.Fetches.{then_loadable, loaded_on, falls_on}
use Rattle.cache.proofs.TableLines.{view_at, views_set}
use Rattle.cache.proofs.Turns.{refilled, timed_kept}
use Rattle.cache.proofs.Evicts.{load_all}
use Rattle.cache.proofs.cached.Cache.bring.Goals as goal

pub returns-in_err-note-clause-works : goal.returns-in_err-note-clause-works
returns-in_err-note-clause-works g c =
    let b = c.args.block in
    let i = c.in_ok-i.i in
    let s = c.evict.new.self in
    let t = s.table in
    let vs = table_views t in
    let m = g.S.Store.meaning c.args.self.now.store in
    let k = g.S.Store.meaning s.store in
    let n = g.S.Store.meaning c.fill-read.new.store in
    rw (at_exit _ _ c.from_residual-in_err-note.ensures)
    (λ r h p.
    let law = g.S.Store.sound c.args.self.now.store r in
    let e = c.in_ok-i.ensures.works r h p.up in
    let q = then_loadable b i law.none_at_zero p e.call in
    let law₂ = g.S.Store.sound s.store e.ready in
    let w = view c.fill-read.new.line in
    let l : i < length vs = omega (arith, t.lines.ok.0, length-map t.lines.items view, c.in_ok-i.ensures.within) in
    let v = view_at t.lines.items i c.line.result.now (omega (arith, t.lines.ok.0, c.in_ok-i.ensures.within)) c.line.ensures.line in
    let ve : table_views c.note.new.self ≡ set vs i w = ap (λ x. views x.items) c.note.ensures.lines ∙ views_set t.lines.items i c.fill-read.new.line in
    let out = c.fill-read.ensures.leaves e.ready in
    let all = load_all b i w l law₂.none_at_zero q e.held c.note.result c.fill-read.result c.note.ensures.answer (out.call q.granted (sym (ap (λ x. x.block) v) ∙ q.none)) c.note.ensures.lost in
    let f = c.in_err-note.field-0.0 in
    let d = subst (λ a. Loaded b i a k vs n (set vs i w)) c.in_err-note.was all.0 in
    record {
      call = subst (λ us. Falls f (cached (table_views c.args.self.now.table) m) (cached us n)) (sym ve) (falls_on e.call.same d);
      ready = out.ready;
      held = subst (Held n c.note.new.self.lost) (sym ve) all.1;
    })

pub returns-clause-works : goal.returns-clause-works
returns-clause-works g c r h p =
    let b = c.args.block in
    let i = c.in_ok-i.i in
    let s = c.evict.new.self in
    let t = s.table in
    let vs = table_views t in
    let m = g.S.Store.meaning c.args.self.now.store in
    let k = g.S.Store.meaning s.store in
    let n = g.S.Store.meaning c.fill-read.new.store in
    let law = g.S.Store.sound c.args.self.now.store r in
    let e = c.in_ok-i.ensures.works r h p.up in
    let q = then_loadable b i law.none_at_zero p e.call in
    let law₂ = g.S.Store.sound s.store e.ready in
    let w = view c.fill-read.new.line in
    let l : i < length vs = omega (arith, t.lines.ok.0, length-map t.lines.items view, c.in_ok-i.ensures.within) in
    let v = view_at t.lines.items i c.line.result.now (omega (arith, t.lines.ok.0, c.in_ok-i.ensures.within)) c.line.ensures.line in
    let ve : table_views c.note.new.self ≡ set vs i w = ap (λ x. views x.items) c.note.ensures.lines ∙ views_set t.lines.items i c.fill-read.new.line in
    let out = c.fill-read.ensures.leaves e.ready in
    let all = load_all b i w l law₂.none_at_zero q e.held c.note.result c.fill-read.result c.note.ensures.answer (out.call q.granted (sym (ap (λ x. x.block) v) ∙ q.none)) c.note.ensures.lost in
    let d = subst (λ a. Loaded b i a k vs n (set vs i w)) c.in_ok-note.was all.0 in
    record {
      call = subst (LoadDone b i m (table_views c.args.self.now.table) n) (sym ve) (loaded_on e.call.same d);
      ready = out.ready;
      held = subst (Held n c.note.new.self.lost) (sym ve) all.1;
    }

pub returns-clause-room : goal.returns-clause-room
returns-clause-room g c =
    let i = c.in_ok-i.i in
    let t = c.evict.new.self.table in
    let u = c.note.new.self in
    let h : i < length t.lines.items = omega (arith, t.lines.ok.0, c.in_ok-i.ensures.within) in
    let r = c.in_ok-i.ensures.room in
    (refilled t u i c.fill-read.new.line (ap vec_items c.note.ensures.lines) c.args.self.now.table c.line.result.now h c.line.ensures.line c.fill-read.ensures.used c.note.ensures.clock r.0, r.1)

pub returns-clause-timed : goal.returns-clause-timed
returns-clause-timed g c p =
    let i = c.in_ok-i.i in
    let t = c.evict.new.self.table in
    let h : i < length t.lines.items = omega (arith, t.lines.ok.0, c.in_ok-i.ensures.within) in
    timed_kept t c.note.new.self i c.fill-read.new.line (ap vec_items c.note.ensures.lines) c.line.result.now h c.line.ensures.line (omega (arith, c.fill-read.ensures.used)) c.note.ensures.clock (c.in_ok-i.ensures.timed p)

pub returns-in_err-note-clause-timed : goal.returns-in_err-note-clause-timed
returns-in_err-note-clause-timed g c p =
    let i = c.in_ok-i.i in
    let t = c.evict.new.self.table in
    let h : i < length t.lines.items = omega (arith, t.lines.ok.0, c.in_ok-i.ensures.within) in
    timed_kept t c.note.new.self i c.fill-read.new.line (ap vec_items c.note.ensures.lines) c.line.result.now h c.line.ensures.line (omega (arith, c.fill-read.ensures.used)) c.note.ensures.clock (c.in_ok-i.ensures.timed p)
