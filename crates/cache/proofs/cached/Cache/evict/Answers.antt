use Rattle.std.proofs.Common.{◌≡◌, ◌<◌, length, set, vec_items, vec_len, sym, ap, ◌∙◌, subst, arith}
use Rattle.std.specs.Result.{IfOk}
use Rattle.std.proofs.lemmas.List.{length-map}
use Rattle.cache.specs.Lines.{view, views, table_views}
use Rattle.cache.specs.Cache.{cached, Held}
use Rattle.cache.specs.Steps.{Empty, EvictDone, Falls}
use Rattle.cache.proofs.Exits.{at_exit, was_ok}
use Rattle.cache.proofs.TableLines.{view_at, views_set}
use Rattle.cache.proofs.Turns.{vacated, timed_kept}
use Rattle.cache.proofs.Evicts.{goes_whole, evict_ok, evict_err}
use Rattle.cache.proofs.cached.Cache.evict.Goals as goal

pub returns-in_err-note : goal.returns-in_err-note
returns-in_err-note g c =
    let t = c.args.self.now.table in
    let vs = table_views t in
    let i = c.oldest-i.result in
    let m = g.S.Store.meaning c.args.self.now.store in
    let n = g.S.Store.meaning c.empty-out.new.store in
    let w = view c.empty-out.new.line in
    let e = length-map t.lines.items view in
    let v = view_at t.lines.items i c.line.result.now (omega (arith, t.lines.ok.0, c.oldest-i.ensures.within)) c.line.ensures.line in
    let l : i < length vs = omega (arith, t.lines.ok.0, c.oldest-i.ensures.within) in
    let ve : table_views c.note.new.self ≡ set vs i w = ap (λ x. views x.items) c.note.ensures.lines ∙ views_set t.lines.items i c.empty-out.new.line in
    rw (at_exit _ _ c.from_residual.ensures)
    (record {
      within = tt;
      room = tt;
      timed = timed_kept t c.note.new.self i c.empty-out.new.line (ap vec_items c.note.ensures.lines) c.line.result.now (omega (arith, t.lines.ok.0, c.oldest-i.ensures.within)) c.line.ensures.line c.empty-out.ensures.sooner c.note.ensures.clock;
      works = λ r h up.
          let law = g.S.Store.sound c.args.self.now.store r in
          let out = c.empty-out.ensures.leaves r in
          let d = subst (λ x. Empty x w m c.empty-out.result n) (sym v) (out.call (goes_whole i v h)) in
          let all = evict_err i w l law.none_at_zero up h c.empty-out.result c.in_err-note.ensures.answer d c.note.ensures.lost in
          record {
            call = subst (λ us. Falls c.in_err-note.field-0.0 (cached vs m) (cached us n)) (sym ve) all.0;
            ready = out.ready;
            held = subst (Held n c.note.new.self.lost) (sym ve) all.1;
          };
    })

pub returns : goal.returns
returns g c =
    let t = c.args.self.now.table in
    let vs = table_views t in
    let i = c.oldest-i.result in
    let m = g.S.Store.meaning c.args.self.now.store in
    let n = g.S.Store.meaning c.empty-out.new.store in
    let w = view c.empty-out.new.line in
    let e = length-map t.lines.items view in
    let v = view_at t.lines.items i c.line.result.now (omega (arith, t.lines.ok.0, c.oldest-i.ensures.within)) c.line.ensures.line in
    let l : i < length vs = omega (arith, t.lines.ok.0, c.oldest-i.ensures.within) in
    let ve : table_views c.note.new.self ≡ set vs i w = ap (λ x. views x.items) c.note.ensures.lines ∙ views_set t.lines.items i c.empty-out.new.line in
    let a = length-map t.lines.items (λ l. l.used) in
    let lines = ap vec_items c.note.ensures.lines in
    let z = was_ok (λ a. IfOk a (λ _. c.empty-out.new.line.used ≡ 0)) c.empty-out.result c.in_ok-note.ensures.answer c.empty-out.ensures.used in
    record {
      within = omega (arith, c.oldest-i.ensures.within, ap (λ x. vec_len x) c.note.ensures.lines);
      room = (vacated t c.note.new.self i c.empty-out.new.line lines c.note.ensures.clock z, λ k h. c.oldest-i.ensures.least k (omega (arith, t.lines.ok.0, a)));
      timed = timed_kept t c.note.new.self i c.empty-out.new.line lines c.line.result.now (omega (arith, t.lines.ok.0, c.oldest-i.ensures.within)) c.line.ensures.line c.empty-out.ensures.sooner c.note.ensures.clock;
      works = λ r h up.
          let law = g.S.Store.sound c.args.self.now.store r in
          let out = c.empty-out.ensures.leaves r in
          let d = subst (λ x. Empty x w m c.empty-out.result n) (sym v) (out.call (goes_whole i v h)) in
          let all = evict_ok i w l law.none_at_zero up h c.empty-out.result c.in_ok-note.ensures.answer d c.note.ensures.lost in
          record {
            call = subst (EvictDone i m vs n) (sym ve) all.0;
            ready = out.ready;
            held = subst (Held n c.note.new.self.lost) (sym ve) all.1;
          };
    }
