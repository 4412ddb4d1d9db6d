use Rattle.std.proofs.Common.{◌≡◌, ◌<◌, length, get_or, rules, sym, ap, ◌∙◌, subst, arith}
use Rattle.std.proofs.lemmas.List.{length-map, map-set, get_or-map}
use Rattle.store.specs.Layers.{raised}
use Rattle.cache.specs.Lines.{view, views, table_views, blank}
use Rattle.cache.specs.Cache.{flat, Held}
use Rattle.cache.specs.Steps.{Heard, Empty, EmptyDone, CloseFails}
use Rattle.cache.proofs.Exits.{at_exit, was_ok, was_err}
use Rattle.cache.proofs.Evicts.{goes_whole}
use Rattle.cache.proofs.Closings.{closing_more, closing_all, closing_exit, fails_of, heard_up}
use Rattle.cache.proofs.cached.Cache.flush.Goals as goal

pub loop-line-preserved : goal.loop-line-preserved
loop-line-preserved g c r h up =
    let q = c.loop-line.invariant r h up in
    let ls = c.loop-line.line-items in
    let i = c.loop-line.line-index in
    let n = g.S.Store.meaning c.loop-line.store in
    let k = g.S.Store.meaning c.empty.new.store in
    let w = view c.empty.new.line in
    let l : i < length (views ls) = omega (arith, length-map ls view) in
    let old = get_or ls i c.line-item.result in
    let v = get_or-map view ls i c.line-item.result blank (omega arith) in
    let e : c.map_err-in-loop-line.result ≡ raised c.empty.result = search rules in
    let out = c.empty.ensures.leaves q.0 in
    let d = was_ok (λ a. Empty (view old) w n a k) c.empty.result (sym c.in_ok-map_err-2.was ∙ e) (out.call (goes_whole i v q.1.held)) in
    let law = g.S.Store.sound c.loop-line.store q.0 in
    (out.ready, simp map-set (closing_more w law.none_at_zero up l (subst (λ x. EmptyDone x w n k) (sym v) d) q.1))

pub returns-in_err-map_err-2 : goal.returns-in_err-map_err-2
returns-in_err-map_err-2 g c =
    rw (at_exit _ _ c.from_residual-in_err-map_err-2.ensures)
    (λ r.
    let s = c.args.self.now in
    let m = g.S.Store.meaning s.store in
    let n = g.S.Store.meaning c.heard.new.store in
    let first = c.heard.ensures r.0 in
    let e : c.map_err.result ≡ raised c.heard.result = search rules in
    let up = was_ok (λ a. Heard s.table.lost m a n) c.heard.result (sym c.in_ok-map_err.was ∙ e) first.call in
    let q = c.loop-line.invariant first.ready (subst (λ x. Held x s.table.lost (table_views s.table)) (sym up.0) r.1) (heard_up r.1 up.1) in
    let ls = c.loop-line.line-items in
    let i = c.loop-line.line-index in
    let old = get_or ls i c.line-item.result in
    let v = get_or-map view ls i c.line-item.result blank (omega arith) in
    let k = g.S.Store.meaning c.empty.new.store in
    let e₂ : c.map_err-in-loop-line.result ≡ raised c.empty.result = search rules in
    let out = c.empty.ensures.leaves q.0 in
    let d = was_err (λ a. Empty (view old) (view c.empty.new.line) (g.S.Store.meaning c.loop-line.store) a k) c.empty.result (sym c.in_err-map_err-2.was ∙ e₂) (out.call (goes_whole i v q.1.held)) in
    record { call = subst (λ f. CloseFails f m k) d.1 (fails_of up.0 (closing_exit d.2.down q.1)); ready = out.ready })

pub returns : goal.returns
returns g c r =
    let s = c.args.self.now in
    let m = g.S.Store.meaning s.store in
    let n = g.S.Store.meaning c.heard.new.store in
    let first = c.heard.ensures r.0 in
    let e : c.map_err.result ≡ raised c.heard.result = search rules in
    let up = was_ok (λ a. Heard s.table.lost m a n) c.heard.result (sym c.in_ok-map_err.was ∙ e) first.call in
    let q = c.loop-line.invariant first.ready (subst (λ x. Held x s.table.lost (table_views s.table)) (sym up.0) r.1) (heard_up r.1 up.1) in
    let law = g.S.Store.sound c.loop-line.store q.0 in
    record { call = closing_all law.none_at_zero (omega (arith, length-map c.loop-line.line-items view)) q.1 ∙ ap (flat (table_views s.table)) up.0; ready = q.0 }
