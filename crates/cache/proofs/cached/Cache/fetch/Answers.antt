use Rattle.std.proofs.Common.{◌≡◌, sym, ap, subst}
use Rattle.cache.specs.Lines.{views, table_views}
use Rattle.cache.specs.Cache.{Held}
use Rattle.cache.specs.Steps.{FetchFails, Brought, Missing}
use Rattle.cache.proofs.Exits.{at_exit}
use Rattle.cache.proofs.Turns.{seats}
use Rattle.cache.proofs.Fetches.{first_err, first_ok, fetched}
use Rattle.cache.proofs.cached.Cache.fetch.Goals as goal

pub returns-in_err-note-clause-works : goal.returns-in_err-note-clause-works
returns-in_err-note-clause-works g c =
    rw (at_exit _ _ c.from_residual.ensures)
    (λ r h _.
    let s = c.args.self.now in
    let m = g.S.Store.meaning s.store in
    let n = g.S.Store.meaning c.get.new.self in
    let vs = table_views s.table in
    let ve : table_views c.note.new.self ≡ vs = ap (λ l. views l.items) c.note.ensures.lines in
    let e = c.get.ensures.keeps r in
    let all = first_err c.args.block c.args.place c.get.result c.in_err-note.ensures.answer e.call e.deep c.note.ensures.lost h in
    record {
      call = subst (λ us. FetchFails c.args.block c.args.place c.in_err-note.field-0.0 m vs n us) (sym ve) all.0;
      ready = e.ready;
      held = subst (Held n c.note.new.self.lost) (sym ve) all.1;
    })

pub returns-clause-works : goal.returns-clause-works
returns-clause-works g c r h _ =
    let s = c.args.self.now in
    let b = c.args.block in
    let place = c.args.place in
    let n = g.S.Store.meaning c.get.new.self in
    let k = g.S.Store.meaning c.bring.new.self.store in
    let vs = table_views s.table in
    let ws = table_views c.bring.new.self.table in
    let ve : table_views c.note.new.self ≡ vs = ap (λ l. views l.items) c.note.ensures.lines in
    let law = g.S.Store.sound s.store r in
    let e = c.get.ensures.keeps r in
    let f = first_ok b place c.get.result law.none_at_zero c.in_ok-note.ensures.answer e.call c.note.ensures.lost h c.in_default.ensures in
    let d = c.bring.ensures.works e.ready (subst (Held n c.note.new.self.lost) (sym ve) f.held) (subst (Missing b n) (sym ve) f.missing) in
    let law₂ = g.S.Store.sound c.get.new.self e.ready in
    record {
      call = fetched b place c.bring.result law₂.none_at_zero f (subst (λ us. Brought b c.bring.result n us k ws) ve d.call) d.held;
      ready = d.ready;
      held = d.held;
    }

pub returns-clause-seats : goal.returns-clause-seats
returns-clause-seats g c p =
    let r = p.0 in
    let h = p.1 in
    let s = c.args.self.now in
    let b = c.args.block in
    let n = g.S.Store.meaning c.get.new.self in
    let ve : table_views c.note.new.self ≡ table_views s.table = ap (λ l. views l.items) c.note.ensures.lines in
    let law = g.S.Store.sound s.store r in
    let e = c.get.ensures.keeps r in
    let f = first_ok b c.args.place c.get.result law.none_at_zero c.in_ok-note.ensures.answer e.call c.note.ensures.lost h c.in_default.ensures in
    let d = c.bring.ensures.works e.ready (subst (Held n c.note.new.self.lost) (sym ve) f.held) (subst (Missing b n) (sym ve) f.missing) in
    seats s.table c.note.new.self c.bring.new.self.table b n (g.S.Store.meaning c.bring.new.self.store) (table_views c.note.new.self) (table_views c.bring.new.self.table) c.bring.result c.note.ensures.lines c.note.ensures.clock c.bring.ensures.room d.call
