use Rattle.std.proofs.Common.{◌≡◌, ℕ, ◌<◌, length, set, sym, refl, ap, ◌∙◌, subst, arith}
use Rattle.std.proofs.lemmas.List.{length-map}
use Rattle.store.specs.Calls.{Give, GiveFails, GiveDone}
use Rattle.cache.specs.Lines.{view, views, nth, table_views, free_view}
use Rattle.cache.specs.Cache.{cached, Held}
use Rattle.cache.proofs.TableLines.{line_set, block_at}
use Rattle.cache.specs.Lent.{with_line}
use Rattle.cache.specs.Laws.Overlays.{not_zero}
use Rattle.cache.proofs.Turns.{timed_set, timed_still, dropped_none, dropped_line}
use Rattle.cache.proofs.Services.{give_err, gave, gave_line}
use Rattle.cache.proofs.Exits.{at_exit, was_ok}
use Rattle.cache.proofs.cached.CacheStore.give_back.Goals as goal

pub returns-in_err-note-clause-keeps : goal.returns-in_err-note-clause-keeps
returns-in_err-note-clause-keeps g c =
    rw (at_exit _ _ c.from_residual.ensures)
    (λ r.
    let s = c.args.self.now in
    let b = c.args.block in
    let m = g.S.Store.meaning s.store in
    let n = g.S.Store.meaning c.give_back.new.self in
    let vs = table_views s.table in
    let x = c.in_err-note.field-0.0 in
    let ve : table_views c.note.new.self ≡ vs = ap (λ l. views l.items) c.note.ensures.lines in
    let law = g.S.Store.sound s.store r.0 in
    let e = c.give_back.ensures.keeps r.0 in
    let all = give_err law.none_at_zero r.1 b c.give_back.result c.in_err-note.ensures.answer e.call e.deep c.note.ensures.lost in
    record {
      call = subst (λ us. GiveFails b x.refusal x.block (cached vs m) (cached us n)) (sym ve) all.0;
      deep = all.1;
      ready = (e.ready, subst (Held n c.note.new.self.lost) (sym ve) all.2, timed_still s.table c.note.new.self c.note.ensures.lines c.note.ensures.clock r.2);
    })

pub returns-in-Some-clause-keeps : goal.returns-in-Some-clause-keeps
returns-in-Some-clause-keeps g c r =
    let s = c.args.self.now in
    let b = c.args.block in
    let m = g.S.Store.meaning s.store in
    let n = g.S.Store.meaning c.give_back.new.self in
    let vs = table_views s.table in
    let i = c.in-Some.i in
    let t = c.note.new.self in
    let ve : table_views t ≡ vs = ap (λ l. views l.items) c.note.ensures.lines in
    let hit = c.in-Some.ensures in
    let l : i < length vs = omega (arith, hit.0, ap length ve) in
    let at_b : (nth vs i).block ≡ b = block_at i ve hit.1 (omega arith) in
    let w = c.clear.new.self in
    let u = with_line t i w in
    let here : i < length t.lines.items = omega (arith, hit.0, length-map t.lines.items view) in
    let ue : table_views u ≡ set vs i (free_view (nth vs i)) = line_set t.lines.items i c.line.result.now w free_view here c.line.ensures.line c.clear.ensures.view ∙ ap (λ us. set us i (free_view (nth us i))) ve in
    let law = g.S.Store.sound s.store r.0 in
    let e = c.give_back.ensures.keeps r.0 in
    let all = gave_line law.none_at_zero r.1 i (free_view (nth vs i)) l refl b c.give_back.result c.in_ok-note.ensures.answer e.call c.note.ensures.lost at_b in
    record {
      call = subst (λ us. GiveDone (cached vs m) b (cached us n)) (sym ue) all.0;
      deep = tt;
      ready = (e.ready, subst (Held n t.lost) (sym ue) all.1, timed_set t u i w refl (omega arith) (omega (arith, c.clear.ensures.used)) (timed_still s.table t c.note.ensures.lines c.note.ensures.clock r.2));
    }

pub returns-in_default-clause-keeps : goal.returns-in_default-clause-keeps
returns-in_default-clause-keeps g c r =
    let s = c.args.self.now in
    let b = c.args.block in
    let m = g.S.Store.meaning s.store in
    let n = g.S.Store.meaning c.give_back.new.self in
    let vs = table_views s.table in
    let ve : table_views c.note.new.self ≡ vs = ap (λ l. views l.items) c.note.ensures.lines in
    let none = subst (λ us. (b ≡ 0 → ⊥) → (k : ℕ) → (nth us k).block ≡ b → ⊥) ve c.in_default.ensures in
    let law = g.S.Store.sound s.store r.0 in
    let e = c.give_back.ensures.keeps r.0 in
    let all = gave law.none_at_zero r.1 b c.give_back.result c.in_ok-note.ensures.answer e.call c.note.ensures.lost none in
    record {
      call = subst (λ us. GiveDone (cached vs m) b (cached us n)) (sym ve) all.0;
      deep = tt;
      ready = (e.ready, subst (Held n c.note.new.self.lost) (sym ve) all.1, timed_still s.table c.note.new.self c.note.ensures.lines c.note.ensures.clock r.2);
    }

pub returns-in-Some-clause-drops : goal.returns-in-Some-clause-drops
returns-in-Some-clause-drops g c r =
    let s = c.args.self.now in
    let b = c.args.block in
    let m = g.S.Store.meaning s.store in
    let n = g.S.Store.meaning c.give_back.new.self in
    let i = c.in-Some.i in
    let t = c.note.new.self in
    let w = c.clear.new.self in
    let ve : table_views t ≡ table_views s.table = ap (λ l. views l.items) c.note.ensures.lines in
    let hit = c.in-Some.ensures in
    let here : i < length t.lines.items = omega (arith, hit.0, length-map t.lines.items view) in
    let law = g.S.Store.sound s.store r.0 in
    let done = was_ok (λ a. Give b m a n) c.give_back.result c.in_ok-note.ensures.answer (c.give_back.ensures.keeps r.0).call in
    dropped_line s.table t c.note.ensures.lines c.note.ensures.clock (with_line t i w) i b w refl refl here (ap (λ v. v.block) c.clear.ensures.view) c.clear.ensures.used
    (ap (λ vs. (nth vs i).block) (sym ve) ∙ hit.1) (not_zero m.granted b law.none_at_zero done.granted) r.1.apart

pub returns-in_default-clause-drops : goal.returns-in_default-clause-drops
returns-in_default-clause-drops g c r =
    let s = c.args.self.now in
    let b = c.args.block in
    let m = g.S.Store.meaning s.store in
    let n = g.S.Store.meaning c.give_back.new.self in
    let law = g.S.Store.sound s.store r.0 in
    let done = was_ok (λ a. Give b m a n) c.give_back.result c.in_ok-note.ensures.answer (c.give_back.ensures.keeps r.0).call in
    dropped_none s.table c.note.new.self c.note.ensures.lines c.note.ensures.clock b (c.in_default.ensures (not_zero m.granted b law.none_at_zero done.granted))
