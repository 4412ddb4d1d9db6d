use Rattle.std.proofs.Common.{◌+◌, ap, ◌∙◌, arith}
use Rattle.store.specs.Meaning.{with_at}
use Rattle.copies.specs.Blocks.{Word, Edited}
use Rattle.copies.proofs.Exits.{kin_edit, set_work_at, work_on}
use Rattle.copies.proofs.Edits.{edit_then}
use Rattle.nodes.specs.Places.{form}
use Rattle.nodes.specs.Nodes.{Joinable, Joined}
use Rattle.nodes.proofs.Rooms.{room_edit, room_place, rooms_same, countable, countable_same, carry_at}
use Rattle.nodes.proofs.Lists.{append_holds}
use Rattle.nodes.proofs.edit.append_all.Goals as goal

pub returns : goal.returns
returns g c h =
    let k = g.K.Key.width in
    let φ = form k in
    let from = c.args.from in
    let to = c.args.to in
    let kept = c.in_ok-kept.kept in
    let more = c.in_ok-more.more in
    let m = g.S.Store.meaning c.args.store.now in
    let a = c.in_ok-kept.ensures.counts h in
    let b = c.in_ok-more.ensures.counts a.ready in
    let d = c.in_ok-copy_entries.ensures b.ready in
    let e = c.set.ensures.keeps d.ready in
    let one = λ (p : Joinable φ from to m). a.call (countable k _ _ (omega (arith, p.fits)) p.rooms.other) in
    let two = λ (p : Joinable φ from to m). b.call (countable_same k _ _ _ (one p).same (omega (arith, p.fits)) p.rooms.one) in
    let same = λ (p : Joinable φ from to m). (two p).same ∙ (one p).same in
    let more_is = λ (p : Joinable φ from to m). (two p).value ∙ ap (λ z. z.words from 1) (one p).same in
    let three = λ (p : Joinable φ from to m). carry_at φ from 0 to kept more _ _ _ (same p) (d.call (rooms_same _ _ _ _ _ (same p) p.rooms)) (omega arith) (omega arith) (omega arith) in
    record {
      call = work_on (Joinable φ from to) (Word to 1) (Joined φ from to) (Edited to (λ β. with_at β 1 (kept + more))) m _ _ _
          (λ p. room_place φ _ _ _ (omega arith) (room_edit _ _ _ _ _ _ (three p) p.rooms.other))
          (λ p. kin_edit _ _ _ _ (three p))
          (λ _ p y. append_holds φ _ _ _ _ _ _ (one p).value (more_is p) (omega (arith, p.fits, (one p).value, more_is p)) (edit_then _ _ _ _ _ _ (three p) y))
          (set_work_at _ _ _ _ _ _ e.call e.deep (omega arith) (omega arith) (omega arith));
      ready = e.ready;
    }
