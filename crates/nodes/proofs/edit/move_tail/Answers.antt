use Rattle.std.proofs.Common.{◌-◌, ap, ◌∙◌, arith}
use Rattle.store.specs.Meaning.{with_at}
use Rattle.copies.specs.Blocks.{Word, Edited}
use Rattle.copies.proofs.Exits.{raised, lost_later, kin_edit, word_lost, set_at, fails_at, set_work_at, work_on}
use Rattle.copies.proofs.Edits.{edit_then}
use Rattle.nodes.specs.Places.{form}
use Rattle.nodes.specs.Nodes.{Partable, Parted}
use Rattle.nodes.proofs.Rooms.{room_edit, room_place, rooms_same, countable_same, carry_same}
use Rattle.nodes.proofs.Lists.{part_holds}
use Rattle.nodes.proofs.edit.move_tail.Goals as goal

pub returns-in_err-set : goal.returns-in_err-set
returns-in_err-set g c =
    rw (raised _ _ c.from_residual-in_err-set.ensures) (λ h.
    let a = c.in_ok-level.ensures.keeps h in
    let b = c.in_ok-n.ensures.counts a.ready in
    let d = c.in_ok-copy_entries.ensures b.ready in
    let e = c.in_err-set.ensures.keeps d.ready in
    record {
      call = λ p.
          let same = (b.call (countable_same g.K.Key.width _ _ _ a.call.same p.few p.rooms.one)).same ∙ a.call.same in
          let one = carry_same _ _ _ _ _ _ _ _ _ same (d.call (rooms_same _ _ _ _ _ same p.rooms)) in
          lost_later (kin_edit _ _ _ _ one) (word_lost (room_place (form g.K.Key.width) c.args.to 0 _ (omega arith) (room_edit _ _ _ _ _ _ one p.rooms.other)) (fails_at e.call (omega arith) (omega arith)) e.deep);
      ready = e.ready;
    })

pub returns-in_err-set-2 : goal.returns-in_err-set-2
returns-in_err-set-2 g c =
    rw (raised _ _ c.from_residual-in_err-set-2.ensures) (λ h.
    let a = c.in_ok-level.ensures.keeps h in
    let b = c.in_ok-n.ensures.counts a.ready in
    let d = c.in_ok-copy_entries.ensures b.ready in
    let s = c.in_ok-set.ensures.keeps d.ready in
    let e = c.in_err-set-2.ensures.keeps s.ready in
    record {
      call = λ p.
          let same = (b.call (countable_same g.K.Key.width _ _ _ a.call.same p.few p.rooms.one)).same ∙ a.call.same in
          let one = carry_same _ _ _ _ _ _ _ _ _ same (d.call (rooms_same _ _ _ _ _ same p.rooms)) in
          let two = edit_then _ _ _ _ _ _ one (set_at _ _ c.args.to 0 c.in_ok-level.level s.call (omega arith) (omega arith) (omega arith)) in
          lost_later (kin_edit _ _ _ _ two) (word_lost (room_place (form g.K.Key.width) _ _ _ (omega arith) (room_edit _ _ _ _ _ _ two p.rooms.other)) e.call e.deep);
      ready = e.ready;
    })

pub returns : goal.returns
returns g c h =
    let k = g.K.Key.width in
    let φ = form k in
    let from = c.args.from in
    let to = c.args.to in
    let at = c.args.m in
    let n = c.in_ok-n.n in
    let m = g.S.Store.meaning c.args.store.now in
    let a = c.in_ok-level.ensures.keeps h in
    let b = c.in_ok-n.ensures.counts a.ready in
    let d = c.in_ok-copy_entries.ensures b.ready in
    let s = c.in_ok-set.ensures.keeps d.ready in
    let s' = c.in_ok-set-2.ensures.keeps s.ready in
    let e = c.set-3.ensures.keeps s'.ready in
    let read = λ (p : Partable φ from to at m). b.call (countable_same k _ _ _ a.call.same p.few p.rooms.one) in
    let n_is = λ (p : Partable φ from to at m). (read p).value ∙ ap (λ z. z.words from 1) a.call.same in
    let same = λ (p : Partable φ from to at m). (read p).same ∙ a.call.same in
    let one = λ (p : Partable φ from to at m). carry_same φ from at to 0 (n - at) _ _ _ (same p) (d.call (rooms_same _ _ _ _ _ (same p) p.rooms)) in
    let two = λ (p : Partable φ from to at m). edit_then _ _ _ _ _ _ (one p) (set_at _ _ to 0 c.in_ok-level.level s.call (omega arith) (omega arith) (omega arith)) in
    let three = λ (p : Partable φ from to at m). edit_then _ _ _ _ _ _ (two p) (set_at _ _ to 1 (n - at) s'.call (omega arith) (omega arith) (omega arith)) in
    record {
      call = work_on (Partable φ from to at) (Word from 1) (Parted φ from to at) (Edited from (λ β. with_at β 1 at)) m _ _ _
          (λ p. room_place φ _ _ _ (omega arith) (room_edit _ _ _ _ _ _ (three p) p.rooms.one))
          (λ p. kin_edit _ _ _ _ (three p))
          (λ _ p y. part_holds φ _ _ _ _ _ _ _ _ p.apart a.call.value (n_is p) (omega (arith, p.upto, n_is p)) (omega (arith, p.few, n_is p)) (three p) y)
          (set_work_at _ _ _ _ _ _ e.call e.deep (omega arith) (omega arith) (omega arith));
      ready = e.ready;
    }
