use Rattle.std.proofs.Common.{◌+◌, ◌-◌, arith}
use Rattle.store.specs.Meaning.{with_at}
use Rattle.copies.specs.Blocks.{Word, Edited}
use Rattle.copies.proofs.Exits.{raised, lost_later, kin_edit, set_work_at, work_on}
use Rattle.copies.proofs.Edits.{edit_then}
use Rattle.nodes.specs.Places.{form}
use Rattle.nodes.specs.Nodes.{Open, Changed, entry_of, insert_at}
use Rattle.nodes.proofs.Rooms.{room_edit, room_place, rooms_twice, countable, carry_same, carry_at}
use Rattle.nodes.proofs.Lists.{insert_holds}
use Rattle.nodes.proofs.edit.insert_entry.Goals as goal

pub returns-in_err-put_entry : goal.returns-in_err-put_entry
returns-in_err-put_entry g c =
    rw (raised _ _ c.from_residual-in_err-put_entry.ensures) (λ h.
    let r = c.in_ok-n.ensures.counts h in
    let a = c.in_ok-copy_entries.ensures r.ready in
    let e = c.in_err-put_entry.ensures a.ready in
    record {
      call = λ p.
          let same = (r.call (countable g.K.Key.width _ _ (omega (arith, p.free)) p.room)).same in
          let one = carry_same _ _ _ _ _ _ _ _ _ same (a.call (rooms_twice _ _ _ _ same p.room)) in
          lost_later (kin_edit _ _ _ _ one) (e.call (room_edit _ _ _ _ _ _ one p.room));
      ready = e.ready;
    })

pub returns : goal.returns
returns g c h =
    let k = g.K.Key.width in
    let φ = form k in
    let x = entry_of g.K.Key.packed c.args.entry.now in
    let b = c.args.block in
    let i = c.args.i in
    let n = c.in_ok-n.n in
    let m = g.S.Store.meaning c.args.store.now in
    let r = c.in_ok-n.ensures.counts h in
    let a = c.in_ok-copy_entries.ensures r.ready in
    let w = c.in_ok-put_entry.ensures a.ready in
    let e = c.set.ensures.keeps w.ready in
    let read = λ (p : Open φ b i m). r.call (countable k _ _ (omega (arith, p.free)) p.room) in
    let one = λ (p : Open φ b i m). carry_at φ b i b (i + 1) (n - i) _ _ _ (read p).same (a.call (rooms_twice _ _ _ _ (read p).same p.room)) (omega arith) (omega arith) (omega arith) in
    let two = λ (p : Open φ b i m). edit_then _ _ _ _ _ _ (one p) (w.call (room_edit _ _ _ _ _ _ (one p) p.room)) in
    record {
      call = work_on (Open φ b i) (Word b 1) (Changed φ b (insert_at i x)) (Edited b (λ β. with_at β 1 (n + 1))) m _ _ _
          (λ p. room_place φ _ _ _ (omega arith) (room_edit _ _ _ _ _ _ (two p) p.room))
          (λ p. kin_edit _ _ _ _ (two p))
          (λ _ p y. insert_holds φ _ _ _ _ _ x (read p).value (g.met.K.Key.packing.long c.args.entry.now.key) (omega (arith, p.upto, (read p).value)) (omega (arith, p.free, (read p).value)) (edit_then _ _ _ _ _ _ (two p) y))
          (set_work_at _ _ _ _ _ _ e.call e.deep (omega arith) (omega arith) (omega arith));
      ready = e.ready;
    }
