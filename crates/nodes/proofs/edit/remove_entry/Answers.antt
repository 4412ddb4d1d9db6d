use Rattle.std.proofs.Common.{◌+◌, ◌-◌, arith}
use Rattle.store.specs.Meaning.{with_at}
use Rattle.copies.specs.Blocks.{Word, Edited}
use Rattle.copies.proofs.Exits.{kin_edit, set_work_at, work_on}
use Rattle.copies.proofs.Edits.{edit_then}
use Rattle.nodes.specs.Places.{form}
use Rattle.nodes.specs.Nodes.{Has, Changed, remove_at}
use Rattle.nodes.proofs.Rooms.{room_edit, room_place, rooms_twice, countable, carry_at}
use Rattle.nodes.proofs.Lists.{remove_holds}
use Rattle.nodes.proofs.edit.remove_entry.Goals as goal

pub returns : goal.returns
returns g c h =
    let k = g.K.Key.width in
    let φ = form k in
    let b = c.args.block in
    let i = c.args.i in
    let n = c.in_ok-n.n in
    let m = g.S.Store.meaning c.args.store.now in
    let r = c.in_ok-n.ensures.counts h in
    let a = c.in_ok-copy_entries.ensures r.ready in
    let e = c.set.ensures.keeps a.ready in
    let read = λ (p : Has φ b i m). r.call (countable k _ _ p.few p.room) in
    let one = λ (p : Has φ b i m). carry_at φ b (i + 1) b i (n - (i + 1)) _ _ _ (read p).same (a.call (rooms_twice _ _ _ _ (read p).same p.room)) (omega arith) (omega arith) (omega arith) in
    record {
      call = work_on (Has φ b i) (Word b 1) (Changed φ b (remove_at i)) (Edited b (λ β. with_at β 1 (n - 1))) m _ _ _
          (λ p. room_place φ _ _ _ (omega arith) (room_edit _ _ _ _ _ _ (one p) p.room))
          (λ p. kin_edit _ _ _ _ (one p))
          (λ _ p y. remove_holds φ _ _ _ _ _ (read p).value (omega (arith, p.has, (read p).value)) (omega (arith, p.few, (read p).value)) (edit_then _ _ _ _ _ _ (one p) y))
          (set_work_at _ _ _ _ _ _ e.call e.deep (omega arith) (omega arith) (omega arith));
      ready = e.ready;
    }
