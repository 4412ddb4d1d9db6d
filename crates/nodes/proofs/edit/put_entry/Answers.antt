use Rattle.std.proofs.Common.{arith}
use Rattle.store.specs.Meaning.{with_at}
use Rattle.copies.specs.Blocks.{Word, Edited}
use Rattle.copies.proofs.Exits.{kin_edit, set_edit, set_work, work_on}
use Rattle.nodes.specs.Places.{form}
use Rattle.nodes.specs.Nodes.{Room, entry_of, placed}
use Rattle.nodes.proofs.Rooms.{room_edit, room_place}
use Rattle.nodes.proofs.Puts.{placed_two, placed_all}
use Rattle.nodes.proofs.edit.put_entry.Goals as goal

pub returns : goal.returns
returns g c h =
    let φ = form g.K.Key.width in
    let x = entry_of g.K.Key.packed c.args.entry.now in
    let b = c.args.block in
    let m = g.S.Store.meaning c.args.store.now in
    let a = c.in_ok-set.ensures.keeps h in
    let k = c.in_ok-put_key.ensures a.ready in
    let e = c.set-2.ensures.keeps k.ready in
    let one = set_edit _ _ _ _ _ a.call in
    let two = λ (p : Room φ b m). placed_two φ _ c.args.i _ _ x _ _ _ one (k.call (room_edit _ _ _ _ _ _ one p)) in
    record {
      call = work_on (Room φ b) (Word b c.child_at.result) (Edited b (placed φ c.args.i x)) (Edited b (λ β. with_at β c.child_at.result x.child)) m _ _ _
          (λ p. room_place φ _ _ _ (omega arith) (room_edit _ _ _ _ _ _ (two p) p))
          (λ p. kin_edit _ _ _ _ (two p))
          (λ _ p y. placed_all φ _ _ _ _ x _ _ _ c.weight_at.ensures c.child_at.ensures (two p) y)
          (set_work _ _ _ _ _ _ e.call e.deep);
      ready = e.ready;
    }
