use Rattle.std.proofs.Common.{arith}
use Rattle.copies.proofs.Exits.{raised, lost_later, kin_edit, word_lost}
use Rattle.copies.proofs.Edits.{filled_none, filled_more}
use Rattle.nodes.specs.Places.{form}
use Rattle.nodes.proofs.Rooms.{room_edit, room_place, key_within}
use Rattle.nodes.proofs.edit.put_key.Goals as goal

pub loop-j-init : goal.loop-j-init
loop-j-init g c h = record { call = λ p. filled_none _ _ _ _; ready = h }

pub loop-j-preserved : goal.loop-j-preserved
loop-j-preserved g c h =
    let i = c.loop-j.invariant h in
    let s = c.in_ok-set.ensures.keeps i.ready in
    record { call = λ p. filled_more _ _ _ _ _ _ _ _ c.word.ensures (i.call p) s.call; ready = s.ready }

pub returns-in_err-set : goal.returns-in_err-set
returns-in_err-set g c =
    rw (raised _ _ c.from_residual.ensures) (λ h.
    let φ = form g.K.Key.width in
    let i = c.loop-j.invariant h in
    let e = c.in_err-set.ensures.keeps i.ready in
    let b = key_within φ c.args.i c.loop-j.j (omega arith) (omega arith) in
    record {
      call = λ p. lost_later (kin_edit _ _ _ _ (i.call p)) (word_lost (room_place φ _ _ _ (omega arith) (room_edit _ _ _ _ _ _ (i.call p) p)) e.call e.deep);
      ready = e.ready;
    })
