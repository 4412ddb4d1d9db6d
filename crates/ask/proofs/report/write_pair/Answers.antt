use Rattle.std.proofs.Common.{arith}
use Rattle.copies.proofs.Exits.{raised, lost_later, kin_same}
use Rattle.nodes.proofs.Rooms.{room_same}
use Rattle.held.specs.Held.{Kind, kind}
use Rattle.ask.proofs.Writing.{part_none}
use Rattle.ask.proofs.Reporting.{stored_room, wrote_pair}
use Rattle.ask.proofs.report.write_pair.Given as given
use Rattle.ask.proofs.report.write_pair.Goals as goal

abbrev of : (g : given.Over) → Kind g.row.K.Denot
of g = kind g.K.Key.width g.K.Key.order g.K.Key.packed g.K.Key.unpacked

pub returns-in_err-key-clause-writes : goal.returns-in_err-key-clause-writes
returns-in_err-key-clause-writes g c =
    rw (raised _ _ c.from_residual.ensures) (λ h.
    let x = c.in_err-key.ensures h in
    record { call = λ p. (part_none _ _, x.call (stored_room (of g) _ _ _ p.stored)); ready = x.ready })

pub returns-in_err-handle-clause-writes : goal.returns-in_err-handle-clause-writes
returns-in_err-handle-clause-writes g c =
    rw (raised _ _ c.from_residual-in_err-handle.ensures) (λ h.
    let x = c.in_ok-key.ensures h in
    let y = c.in_err-handle.ensures x.ready in
    record {
      call = λ p.
          let room = stored_room (of g) _ _ _ p.stored in
          let k = x.call room in
          (part_none _ _, lost_later (kin_same k.same) (y.call (room_same _ _ _ _ k.same room)));
      ready = y.ready;
    })

pub returns-clause-writes : goal.returns-clause-writes
returns-clause-writes g c = λ h.
    let x = c.in_ok-key.ensures h in
    let y = c.in_ok-handle.ensures x.ready in
    record {
      call = λ p.
          let room = stored_room (of g) _ _ _ p.stored in
          let k = x.call room in
          wrote_pair (of g) _ _ _ _ _ _ _ _ _ _ _ (omega arith) (omega arith) (omega arith) p k (y.call (room_same _ _ _ _ k.same room));
      ready = y.ready;
    }
