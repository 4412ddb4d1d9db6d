use Rattle.std.proofs.Common.{refl, arith}
use Rattle.copies.proofs.Exits.{raised, lost_later, kin_same}
use Rattle.nodes.proofs.Rooms.{countable}
use Rattle.held.specs.Held.{Kind, kind}
use Rattle.ask.proofs.Writing.{part_none, fills_full}
use Rattle.ask.proofs.Reporting.{stored_room, writes_kid, going_first, going_at, going_next, going_lost, going_full, going_done}
use Rattle.ask.proofs.report.+entries.Given as given
use Rattle.ask.proofs.report.+entries.Goals as goal

abbrev of : (g : given.Over) → Kind g.row.K.Denot
of g = kind g.K.Key.width g.K.Key.order g.K.Key.packed g.K.Key.unpacked

pub write_entry-returns-in_err-child_block-clause-writes : goal.write_entry-returns-in_err-child_block-clause-writes
write_entry-returns-in_err-child_block-clause-writes g t c =
    rw (raised _ _ c.from_residual.ensures) (λ h.
    let x = c.in_err-child_block.ensures h in
    record { call = λ p. (part_none _ _, x.call (stored_room (of g) _ _ _ p.stored)); ready = x.ready })

pub write_entry-returns-clause-writes : goal.write_entry-returns-clause-writes
write_entry-returns-clause-writes g t c = λ h.
    let x = c.in_ok-child_block.ensures h in
    let y = c.write_entries.ensures.writes x.ready in
    record {
      call = writes_kid (of g) _ _ _ _ _ _ _ _ _ _ c.if-node-eq0.false (λ p. x.call (stored_room (of g) _ _ _ p.stored)) y.call;
      ready = y.ready;
    }

pub write_entries-returns-in_err-n-clause-writes : goal.write_entries-returns-in_err-n-clause-writes
write_entries-returns-in_err-n-clause-writes g t c =
    rw (raised _ _ c.from_residual.ensures) (λ h.
    let x = c.in_err-n.ensures.counts h in
    record { call = λ p. (part_none _ _, x.call (countable g.K.Key.width _ _ p.whole.1 (stored_room (of g) _ _ _ p))); ready = x.ready })

pub write_entries-loop-i-init : goal.write_entries-loop-i-init
write_entries-loop-i-init g t c = (
  c.requires.place,
  λ h.
      let x = c.in_ok-n.ensures.counts h in
      record {
        call = λ p.
            let n = x.call (countable g.K.Key.width _ _ p.whole.1 (stored_room (of g) _ _ _ p)) in
            going_first (of g) _ _ _ _ _ _ _ n.same n.value;
        ready = x.ready;
      },
)

pub write_entries-returns-then-written-keys-clause-writes : goal.write_entries-returns-then-written-keys-clause-writes
write_entries-returns-then-written-keys-clause-writes g t c = λ h. record { call = λ p. (fills_full _ _ c.if-written-keys.true, refl); ready = h }

pub write_entries-returns-then-written-keys-2-clause-writes : goal.write_entries-returns-then-written-keys-2-clause-writes
write_entries-returns-then-written-keys-2-clause-writes g t c = λ h.
    let i = c.loop-i.invariant.1 h in
    record { call = λ p. going_full (of g) _ _ _ _ _ _ _ _ _ c.loop-i.auto.i (i.call p) c.if-written-keys-2.true; ready = i.ready }

pub write_entries-returns-in_err-write_entry-clause-writes : goal.write_entries-returns-in_err-write_entry-clause-writes
write_entries-returns-in_err-write_entry-clause-writes g t c =
    rw (raised _ _ c.from_residual-in_err-write_entry.ensures) (λ h.
    let i = c.loop-i.invariant.1 h in
    let x = c.in_err-write_entry.ensures.writes i.ready in
    record {
      call = λ p.
          let s = i.call p in
          let d = x.call (going_at (of g) _ _ _ _ _ _ _ _ _ c.loop-i.auto.i s c.loop-i-test.true p) in
          (going_lost (of g) _ _ _ _ _ _ _ _ _ c.loop-i.auto.i s _ d.0 (omega (arith, c.in_err-write_entry.ensures.within, c.write_entry.auto.keys)), lost_later (kin_same s.same) d.1);
      ready = x.ready;
    })

pub write_entries-loop-i-preserved : goal.write_entries-loop-i-preserved
write_entries-loop-i-preserved g t c = (
  omega (arith, c.in_ok-write_entry.ensures.within, c.write_entry.auto.keys),
  λ h.
      let i = c.loop-i.invariant.1 h in
      let x = c.in_ok-write_entry.ensures.writes i.ready in
      record {
        call = λ p.
            let s = i.call p in
            let d = x.call (going_at (of g) _ _ _ _ _ _ _ _ _ c.loop-i.auto.i s c.loop-i-test.true p) in
            going_next (of g) _ _ _ _ _ _ _ _ _ c.loop-i.auto.i s _ _ d (omega (arith, c.in_ok-write_entry.ensures.within, c.write_entry.auto.keys));
        ready = x.ready;
      },
)

pub write_entries-returns-clause-writes : goal.write_entries-returns-clause-writes
write_entries-returns-clause-writes g t c = λ h.
    let i = c.loop-i.invariant.1 h in
    record { call = λ p. going_done (of g) _ _ _ _ _ _ _ _ _ c.loop-i.auto.i (i.call p) c.loop-i-test.false; ready = i.ready }
