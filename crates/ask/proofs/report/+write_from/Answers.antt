use Rattle.std.proofs.Common.{refl, arith}
use Rattle.copies.proofs.Exits.{raised}
use Rattle.held.specs.Held.{Kind, kind, Lawful}
use Rattle.ask.proofs.Writing.{part_none, fills_full}
use Rattle.ask.proofs.Ranks.{rooted_peopled, rooted_leaf}
use Rattle.ask.proofs.Reporting.{writes_from_leaf, writes_way, lost_way}
use Rattle.ask.proofs.report.+write_from.Given as given
use Rattle.ask.proofs.report.+write_from.Goals as goal

abbrev of : (g : given.Over) → Kind g.row.K.Denot
of g = kind g.K.Key.width g.K.Key.order g.K.Key.packed g.K.Key.unpacked

abbrev law : (g : given.Over) → Lawful (of g)
law g = record { ordered = g.met.K.Key.ordered; packing = g.met.K.Key.packing }

pub returns-then-written-keys-clause-writes : goal.returns-then-written-keys-clause-writes
returns-then-written-keys-clause-writes g t c = λ h. record { call = λ p. (fills_full _ _ c.if-written-keys.true, refl); ready = h }

pub returns-in_err-from-clause-writes : goal.returns-in_err-from-clause-writes
returns-in_err-from-clause-writes g t c =
    rw (raised _ _ c.from_residual.ensures) (λ h.
    let a = c.in_err-from.ensures.counts h in
    record { call = λ p. (part_none _ _, a.call (rooted_leaf (of g) (law g) _ _ c.if-node-eq0.true p)); ready = a.ready })

pub returns-then-node-eq0-clause-writes : goal.returns-then-node-eq0-clause-writes
returns-then-node-eq0-clause-writes g t c = λ h.
    let a = c.in_ok-from.ensures.counts h in
    let y = c.write_entries.ensures.writes a.ready in
    record { call = writes_from_leaf (of g) (law g) _ _ _ _ _ _ _ _ _ c.if-node-eq0.true a.call y.call; ready = y.ready }

pub returns-in_err-way-clause-writes : goal.returns-in_err-way-clause-writes
returns-in_err-way-clause-writes g t c =
    rw (raised _ _ c.from_residual-in_err-way.ensures) (λ h.
    let a = c.in_err-way.ensures.leads h in
    record { call = λ p. (part_none _ _, a.call (rooted_peopled (of g) (law g) _ _ c.if-node-eq0.false p)); ready = a.ready })

pub returns-in_err-write_from-clause-writes : goal.returns-in_err-write_from-clause-writes
returns-in_err-write_from-clause-writes g t c =
    rw (raised _ _ c.from_residual-in_err-write_from.ensures) (λ h.
    let a = c.in_ok-way.ensures.leads h in
    let x = c.in_err-write_from.ensures.writes a.ready in
    record {
      call = λ p.
          let led = a.call (rooted_peopled (of g) (law g) _ _ c.if-node-eq0.false p) in
          lost_way (of g) (law g) _ _ _ _ _ c.if-node-eq0.false c.in_ok-way.ensures.child.1 p led _ _ _ _ x.call;
      ready = x.ready;
    })

pub returns-clause-writes : goal.returns-clause-writes
returns-clause-writes g t c = λ h.
    let a = c.in_ok-way.ensures.leads h in
    let x = c.in_ok-write_from.ensures.writes a.ready in
    let y = c.write_entries-2.ensures.writes x.ready in
    record {
      call = writes_way (of g) (law g) _ _ _ _ _ _ _ _ _ _ _ _ c.if-node-eq0.false c.in_ok-way.ensures.child.1 (omega arith) (omega (arith, c.write_entries-2.ensures.within, c.write_entries-2.auto.keys)) (λ p. a.call (rooted_peopled (of g) (law g) _ _ c.if-node-eq0.false p)) x.call y.call;
      ready = y.ready;
    }
