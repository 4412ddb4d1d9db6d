use Rattle.std.proofs.Common.{◌≤◌, refl, lit≤, arith}
use Rattle.copies.proofs.Exits.{raised, lost_later, kin_same}
use Rattle.held.specs.Held.{Kind, kind, Lawful}
use Rattle.grow.proofs.Settling.{coded}
use Rattle.grow.proofs.Leaf.{leaf_node, leaf_open, leaf_grew}
use Rattle.grow.proofs.Growing.{roomy_peopled, below_roomy, below_kin, below_due, below_grew}
use Rattle.grow.proofs.insert.+insert_below.Given as given
use Rattle.grow.proofs.insert.+insert_below.Goals as goal

abbrev of : (g : given.Over) → Kind g.row.K.Denot
of g = kind g.K.Key.width g.K.Key.order g.K.Key.packed g.K.Key.unpacked

abbrev law : (g : given.Over) → Lawful (of g)
law g = record { ordered = g.met.K.Key.ordered; packing = g.met.K.Key.packing }

wide : (g : given.Over) → 80 ≤ (of g).form.places
wide g = lit≤ tt

pub returns-in_err-insert_entry : goal.returns-in_err-insert_entry
returns-in_err-insert_entry g t c =
    rw (raised _ _ c.from_residual-in_err-insert_entry.ensures) (λ h.
    let a = c.in_ok-place.ensures.finds h in
    let d = c.in_err-insert_entry.ensures a.ready in
    record {
      call = λ p.
          let found = a.call (leaf_node (of g) (law g) (wide g) _ _ _ c.if-node-eq0.true p) in
          lost_later (kin_same found.same) (d.call (leaf_open (of g) (law g) (wide g) _ _ _ c.if-node-eq0.true p _ _ found));
      ready = d.ready;
    })

pub returns-then-node-eq0 : goal.returns-then-node-eq0
returns-then-node-eq0 g t c = λ h.
    let a = c.in_ok-place.ensures.finds h in
    let d = c.in_ok-insert_entry.ensures a.ready in
    record {
      call = λ p.
          let found = a.call (leaf_node (of g) (law g) (wide g) _ _ _ c.if-node-eq0.true p) in
          leaf_grew (of g) (law g) (wide g) _ _ _ c.if-node-eq0.true p _ _ found _ _ _ _ (coded (of g) _ 1 _ _ (omega arith) refl refl) (d.call (leaf_open (of g) (law g) (wide g) _ _ _ c.if-node-eq0.true p _ _ found)) c.none.ensures;
      ready = d.ready;
    }

pub returns-in_err-way : goal.returns-in_err-way
returns-in_err-way g t c =
    rw (raised _ _ c.from_residual-in_err-way.ensures) (λ h.
    let a = c.in_err-way.ensures.leads h in
    record { call = λ p. a.call (roomy_peopled (of g) (law g) (wide g) _ _ _ (omega (arith, c.if-node-eq0.false)) p); ready = a.ready })

pub returns-in_err-marks : goal.returns-in_err-marks
returns-in_err-marks g t c =
    rw (raised _ _ c.from_residual-in_err-marks.ensures) (λ h.
    let a = c.in_ok-way.ensures.leads h in
    let d = c.in_err-marks.ensures a.ready in
    record {
      call = λ p.
          let led = a.call (roomy_peopled (of g) (law g) (wide g) _ _ _ (omega (arith, c.if-node-eq0.false)) p) in
          lost_later (kin_same led.found.same) (d.call (below_roomy (of g) (law g) (wide g) _ _ _ _ _ (omega (arith, c.if-node-eq0.false)) c.in_ok-way.ensures.child.0 c.in_ok-way.ensures.child.1 p led));
      ready = d.ready;
    })

pub returns-in_err-mark : goal.returns-in_err-mark
returns-in_err-mark g t c =
    rw (raised _ _ c.from_residual-in_err-mark.ensures) (λ h.
    let a = c.in_ok-way.ensures.leads h in
    let d = c.in_ok-marks.ensures a.ready in
    let e = c.in_err-mark.ensures d.ready in
    record {
      call = λ p.
          let led = a.call (roomy_peopled (of g) (law g) (wide g) _ _ _ (omega (arith, c.if-node-eq0.false)) p) in
          let grew = d.call (below_roomy (of g) (law g) (wide g) _ _ _ _ _ (omega (arith, c.if-node-eq0.false)) c.in_ok-way.ensures.child.0 c.in_ok-way.ensures.child.1 p led) in
          lost_later (below_kin (of g) (law g) (wide g) _ _ _ _ _ (omega (arith, c.if-node-eq0.false)) c.in_ok-way.ensures.child.0 c.in_ok-way.ensures.child.1 p led _ _ _ grew)
          (e.call (below_due (of g) (law g) (wide g) _ _ _ _ _ (omega (arith, c.if-node-eq0.false)) c.in_ok-way.ensures.child.0 c.in_ok-way.ensures.child.1 p led _ _ _ grew));
      ready = e.ready;
    })

pub returns : goal.returns
returns g t c = λ h.
    let a = c.in_ok-way.ensures.leads h in
    let d = c.in_ok-marks.ensures a.ready in
    let e = c.in_ok-mark.ensures d.ready in
    record {
      call = λ p.
          let led = a.call (roomy_peopled (of g) (law g) (wide g) _ _ _ (omega (arith, c.if-node-eq0.false)) p) in
          let grew = d.call (below_roomy (of g) (law g) (wide g) _ _ _ _ _ (omega (arith, c.if-node-eq0.false)) c.in_ok-way.ensures.child.0 c.in_ok-way.ensures.child.1 p led) in
          let settled = e.call (below_due (of g) (law g) (wide g) _ _ _ _ _ (omega (arith, c.if-node-eq0.false)) c.in_ok-way.ensures.child.0 c.in_ok-way.ensures.child.1 p led _ _ _ grew) in
          below_grew (of g) (law g) (wide g) _ _ _ _ _ (omega (arith, c.if-node-eq0.false)) c.in_ok-way.ensures.child.0 c.in_ok-way.ensures.child.1 p led _ _ _ grew _ _ _ settled c.with.ensures;
      ready = e.ready;
    }
