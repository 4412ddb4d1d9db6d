use Rattle.std.proofs.Common.{arith}
use Rattle.copies.proofs.Exits.{raised, lost_later, kin_same}
use Rattle.held.specs.Held.{Kind, kind, Lawful}
use Rattle.shrink.proofs.Cutting.{leaf_is, not_none, leaf_has, leaf_shrank}
use Rattle.shrink.proofs.Shrinking.{holding_peopled, next_holds, next_stale, next_kin, all_shrank}
use Rattle.shrink.proofs.delete.+delete_below.Given as given
use Rattle.shrink.proofs.delete.+delete_below.Goals as goal

abbrev of : (g : given.Over) → Kind g.row.K.Denot
of g = kind g.K.Key.width g.K.Key.order g.K.Key.packed g.K.Key.unpacked

abbrev law : (g : given.Over) → Lawful (of g)
law g = record { ordered = g.met.K.Key.ordered; packing = g.met.K.Key.packing }

pub returns-in_default : goal.returns-in_default
returns-in_default g t c = λ h.
    let a = c.in_ok-keys_up_to.ensures.finds h in
    record {
      call = λ p. absurd (not_none (of g) (law g) _ _ _ _ _ c.if-node-eq0.true p (a.call (leaf_is (of g) (law g) _ _ _ c.if-node-eq0.true p)) (omega (arith, c.in_default.ensures)));
      ready = a.ready;
    }

pub returns-then-node-eq0 : goal.returns-then-node-eq0
returns-then-node-eq0 g t c = λ h.
    let a = c.in_ok-keys_up_to.ensures.finds h in
    let b = c.in_ok-remove_entry.ensures a.ready in
    record {
      call = λ p.
          let f = a.call (leaf_is (of g) (law g) _ _ _ c.if-node-eq0.true p) in
          leaf_shrank (of g) (law g) _ _ _ _ _ c.if-node-eq0.true p f c.in-Some.last (omega (arith, c.in-Some.ensures)) _ _ c.none.ensures (b.call (leaf_has (of g) (law g) _ _ _ _ _ c.if-node-eq0.true p f c.in-Some.last (omega (arith, c.in-Some.ensures))));
      ready = b.ready;
    }

pub returns-in_err-way : goal.returns-in_err-way
returns-in_err-way g t c =
    rw (raised _ _ c.from_residual-in_err-way.ensures) (λ h.
    let a = c.in_err-way.ensures.leads h in
    record { call = λ p. a.call (holding_peopled (of g) (law g) _ _ _ (omega (arith, c.if-node-eq0.false)) p); ready = a.ready })

pub returns-in_err-marks : goal.returns-in_err-marks
returns-in_err-marks g t c =
    rw (raised _ _ c.from_residual-in_err-marks.ensures) (λ h.
    let a = c.in_ok-way.ensures.leads h in
    let b = c.in_err-marks.ensures a.ready in
    record {
      call = λ p.
          let led = a.call (holding_peopled (of g) (law g) _ _ _ (omega (arith, c.if-node-eq0.false)) p) in
          lost_later (kin_same led.found.same) (b.call (next_holds (of g) (law g) _ _ _ _ _ (omega (arith, c.if-node-eq0.false)) c.in_ok-way.ensures.child.0 c.in_ok-way.ensures.child.1 p led));
      ready = b.ready;
    })

pub returns-in_err-mark : goal.returns-in_err-mark
returns-in_err-mark g t c =
    rw (raised _ _ c.from_residual-in_err-mark.ensures) (λ h.
    let a = c.in_ok-way.ensures.leads h in
    let b = c.in_ok-marks.ensures a.ready in
    let r = c.in_err-mark.ensures b.ready in
    record {
      call = λ p.
          let led = a.call (holding_peopled (of g) (law g) _ _ _ (omega (arith, c.if-node-eq0.false)) p) in
          let done = b.call (next_holds (of g) (law g) _ _ _ _ _ (omega (arith, c.if-node-eq0.false)) c.in_ok-way.ensures.child.0 c.in_ok-way.ensures.child.1 p led) in
          lost_later (next_kin (of g) (law g) _ _ _ _ _ (omega (arith, c.if-node-eq0.false)) c.in_ok-way.ensures.child.0 c.in_ok-way.ensures.child.1 p led _ _ done)
          (r.call (next_stale (of g) (law g) _ _ _ _ _ (omega (arith, c.if-node-eq0.false)) c.in_ok-way.ensures.child.0 c.in_ok-way.ensures.child.1 p led _ _ done));
      ready = r.ready;
    })

pub returns : goal.returns
returns g t c = λ h.
    let a = c.in_ok-way.ensures.leads h in
    let b = c.in_ok-marks.ensures a.ready in
    let r = c.in_ok-mark.ensures b.ready in
    record {
      call = λ p.
          let led = a.call (holding_peopled (of g) (law g) _ _ _ (omega (arith, c.if-node-eq0.false)) p) in
          let done = b.call (next_holds (of g) (law g) _ _ _ _ _ (omega (arith, c.if-node-eq0.false)) c.in_ok-way.ensures.child.0 c.in_ok-way.ensures.child.1 p led) in
          let fix = r.call (next_stale (of g) (law g) _ _ _ _ _ (omega (arith, c.if-node-eq0.false)) c.in_ok-way.ensures.child.0 c.in_ok-way.ensures.child.1 p led _ _ done) in
          all_shrank (of g) (law g) _ _ _ _ _ (omega (arith, c.if-node-eq0.false)) c.in_ok-way.ensures.child.0 c.in_ok-way.ensures.child.1 p led _ _ done _ _ _ fix c.with.ensures;
      ready = r.ready;
    }
