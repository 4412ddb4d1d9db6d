use Rattle.std.proofs.Common.{◌≤◌, ap, inl, refl, arith}
use Rattle.copies.proofs.Exits.{raised, lost_later, kin_same}
use Rattle.balance.specs.Limits.{limit_of}
use Rattle.balance.proofs.Levels.{limit_grows}
use Rattle.held.specs.Held.{Kind, kind, Lawful}
use Rattle.held.proofs.Steps.{kin_step}
use Rattle.grow.proofs.Inserting.{number_low, roomy_at, grew_at, becomes_low, level_low, insert_tall, becomes_high}
use Rattle.grow.proofs.insert.insert.Given as given
use Rattle.grow.proofs.insert.insert.Goals as goal

abbrev of : (g : given.Over) → Kind g.row.K.Denot
of g = kind g.K.Key.width g.K.Key.order g.K.Key.packed g.K.Key.unpacked

abbrev law : (g : given.Over) → Lawful (of g)
law g = record { ordered = g.met.K.Key.ordered; packing = g.met.K.Key.packing }

pub invariant_of-result-2 : goal.invariant_of-result-2
invariant_of-result-2 g c =
    let tree = c.args.tree in
    let top = c.in_ok-raise.ensures in
    let few : tree.header.keys ≤ limit_of tree.header.root.level = tree.bounded.few in
    let grown = limit_grows tree.header.root.level (omega arith) in
    record { bounded = record { root_low = top.block.0; root_high = top.block.1; low = omega (arith, top.level); few = omega (arith, ap limit_of top.level) } }

pub returns-in_err-marks : goal.returns-in_err-marks
returns-in_err-marks g c =
    rw (raised _ _ c.from_residual-in_err-marks.ensures) (λ h.
    let a = c.in_ok-admit.ensures h in
    let b = c.in_err-marks.ensures a.ready in
    record {
      call = λ s.
          let ok = a.call s in
          inl (lost_later (kin_same ok.done) (b.call (roomy_at (of g) (law g) _ _ _ s ok.reason _ ok.done)));
      ready = b.ready;
    })

pub returns-then-keys-limit : goal.returns-then-keys-limit
returns-then-keys-limit g c = λ h.
    let a = c.in_ok-admit.ensures h in
    let b = c.in_ok-marks.ensures a.ready in
    record {
      call = λ s.
          let ok = a.call s in
          let grew = grew_at (of g) (law g) _ _ _ s ok.reason _ _ _ _ ok.done (b.call (roomy_at (of g) (law g) _ _ _ s ok.reason _ ok.done)) in
          record { reason = ok.reason; done = becomes_low (of g) (law g) _ _ _ s ok.reason _ _ _ grew _ c.limit.ensures _ (omega (arith, c.if-keys-limit.true)) refl refl refl };
      ready = b.ready;
    }

pub returns-then-root-ge-TOP_LEVEL : goal.returns-then-root-ge-TOP_LEVEL
returns-then-root-ge-TOP_LEVEL g c = λ h.
    let a = c.in_ok-admit.ensures h in
    let b = c.in_ok-marks.ensures a.ready in
    record {
      call = λ s.
          let ok = a.call s in
          let grew = grew_at (of g) (law g) _ _ _ s ok.reason _ _ _ _ ok.done (b.call (roomy_at (of g) (law g) _ _ _ s ok.reason _ ok.done)) in
          absurd (omega (arith, level_low (of g) (law g) _ _ _ s ok.reason _ _ _ grew _ c.limit.ensures (omega (arith, c.if-keys-limit.false)), c.if-root-ge-TOP_LEVEL.true));
      ready = b.ready;
    }

pub returns-in_err-raise : goal.returns-in_err-raise
returns-in_err-raise g c =
    rw (raised _ _ c.from_residual-in_err-raise.ensures) (λ h.
    let a = c.in_ok-admit.ensures h in
    let b = c.in_ok-marks.ensures a.ready in
    let d = c.in_err-raise.ensures.raises b.ready in
    record {
      call = λ s.
          let ok = a.call s in
          let grew = grew_at (of g) (law g) _ _ _ s ok.reason _ _ _ _ ok.done (b.call (roomy_at (of g) (law g) _ _ _ s ok.reason _ ok.done)) in
          inl (lost_later (kin_step _ _ _ _ grew.step) (d.call (insert_tall (of g) (law g) _ _ _ s ok.reason _ _ _ grew _ c.limit.ensures (omega (arith, c.if-keys-limit.false)) (number_low _ c.args.tree.bounded.root_high))));
      ready = d.ready;
    })

pub returns : goal.returns
returns g c = λ h.
    let a = c.in_ok-admit.ensures h in
    let b = c.in_ok-marks.ensures a.ready in
    let d = c.in_ok-raise.ensures.raises b.ready in
    record {
      call = λ s.
          let ok = a.call s in
          let grew = grew_at (of g) (law g) _ _ _ s ok.reason _ _ _ _ ok.done (b.call (roomy_at (of g) (law g) _ _ _ s ok.reason _ ok.done)) in
          let rose = d.call (insert_tall (of g) (law g) _ _ _ s ok.reason _ _ _ grew _ c.limit.ensures (omega (arith, c.if-keys-limit.false)) (number_low _ c.args.tree.bounded.root_high)) in
          record { reason = ok.reason; done = becomes_high (of g) (law g) _ _ _ s ok.reason _ _ _ grew _ c.limit.ensures (omega (arith, c.if-keys-limit.false)) _ _ _ rose c.in_ok-raise.ensures.level refl refl c.with.ensures };
      ready = d.ready;
    }
