use Rattle.std.proofs.Common.{ℕ, cond, eqb, ap, ◌∙◌, arith}
use Rattle.copies.proofs.Exits.{raised, lost_later, kin_same}
use Rattle.held.specs.Held.{Kind, kind, Lawful}
use Rattle.grow.proofs.Looks.{lowly_peopled, child_lowly, weight_word, told_none, told_some, one_for}
use Rattle.grow.proofs.survey.+survey.Given as given
use Rattle.grow.proofs.survey.+survey.Goals as goal

abbrev of : (g : given.Over) → Kind g.row.K.Denot
of g = kind g.K.Key.width g.K.Key.order g.K.Key.packed g.K.Key.unpacked

abbrev law : (g : given.Over) → Lawful (of g)
law g = record { ordered = g.met.K.Key.ordered; packing = g.met.K.Key.packing }

pub returns-in_err-way-clause-tells : goal.returns-in_err-way-clause-tells
returns-in_err-way-clause-tells g t c =
    rw (raised _ _ c.from_residual-in_err-way.ensures) (λ h.
    let a = c.in_err-way.ensures.leads h in
    record { call = λ p. a.call (lowly_peopled (of g) (law g) _ _ (omega (arith, c.if-node-eq0.false)) p); ready = a.ready })

pub returns-in_err-weight-clause-tells : goal.returns-in_err-weight-clause-tells
returns-in_err-weight-clause-tells g t c =
    rw (raised _ _ c.from_residual-in_err-weight.ensures) (λ h.
    let a = c.in_ok-way.ensures.leads h in
    let x = c.in_err-weight.ensures a.ready in
    record {
      call = λ p.
          let led = a.call (lowly_peopled (of g) (law g) _ _ (omega (arith, c.if-node-eq0.false)) p) in
          lost_later (kin_same led.found.same) (x.call (weight_word (of g) (law g) _ _ _ _ _ (omega (arith, c.if-node-eq0.false)) c.in_ok-way.ensures.child.0 p led));
      ready = x.ready;
    })

pub returns-in_err-full-clause-tells : goal.returns-in_err-full-clause-tells
returns-in_err-full-clause-tells g t c =
    rw (raised _ _ c.from_residual-in_err-full.ensures) (λ h.
    let a = c.in_ok-way.ensures.leads h in
    let x = c.in_ok-weight.ensures a.ready in
    let y = c.in_err-full.ensures.tells x.ready in
    record {
      call = λ p.
          let led = a.call (lowly_peopled (of g) (law g) _ _ (omega (arith, c.if-node-eq0.false)) p) in
          let w = x.call (weight_word (of g) (law g) _ _ _ _ _ (omega (arith, c.if-node-eq0.false)) c.in_ok-way.ensures.child.0 p led) in
          lost_later (kin_same (w.same ∙ led.found.same)) (y.call (child_lowly (of g) (law g) _ _ _ _ _ _ (omega (arith, c.if-node-eq0.false)) c.in_ok-way.ensures.child.1 p led w.same));
      ready = y.ready;
    })

pub returns-in_default-clause-tells : goal.returns-in_default-clause-tells
returns-in_default-clause-tells g t c = λ h.
    let a = c.in_ok-way.ensures.leads h in
    let x = c.in_ok-weight.ensures a.ready in
    let y = c.in_ok-full.ensures.tells x.ready in
    record {
      call = λ p.
          let led = a.call (lowly_peopled (of g) (law g) _ _ (omega (arith, c.if-node-eq0.false)) p) in
          let w = x.call (weight_word (of g) (law g) _ _ _ _ _ (omega (arith, c.if-node-eq0.false)) c.in_ok-way.ensures.child.0 p led) in
          told_none (of g) (law g) _ _ _ _ _ _ _ _ (omega (arith, c.if-node-eq0.false)) c.in_ok-way.ensures.child.0 c.in_ok-way.ensures.child.1 p led w _ c.in_default.is y.call;
      ready = y.ready;
    }

pub returns-clause-tells : goal.returns-clause-tells
returns-clause-tells g t c = λ h.
    let a = c.in_ok-way.ensures.leads h in
    let x = c.in_ok-weight.ensures a.ready in
    let y = c.in_ok-full.ensures.tells x.ready in
    record {
      call = λ p.
          let led = a.call (lowly_peopled (of g) (law g) _ _ (omega (arith, c.if-node-eq0.false)) p) in
          let w = x.call (weight_word (of g) (law g) _ _ _ _ _ (omega (arith, c.if-node-eq0.false)) c.in_ok-way.ensures.child.0 p led) in
          told_some (of g) (law g) _ _ _ _ _ _ _ _ _ _ (omega (arith, c.if-node-eq0.false)) c.in_ok-way.ensures.child.0 c.in_ok-way.ensures.child.1 p led w (c.from.ensures ∙ one_for _ ∙ ap (λ z. cond {A = ℕ} (eqb c.in_ok-weight.weight z) 1 0) c.limit.ensures) _ c.in-Some.is y.call;
      ready = y.ready;
    }
