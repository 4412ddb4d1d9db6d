use Rattle.std.proofs.Common.{arith}
use Rattle.nodes.specs.Places.{form}
use Rattle.balance.proofs.Weights.{still_weighable, summed_more, cut_here, cut_last}
use Rattle.balance.proofs.cut.split_point.Goals as goal

pub loop-kept-preserved : goal.loop-kept-preserved
loop-kept-preserved g c = (
  omega arith,
  λ h.
      let i = c.loop-kept.invariant.1 h in
      let e = c.in_ok-weight.ensures.weighs i.ready in
      record {
        call = λ p.
            let s = i.call p in
            summed_more (form g.K.Key.width) _ _ _ _ _ _ _ _ _ c.loop-kept-test.true p.counted s.0 s.1 (e.call (still_weighable _ _ _ _ _ _ _ s.0 c.loop-kept-test.true p.counted));
        ready = e.ready;
      },
)

pub returns-then-passed-weight-clause-cuts : goal.returns-then-passed-weight-clause-cuts
returns-then-passed-weight-clause-cuts g c h =
    let i = c.loop-kept.invariant.1 h in
    let e = c.in_ok-weight.ensures.weighs i.ready in
    record {
      call = λ p.
          let s = i.call p in
          cut_here (form g.K.Key.width) _ _ _ _ _ _ _ _ _ _ c.loop-kept-test.true p s.0 s.1 c.loop-kept.invariant.0 (e.call (still_weighable _ _ _ _ _ _ _ s.0 c.loop-kept-test.true p.counted)) c.if-passed-weight.true;
      ready = e.ready;
    }

pub returns-clause-cuts : goal.returns-clause-cuts
returns-clause-cuts g c h =
    let i = c.loop-kept.invariant.1 h in
    record {
      call = λ p.
          let s = i.call p in
          cut_last (form g.K.Key.width) _ _ _ _ _ _ _ _ (omega arith) p s.0 s.1 c.loop-kept.invariant.0;
      ready = i.ready;
    }
