use Rattle.std.proofs.Common.{arith}
use Rattle.nodes.specs.Places.{form}
use Rattle.balance.proofs.Weights.{still_weighable, summed_more, summed_all}
use Rattle.balance.proofs.cut.whole_weight.Goals as goal

pub loop-i-preserved : goal.loop-i-preserved
loop-i-preserved g c = (
  omega (arith, c.loop-i.invariant.0, c.in_ok-weight.ensures.bound),
  λ h.
      let i = c.loop-i.invariant.1 h in
      let e = c.in_ok-weight.ensures.weighs i.ready in
      record {
        call = λ p.
            let s = i.call p in
            summed_more (form g.K.Key.width) _ _ _ _ _ _ _ _ _ c.loop-i-test.true p s.0 s.1 (e.call (still_weighable _ _ _ _ _ _ _ s.0 c.loop-i-test.true p));
        ready = e.ready;
      },
)

pub returns-clause-sums : goal.returns-clause-sums
returns-clause-sums g c h =
    let i = c.loop-i.invariant.1 h in
    record {
      call = λ p.
          let s = i.call p in
          summed_all (form g.K.Key.width) _ _ _ _ _ _ _ c.loop-i-test.false p s.0 s.1;
      ready = i.ready;
    }
