use Rattle.std.proofs.Common.{arith}
use Rattle.nodes.specs.Places.{form}
use Rattle.ask.proofs.Ranks.{begun_more, begun_weighable}
use Rattle.ask.proofs.rank.weight_before.Goals as goal

pub loop-i-preserved : goal.loop-i-preserved
loop-i-preserved g c = (
  omega (arith, c.loop-i.invariant.0, c.in_ok-weight.ensures.bound),
  λ h.
      let i = c.loop-i.invariant.1 h in
      let e = c.in_ok-weight.ensures.weighs i.ready in
      record {
        call = λ p.
            let s = i.call p in
            begun_more (form g.K.Key.width) _ _ _ _ _ _ _ _ _ c.loop-i-test.true p s.0 s.1 (e.call (begun_weighable (form g.K.Key.width) _ _ _ _ _ _ c.loop-i-test.true p s.0));
        ready = e.ready;
      },
)
