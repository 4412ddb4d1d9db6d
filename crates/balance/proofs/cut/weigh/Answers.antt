use Rattle.std.proofs.Common.{arith}
use Rattle.nodes.specs.Places.{form}
use Rattle.balance.proofs.Weights.{weighed_leaf, weighed_inner, weight_there}
use Rattle.balance.proofs.cut.weigh.Goals as goal

pub returns-then-node-eq0-clause-weighs : goal.returns-then-node-eq0-clause-weighs
returns-then-node-eq0-clause-weighs g c h = record { call = weighed_leaf (form g.K.Key.width) _ _ _ _ _ c.if-node-eq0.true (omega arith); ready = h }

pub returns-then-weight-gt-HEAVIEST-clause-weighs : goal.returns-then-weight-gt-HEAVIEST-clause-weighs
returns-then-weight-gt-HEAVIEST-clause-weighs g c h =
    let e = c.in_ok-weight.ensures h in
    record {
      call = λ p.
          let r = weighed_inner (form g.K.Key.width) _ _ _ _ _ _ c.if-node-eq0.false p (e.call (weight_there _ _ _ _ _ p)) in
          absurd (omega (arith, p.mild.each c.args.i, r.value, c.if-weight-gt-HEAVIEST.true));
      ready = e.ready;
    }

pub returns-clause-weighs : goal.returns-clause-weighs
returns-clause-weighs g c h =
    let e = c.in_ok-weight.ensures h in
    record {
      call = λ p. weighed_inner (form g.K.Key.width) _ _ _ _ _ _ c.if-node-eq0.false p (e.call (weight_there _ _ _ _ _ p));
      ready = e.ready;
    }
