use Rattle.copies.proofs.Exits.{raised, lost_later, kin_same}
use Rattle.held.specs.Held.{Kind, kind, Lawful}
use Rattle.ask.proofs.Leaves.{below_turn, below_peopled, leaf_reached}
use Rattle.ask.proofs.find.leaf_of.Given as given
use Rattle.ask.proofs.find.leaf_of.Goals as goal

abbrev of : (g : given.Over) → Kind g.row.K.Denot
of g = kind g.K.Key.width g.K.Key.order g.K.Key.packed g.K.Key.unpacked

abbrev law : (g : given.Over) → Lawful (of g)
law g = record { ordered = g.met.K.Key.ordered; packing = g.met.K.Key.packing }

pub loop-node-preserved : goal.loop-node-preserved
loop-node-preserved g c = λ h.
    let i = c.loop-node.invariant h in
    let e = c.in_ok-node.ensures.leads i.ready in
    record {
      call = λ p.
          let s = i.call p in
          below_turn (of g) (law g) _ _ _ _ _ _ _ s.0 c.loop-node-test.true c.in_ok-node.ensures.child.1 s.1 (e.call (below_peopled (of g) (law g) _ _ _ _ _ s.0 c.loop-node-test.true s.1));
      ready = e.ready;
    }

pub returns-in_err-node : goal.returns-in_err-node
returns-in_err-node g c =
    rw (raised _ _ c.from_residual.ensures) (λ h.
    let i = c.loop-node.invariant h in
    let e = c.in_err-node.ensures.leads i.ready in
    record {
      call = λ p.
          let s = i.call p in
          lost_later (kin_same s.0) (e.call (below_peopled (of g) (law g) _ _ _ _ _ s.0 c.loop-node-test.true s.1));
      ready = e.ready;
    })

pub returns : goal.returns
returns g c = λ h.
    let i = c.loop-node.invariant h in
    record {
      call = λ p.
          let s = i.call p in
          leaf_reached (of g) (law g) _ _ _ _ _ c.loop-node-test.false s.0 s.1;
      ready = i.ready;
    }
