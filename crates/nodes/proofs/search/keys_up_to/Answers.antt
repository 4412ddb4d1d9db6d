use Rattle.std.proofs.Common.{sym, ap, ◌∙◌}
use Rattle.nodes.specs.Places.{form}
use Rattle.nodes.proofs.Rooms.{room_same, countable}
use Rattle.nodes.proofs.Searches.{between_met, found}
use Rattle.nodes.proofs.search.keys_up_to.Goals as goal

pub returns-clause-finds : goal.returns-clause-finds
returns-clause-finds g c h =
    let a = c.in_ok-high.ensures.counts h in
    let i = c.loop-low.invariant.2 a.ready in
    record {
      call = λ p.
          let r = a.call (countable g.K.Key.width _ _ p.few p.room) in
          let s = i.call (room_same _ _ _ _ r.same p.room) (r.value ∙ ap (λ z. z.words c.args.block 1) (sym r.same)) in
          found g.K.Key.order g.met.K.Key.ordered (form g.K.Key.width) g.K.Key.unpacked _ _ _ _ _ _ r.same s.0 (between_met _ _ _ _ _ _ c.loop-low.invariant.0 c.loop-low-test.false s.1);
      ready = i.ready;
    }
