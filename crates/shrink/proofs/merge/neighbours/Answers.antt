use Rattle.std.proofs.Common.{◌≡◌, ◌-◌, refl, ◌∙◌, arith}
use Rattle.nodes.proofs.Rooms.{countable}
use Rattle.held.specs.Held.{Kind, kind}
use Rattle.shrink.proofs.Pairing.{near_word, near_room, near_at, looked_at, looked}
use Rattle.shrink.proofs.merge.neighbours.Given as given
use Rattle.shrink.proofs.merge.neighbours.Goals as goal

abbrev of : (g : given.Over) → Kind g.row.K.Denot
of g = kind g.K.Key.width g.K.Key.order g.K.Key.packed g.K.Key.unpacked

pub returns : goal.returns
returns g c = λ h.
    let n = c.in_ok-n.ensures.counts h in
    let k = c.in_ok-low.ensures n.ready in
    let f = c.in_ok-child_block.ensures k.ready in
    let s = c.in_ok-child_block-2.ensures f.ready in
    let v = c.in_ok-left_weight.ensures s.ready in
    let w = c.in_ok-right_weight.ensures v.ready in
    let e : c.saturating_sub-place.result ≡ c.args.place - 1 = omega (arith, c.saturating_sub-place.ensures) in
    record {
      call = λ p.
          let q = near_at (of g) _ _ _ _ e p in
          let a = n.call (countable g.K.Key.width _ _ q.parent.few q.parent.room) in
          let x1 = k.call (near_room (of g) _ _ _ _ _ q a.same) in
          let x2 = f.call (near_room (of g) _ _ _ _ _ q (x1.same ∙ a.same)) in
          let x3 = s.call (near_room (of g) _ _ _ _ _ q (x2.same ∙ x1.same ∙ a.same)) in
          let x4 = v.call (near_word (of g) _ _ _ _ _ _ q (x3.same ∙ x2.same ∙ x1.same ∙ a.same) (omega arith)) in
          let x5 = w.call (near_word (of g) _ _ _ _ _ _ q (x4.same ∙ x3.same ∙ x2.same ∙ x1.same ∙ a.same) (omega arith)) in
          looked_at (of g) _ _ _ _ _ _ e (looked (of g) _ _ _ _ _ _ _ _ _ _ _ _ _ _ _ _ q a.same x1 x2 x3 x4 x5 refl refl refl refl refl refl refl c.saturating_add.ensures);
      ready = w.ready;
    }
