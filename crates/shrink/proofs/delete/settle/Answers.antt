use Rattle.std.proofs.Common.{◌∙◌, arith}
use Rattle.copies.proofs.Exits.{raised, lost_later, kin_same}
use Rattle.nodes.proofs.Rooms.{room_same}
use Rattle.held.specs.Held.{Kind, kind, Lawful}
use Rattle.shrink.proofs.Back.{room_at}
use Rattle.shrink.proofs.Settling.{stale_word, stale_room, stale_has, corrected, settled_heavy, settle_ends}
use Rattle.shrink.proofs.delete.settle.Given as given
use Rattle.shrink.proofs.delete.settle.Goals as goal

abbrev of : (g : given.Over) → Kind g.row.K.Denot
of g = kind g.K.Key.width g.K.Key.order g.K.Key.packed g.K.Key.unpacked

abbrev law : (g : given.Over) → Lawful (of g)
law g = record { ordered = g.met.K.Key.ordered; packing = g.met.K.Key.packing }

pub returns-in_err-low : goal.returns-in_err-low
returns-in_err-low g c =
    rw (raised _ _ c.from_residual-in_err-low.ensures) (λ h.
    let a = c.in_ok-entry_weight.ensures h in
    let b = c.in_err-low.ensures a.ready in
    record {
      call = λ p. let x = a.call (stale_word (of g) (law g) _ _ p) in lost_later (kin_same x.same) (b.call (room_at _ _ _ _ (omega arith) (room_same _ _ _ _ x.same (stale_room (of g) (law g) _ _ p))));
      ready = b.ready;
    })

pub returns-in_err-replace_entry : goal.returns-in_err-replace_entry
returns-in_err-replace_entry g c =
    rw (raised _ _ c.from_residual-in_err-replace_entry.ensures) (λ h.
    let a = c.in_ok-entry_weight.ensures h in
    let b = c.in_ok-low.ensures a.ready in
    let r = c.in_err-replace_entry.ensures b.ready in
    record {
      call = λ p.
          let x = a.call (stale_word (of g) (law g) _ _ p) in
          let y = b.call (room_same _ _ _ _ x.same (stale_room (of g) (law g) _ _ p)) in
          lost_later (kin_same (y.same ∙ x.same)) (r.call (stale_has (of g) (law g) _ _ p (y.same ∙ x.same)));
      ready = r.ready;
    })

pub returns-then-weight-limit : goal.returns-then-weight-limit
returns-then-weight-limit g c = λ h.
    let a = c.in_ok-entry_weight.ensures h in
    let b = c.in_ok-low.ensures a.ready in
    let r = c.in_ok-replace_entry.ensures b.ready in
    let e = c.of_child-entry.ensures in
    record {
      call = λ p.
          let x = a.call (stale_word (of g) (law g) _ _ p) in
          let y = b.call (room_same _ _ _ _ x.same (stale_room (of g) (law g) _ _ p)) in
          let z = corrected (of g) (law g) _ _ _ _ _ _ _ _ _ p x y e.weight (omega (arith, c.saturating_sub-weight.ensures)) e.key e.child (r.call (stale_has (of g) (law g) _ _ p (y.same ∙ x.same))) in
          settled_heavy (of g) (law g) _ _ _ _ p z (omega (arith, c.if-weight-limit.true, c.limit.ensures, e.weight));
      ready = r.ready;
    }

pub returns : goal.returns
returns g c = λ h.
    let a = c.in_ok-entry_weight.ensures h in
    let b = c.in_ok-low.ensures a.ready in
    let r = c.in_ok-replace_entry.ensures b.ready in
    let e = c.of_child-entry.ensures in
    let q = c.mend.ensures r.ready in
    record {
      call = settle_ends (of g) (law g) _ _ _ _ _ _
          (λ p.
          let x = a.call (stale_word (of g) (law g) _ _ p) in
          let y = b.call (room_same _ _ _ _ x.same (stale_room (of g) (law g) _ _ p)) in
          corrected (of g) (law g) _ _ _ _ _ _ _ _ _ p x y e.weight (omega (arith, c.saturating_sub-weight.ensures)) e.key e.child (r.call (stale_has (of g) (law g) _ _ p (y.same ∙ x.same))))
          (omega (arith, c.if-weight-limit.false, c.limit.ensures, e.weight))
          q.call;
      ready = q.ready;
    }
