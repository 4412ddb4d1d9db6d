use Rattle.std.proofs.Common.{inl, arith}
use Rattle.copies.proofs.Exits.{raised, lost_later, kin_same}
use Rattle.held.specs.Held.{Kind, kind, Lawful}
use Rattle.shrink.proofs.Deleting.{accepted, root_holds, root_kin, topped, becomes}
use Rattle.shrink.proofs.delete.delete.Given as given
use Rattle.shrink.proofs.delete.delete.Goals as goal

abbrev of : (g : given.Over) → Kind g.row.K.Denot
of g = kind g.K.Key.width g.K.Key.order g.K.Key.packed g.K.Key.unpacked

abbrev law : (g : given.Over) → Lawful (of g)
law g = record { ordered = g.met.K.Key.ordered; packing = g.met.K.Key.packing }

pub returns-in_err-marks : goal.returns-in_err-marks
returns-in_err-marks g c =
    rw (raised _ _ c.from_residual-in_err-marks.ensures) (λ h.
    let a = c.in_ok-find.ensures h in
    let b = c.in_err-marks.ensures a.ready in
    record {
      call = λ p. let f = a.call p.sits in inl (lost_later (kin_same f.same) (b.call (root_holds (of g) (law g) _ _ _ _ _ _ c.is_none.ensures c.if-is_none.false p f)));
      ready = b.ready;
    })

pub returns-in_err-tree : goal.returns-in_err-tree
returns-in_err-tree g c =
    rw (raised _ _ c.from_residual-in_err-tree.ensures) (λ h.
    let a = c.in_ok-find.ensures h in
    let b = c.in_ok-marks.ensures a.ready in
    let r = c.in_err-tree.ensures b.ready in
    record {
      call = λ p.
          let f = a.call p.sits in
          let d = b.call (root_holds (of g) (law g) _ _ _ _ _ _ c.is_none.ensures c.if-is_none.false p f) in
          inl (lost_later (root_kin (of g) (law g) _ _ _ _ _ _ c.is_none.ensures c.if-is_none.false p f _ _ d c.saturating_sub.result (omega (arith, c.saturating_sub.ensures))) (r.call (topped (of g) (law g) _ _ _ _ _ _ c.is_none.ensures c.if-is_none.false p f _ _ d c.saturating_sub.result (omega (arith, c.saturating_sub.ensures)))));
      ready = r.ready;
    })

pub returns : goal.returns
returns g c = λ h.
    let a = c.in_ok-find.ensures h in
    let b = c.in_ok-marks.ensures a.ready in
    let r = c.in_ok-tree.ensures b.ready in
    record {
      call = λ p.
          let f = a.call p.sits in
          let d = b.call (root_holds (of g) (law g) _ _ _ _ _ _ c.is_none.ensures c.if-is_none.false p f) in
          let t = r.call (topped (of g) (law g) _ _ _ _ _ _ c.is_none.ensures c.if-is_none.false p f _ _ d c.saturating_sub.result (omega (arith, c.saturating_sub.ensures))) in
          record {
            reason = accepted (of g) (law g) _ _ _ _ _ _ c.is_none.ensures c.if-is_none.false p f;
            done = becomes (of g) (law g) _ _ _ _ _ _ c.is_none.ensures c.if-is_none.false p f _ _ d c.saturating_sub.result (omega (arith, c.saturating_sub.ensures)) _ _ t;
          };
      ready = r.ready;
    }
