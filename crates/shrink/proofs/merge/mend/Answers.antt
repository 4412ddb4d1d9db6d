use Rattle.std.proofs.Common.{arith}
use Rattle.copies.proofs.Exits.{raised, lost_later, kin_same}
use Rattle.held.specs.Held.{Kind, kind}
use Rattle.shrink.proofs.Mending.{mergeable_of, shareable_of, fused_shared, fused_merged}
use Rattle.shrink.proofs.merge.mend.Given as given
use Rattle.shrink.proofs.merge.mend.Goals as goal

abbrev of : (g : given.Over) → Kind g.row.K.Denot
of g = kind g.K.Key.width g.K.Key.order g.K.Key.packed g.K.Key.unpacked

pub returns-in_err-share : goal.returns-in_err-share
returns-in_err-share g c =
    rw (raised _ _ c.from_residual-in_err-share.ensures) (λ h.
    let a = c.in_ok-pair.ensures h in
    let b = c.in_err-share.ensures a.ready in
    record {
      call = λ p. let k = a.call p in lost_later (kin_same k.same) (b.call (shareable_of (of g) _ _ _ _ _ _ p k (omega (arith, c.if-pair-limit.true, c.limit.ensures))));
      ready = b.ready;
    })

pub returns-then-pair-limit : goal.returns-then-pair-limit
returns-then-pair-limit g c = λ h.
    let a = c.in_ok-pair.ensures h in
    let b = c.in_ok-share.ensures a.ready in
    record {
      call = λ p.
          let k = a.call p in
          fused_shared (of g) _ _ _ _ _ _ _ p k (omega (arith, c.if-pair-limit.true, c.limit.ensures)) (b.call (shareable_of (of g) _ _ _ _ _ _ p k (omega (arith, c.if-pair-limit.true, c.limit.ensures))));
      ready = b.ready;
    }

pub returns : goal.returns
returns g c = λ h.
    let a = c.in_ok-pair.ensures h in
    let b = c.in_ok-merge.ensures a.ready in
    record {
      call = λ p.
          let k = a.call p in
          fused_merged (of g) _ _ _ _ _ _ _ p k (omega (arith, c.if-pair-limit.false, c.limit.ensures)) (b.call (mergeable_of (of g) _ _ _ _ _ _ p k));
      ready = b.ready;
    }
