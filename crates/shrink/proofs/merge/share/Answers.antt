use Rattle.std.proofs.Common.{◌≤◌, lit≤}
use Rattle.copies.proofs.Exits.{raised, lost_later, kin_same}
use Rattle.held.specs.Held.{Kind, kind, Lawful}
use Rattle.shrink.proofs.Back.{kin_holds, kin_then}
use Rattle.shrink.proofs.Merging.{pair_joinable}
use Rattle.shrink.proofs.Sharing.{parted_kin, pair_heavy, pair_partable, pair_has_first, share_ends}
use Rattle.shrink.proofs.merge.share.Given as given
use Rattle.shrink.proofs.merge.share.Goals as goal

abbrev of : (g : given.Over) → Kind g.row.K.Denot
of g = kind g.K.Key.width g.K.Key.order g.K.Key.packed g.K.Key.unpacked

abbrev law : (g : given.Over) → Lawful (of g)
law g = record { ordered = g.met.K.Key.ordered; packing = g.met.K.Key.packing }

many : 80 ≤ 80
many = lit≤ tt

pub returns-in_err-append_all : goal.returns-in_err-append_all
returns-in_err-append_all g c =
    rw (raised _ _ c.from_residual.ensures) (λ h.
    let a = c.in_err-append_all.ensures h in
    record { call = λ p. a.call (pair_joinable (of g) (law g) many _ _ p.pair); ready = a.ready })

pub returns-in_err-halves : goal.returns-in_err-halves
returns-in_err-halves g c =
    rw (raised _ _ c.from_residual-in_err-halves.ensures) (λ h.
    let a = c.in_ok-append_all.ensures h in
    let b = c.in_err-halves.ensures a.ready in
    record {
      call = λ p.
          let j = a.call (pair_joinable (of g) (law g) many _ _ p.pair) in
          lost_later (kin_holds j) (b.call (pair_heavy (of g) (law g) many _ _ p _ j));
      ready = b.ready;
    })

pub returns-in_err-move_tail : goal.returns-in_err-move_tail
returns-in_err-move_tail g c =
    rw (raised _ _ c.from_residual-in_err-move_tail.ensures) (λ h.
    let a = c.in_ok-append_all.ensures h in
    let b = c.in_ok-halves.ensures a.ready in
    let r = c.in_err-move_tail.ensures b.ready in
    record {
      call = λ p.
          let j = a.call (pair_joinable (of g) (law g) many _ _ p.pair) in
          let k = b.call (pair_heavy (of g) (law g) many _ _ p _ j) in
          lost_later (kin_then (kin_holds j) (kin_same k.same)) (r.call (pair_partable (of g) (law g) many _ _ p _ j _ _ k));
      ready = r.ready;
    })

pub returns-in_err-replace_entry : goal.returns-in_err-replace_entry
returns-in_err-replace_entry g c =
    rw (raised _ _ c.from_residual-in_err-replace_entry.ensures) (λ h.
    let a = c.in_ok-append_all.ensures h in
    let b = c.in_ok-halves.ensures a.ready in
    let r = c.in_ok-move_tail.ensures b.ready in
    let q = c.in_err-replace_entry.ensures r.ready in
    record {
      call = λ p.
          let j = a.call (pair_joinable (of g) (law g) many _ _ p.pair) in
          let k = b.call (pair_heavy (of g) (law g) many _ _ p _ j) in
          let m = r.call (pair_partable (of g) (law g) many _ _ p _ j _ _ k) in
          lost_later (kin_then (kin_then (kin_holds j) (kin_same k.same)) (parted_kin m)) (q.call (pair_has_first (of g) (law g) many _ _ p _ j _ _ k _ m));
      ready = q.ready;
    })

pub returns : goal.returns
returns g c = λ h.
    let a = c.in_ok-append_all.ensures h in
    let b = c.in_ok-halves.ensures a.ready in
    let r = c.in_ok-move_tail.ensures b.ready in
    let q = c.in_ok-replace_entry.ensures r.ready in
    let v = c.replace_entry-2.ensures q.ready in
    let e = c.of_child-entry.ensures in
    let f = c.of_child-entry-2.ensures in
    record {
      call = share_ends (of g) (law g) many _ _ _ _ _ _ _ _ _ _ _ e.weight e.key e.child f.weight f.key f.child
          (λ p.
          let j = a.call (pair_joinable (of g) (law g) many _ _ p.pair) in
          let k = b.call (pair_heavy (of g) (law g) many _ _ p _ j) in
          let m = r.call (pair_partable (of g) (law g) many _ _ p _ j _ _ k) in
          record { join = j; half = k; part = m; put = q.call (pair_has_first (of g) (law g) many _ _ p _ j _ _ k _ m) })
          v.call;
      ready = v.ready;
    }
