use Rattle.std.proofs.Common.{◌≤◌, lit≤, arith}
use Rattle.copies.proofs.Exits.{raised, lost_later}
use Rattle.held.specs.Held.{Kind, kind, Lawful}
use Rattle.shrink.proofs.Back.{kin_holds, kin_then, give_at}
use Rattle.shrink.proofs.Merging.{pair_joinable, pair_has_right, pair_has_left, merge_ends}
use Rattle.shrink.proofs.merge.merge.Given as given
use Rattle.shrink.proofs.merge.merge.Goals as goal

abbrev of : (g : given.Over) → Kind g.row.K.Denot
of g = kind g.K.Key.width g.K.Key.order g.K.Key.packed g.K.Key.unpacked

abbrev law : (g : given.Over) → Lawful (of g)
law g = record { ordered = g.met.K.Key.ordered; packing = g.met.K.Key.packing }

many : 80 ≤ 80
many = lit≤ tt

pub returns-in_err-append_all : goal.returns-in_err-append_all
returns-in_err-append_all g c =
    rw (raised _ _ c.from_residual.ensures) (λ h.
    let a = c.in_err-append_all.ensures h in
    record { call = λ p. a.call (pair_joinable (of g) (law g) many _ _ p); ready = a.ready })

pub returns-in_err-remove_entry : goal.returns-in_err-remove_entry
returns-in_err-remove_entry g c =
    rw (raised _ _ c.from_residual-in_err-remove_entry.ensures) (λ h.
    let a = c.in_ok-append_all.ensures h in
    let b = c.in_err-remove_entry.ensures a.ready in
    record {
      call = λ p.
          let j = a.call (pair_joinable (of g) (law g) many _ _ p) in
          lost_later (kin_holds j) (b.call (pair_has_right (of g) (law g) many _ _ p _ j));
      ready = b.ready;
    })

pub returns-in_err-replace_entry : goal.returns-in_err-replace_entry
returns-in_err-replace_entry g c =
    rw (raised _ _ c.from_residual-in_err-replace_entry.ensures) (λ h.
    let a = c.in_ok-append_all.ensures h in
    let b = c.in_ok-remove_entry.ensures a.ready in
    let r = c.in_err-replace_entry.ensures b.ready in
    record {
      call = λ p.
          let j = a.call (pair_joinable (of g) (law g) many _ _ p) in
          let k = b.call (pair_has_right (of g) (law g) many _ _ p _ j) in
          lost_later (kin_then (kin_holds j) (kin_holds k)) (r.call (pair_has_left (of g) (law g) many _ _ p _ _ j k));
      ready = r.ready;
    })

pub returns : goal.returns
returns g c = λ h.
    let a = c.in_ok-append_all.ensures h in
    let b = c.in_ok-remove_entry.ensures a.ready in
    let r = c.in_ok-replace_entry.ensures b.ready in
    let v = c.give_back.ensures.keeps r.ready in
    record {
      call = merge_ends (of g) (law g) many _ _ _ _ _ _ _ _ c.of_child-entry.ensures.weight c.of_child-entry.ensures.key c.of_child-entry.ensures.child
          (λ p.
          let j = a.call (pair_joinable (of g) (law g) many _ _ p) in
          let k = b.call (pair_has_right (of g) (law g) many _ _ p _ j) in
          record { join = j; less = k; put = r.call (pair_has_left (of g) (law g) many _ _ p _ _ j k) })
          (give_at _ _ _ _ _ (omega arith) v.call) v.deep;
      ready = v.ready;
    }
