use Rattle.std.proofs.Common.{Err, arith}
use Rattle.copies.proofs.Exits.{raised, lost_later, kin_same, take_work, work_then}
use Rattle.nodes.specs.Nodes.{Has, Changed, entry_of, replace_at}
use Rattle.tree.specs.declared.mark.Mark.TheVariants.{Split}
use Rattle.held.specs.Held.{Kind, kind, Lawful}
use Rattle.grow.specs.Inserts.{TooHeavy, Settled}
use Rattle.grow.proofs.Settling.{coded}
use Rattle.grow.proofs.Dividing.{half_here, free_here, took_here, divide_heavy, divide_free, divide_kin, divide_partable, divide_kin_moved, divide_open, divide_kin_put, divide_has, divided}
use Rattle.grow.proofs.split.divide.Given as given
use Rattle.grow.proofs.split.divide.Goals as goal

abbrev of : (g : given.Over) → Kind g.row.K.Denot
of g = kind g.K.Key.width g.K.Key.order g.K.Key.packed g.K.Key.unpacked

abbrev law : (g : given.Over) → Lawful (of g)
law g = record { ordered = g.met.K.Key.ordered; packing = g.met.K.Key.packing }

pub returns-in_err-halves : goal.returns-in_err-halves
returns-in_err-halves g c =
    rw (raised _ _ c.from_residual.ensures) (λ h.
    let a = c.in_err-halves.ensures h in
    record { call = λ p. a.call (divide_heavy (of g) (law g) _ _ _ p); ready = a.ready })

pub returns-in_err-fresh : goal.returns-in_err-fresh
returns-in_err-fresh g c =
    rw (raised _ _ c.from_residual-in_err-fresh.ensures) (λ h.
    let a = c.in_ok-halves.ensures h in
    let b = c.in_err-fresh.ensures.keeps a.ready in
    record {
      call = λ p.
          let half = a.call (divide_heavy (of g) (law g) _ _ _ p) in
          lost_later (kin_same half.same) (take_work _ _ (Err _) b.call b.deep (free_here half (divide_free (of g) (law g) _ _ _ p)));
      ready = b.ready;
    })

pub returns-in_err-move_tail : goal.returns-in_err-move_tail
returns-in_err-move_tail g c =
    rw (raised _ _ c.from_residual-in_err-move_tail.ensures) (λ h.
    let a = c.in_ok-halves.ensures h in
    let b = c.in_ok-fresh.ensures.keeps a.ready in
    let d = c.in_err-move_tail.ensures b.ready in
    record {
      call = λ p.
          let half = a.call (divide_heavy (of g) (law g) _ _ _ p) in
          let took = took_here half b.call in
          lost_later (divide_kin (of g) (law g) _ _ _ p _ _ _ (half_here half) took) (d.call (divide_partable (of g) (law g) _ _ _ p _ _ _ (half_here half) took));
      ready = d.ready;
    })

pub returns-in_err-insert_entry : goal.returns-in_err-insert_entry
returns-in_err-insert_entry g c =
    rw (raised _ _ c.from_residual-in_err-insert_entry.ensures) (λ h.
    let a = c.in_ok-halves.ensures h in
    let b = c.in_ok-fresh.ensures.keeps a.ready in
    let d = c.in_ok-move_tail.ensures b.ready in
    let e = c.in_err-insert_entry.ensures d.ready in
    record {
      call = λ p.
          let half = a.call (divide_heavy (of g) (law g) _ _ _ p) in
          let took = took_here half b.call in
          let part = d.call (divide_partable (of g) (law g) _ _ _ p _ _ _ (half_here half) took) in
          lost_later (divide_kin_moved (of g) (law g) _ _ _ p _ _ _ (half_here half) took _ part) (e.call (divide_open (of g) (law g) _ _ _ p _ _ _ (half_here half) took _ part));
      ready = e.ready;
    })

pub returns : goal.returns
returns g c = λ h.
    let a = c.in_ok-halves.ensures h in
    let b = c.in_ok-fresh.ensures.keeps a.ready in
    let d = c.in_ok-move_tail.ensures b.ready in
    let e = c.in_ok-insert_entry.ensures d.ready in
    let r = c.replace_entry.ensures e.ready in
    let left = coded (of g) _ c.in_ok-halves.halves.left _ _ (omega (arith, c.of_child-left.ensures.weight)) c.of_child-left.ensures.key c.of_child-left.ensures.child in
    let right = coded (of g) _ c.in_ok-halves.halves.right _ _ (omega (arith, c.of_child-right.ensures.weight)) c.of_child-right.ensures.key c.of_child-right.ensures.child in
    record {
      call = work_then (TooHeavy (of g) c.args.way c.args.low) (Has (of g).form c.args.way.parent c.args.way.place) (λ m _ n. Settled (of g) c.args.way m Split n)
          (Changed (of g).form c.args.way.parent (replace_at c.args.way.place (entry_of g.K.Key.packed c.of_child-left.result))) _ _ _ _ (λ p.
          let half = a.call (divide_heavy (of g) (law g) _ _ _ p) in
          let took = took_here half b.call in
          let part = d.call (divide_partable (of g) (law g) _ _ _ p _ _ _ (half_here half) took) in
          let put = e.call (divide_open (of g) (law g) _ _ _ p _ _ _ (half_here half) took _ part) in (
            divide_has (of g) (law g) _ _ _ p _ _ _ (half_here half) took _ part _ _ put,
            divide_kin_put (of g) (law g) _ _ _ p _ _ _ (half_here half) took _ part _ _ put,
            λ _ done. divided (of g) (law g) _ _ _ p _ _ _ (half_here half) took _ part _ _ put _ _ done left right,
          )) r.call;
      ready = r.ready;
    }
