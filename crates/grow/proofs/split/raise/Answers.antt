use Rattle.std.proofs.Common.{◌≤◌, refl, lit≤, arith}
use Rattle.copies.proofs.Exits.{raised, lost_later, word_lost}
use Rattle.held.specs.Held.{Kind, kind, Lawful}
use Rattle.grow.proofs.Settling.{coded}
use Rattle.grow.proofs.Raising.{way_of, free_before, took_before, raise_free, raise_word, raise_kin, raise_kin_set, raise_open, raise_kin_put, raise_heavy, raised_by}
use Rattle.grow.proofs.split.raise.Given as given
use Rattle.grow.proofs.split.raise.Goals as goal

abbrev of : (g : given.Over) → Kind g.row.K.Denot
of g = kind g.K.Key.width g.K.Key.order g.K.Key.packed g.K.Key.unpacked

abbrev law : (g : given.Over) → Lawful (of g)
law g = record { ordered = g.met.K.Key.ordered; packing = g.met.K.Key.packing }

wide : (g : given.Over) → 80 ≤ (of g).form.places
wide g = lit≤ tt

pub returns-in_err-set-clause-raises : goal.returns-in_err-set-clause-raises
returns-in_err-set-clause-raises g c =
    rw (raised _ _ c.from_residual-in_err-set.ensures) (λ h.
    let w = way_of c.in_ok-top.top c.args.root in
    let a = c.in_ok-low.ensures h in
    let b = c.in_ok-top.ensures.takes a.ready in
    let d = c.in_err-set.ensures.keeps b.ready in
    record {
      call = λ p.
          let key = a.call p.room.room in
          let took = took_before _ _ _ _ key.same (b.call (free_before _ _ key.same (raise_free (of g) (law g) (wide g) _ w _ p))) in
          lost_later (raise_kin (of g) (law g) (wide g) _ w _ p _ took) (word_lost (raise_word (of g) (law g) (wide g) _ w _ p _ took) d.call d.deep);
      ready = d.ready;
    })

pub returns-in_err-insert_entry-clause-raises : goal.returns-in_err-insert_entry-clause-raises
returns-in_err-insert_entry-clause-raises g c =
    rw (raised _ _ c.from_residual-in_err-insert_entry.ensures) (λ h.
    let w = way_of c.in_ok-top.top c.args.root in
    let a = c.in_ok-low.ensures h in
    let b = c.in_ok-top.ensures.takes a.ready in
    let d = c.in_ok-set.ensures.keeps b.ready in
    let e = c.in_err-insert_entry.ensures d.ready in
    record {
      call = λ p.
          let key = a.call p.room.room in
          let took = took_before _ _ _ _ key.same (b.call (free_before _ _ key.same (raise_free (of g) (law g) (wide g) _ w _ p))) in
          lost_later (raise_kin_set (of g) (law g) (wide g) _ w _ p _ took _ _ d.call) (e.call (raise_open (of g) (law g) (wide g) _ w _ p _ took _ _ d.call));
      ready = e.ready;
    })

pub returns-in_err-divide-clause-raises : goal.returns-in_err-divide-clause-raises
returns-in_err-divide-clause-raises g c =
    rw (raised _ _ c.from_residual-in_err-divide.ensures) (λ h.
    let w = way_of c.in_ok-top.top c.args.root in
    let a = c.in_ok-low.ensures h in
    let b = c.in_ok-top.ensures.takes a.ready in
    let d = c.in_ok-set.ensures.keeps b.ready in
    let e = c.in_ok-insert_entry.ensures d.ready in
    let r = c.in_err-divide.ensures e.ready in
    let entry = coded (of g) _ _ _ _ c.of_child-entry.ensures.weight c.of_child-entry.ensures.key c.of_child-entry.ensures.child in
    record {
      call = λ p.
          let key = a.call p.room.room in
          let took = took_before _ _ _ _ key.same (b.call (free_before _ _ key.same (raise_free (of g) (law g) (wide g) _ w _ p))) in
          let put = e.call (raise_open (of g) (law g) (wide g) _ w _ p _ took _ _ d.call) in
          lost_later (raise_kin_put (of g) (law g) (wide g) _ w _ p _ took _ _ d.call _ _ _ refl (omega (arith, c.from.ensures)) key.value entry put)
          (r.call (raise_heavy (of g) (law g) (wide g) _ _ _ p _ took _ _ d.call _ _ _ refl (omega (arith, c.from.ensures)) key.value entry put));
      ready = r.ready;
    })

pub returns-clause-raises : goal.returns-clause-raises
returns-clause-raises g c = λ h.
    let w = way_of c.in_ok-top.top c.args.root in
    let a = c.in_ok-low.ensures h in
    let b = c.in_ok-top.ensures.takes a.ready in
    let d = c.in_ok-set.ensures.keeps b.ready in
    let e = c.in_ok-insert_entry.ensures d.ready in
    let r = c.in_ok-divide.ensures e.ready in
    let entry = coded (of g) _ _ _ _ c.of_child-entry.ensures.weight c.of_child-entry.ensures.key c.of_child-entry.ensures.child in
    record {
      call = λ p.
          let key = a.call p.room.room in
          let took = took_before _ _ _ _ key.same (b.call (free_before _ _ key.same (raise_free (of g) (law g) (wide g) _ w _ p))) in
          let put = e.call (raise_open (of g) (law g) (wide g) _ w _ p _ took _ _ d.call) in
          raised_by (of g) (law g) (wide g) _ _ _ p _ took _ _ d.call _ _ _ refl (omega (arith, c.from.ensures)) key.value entry put _ _ refl
          (r.call (raise_heavy (of g) (law g) (wide g) _ _ _ p _ took _ _ d.call _ _ _ refl (omega (arith, c.from.ensures)) key.value entry put));
      ready = r.ready;
    }
