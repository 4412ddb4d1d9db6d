use Rattle.std.proofs.Common.{◌∙◌, sym, subst, arith}
use Rattle.copies.proofs.Exits.{raised, lost_later, kin_same}
use Rattle.nodes.specs.Nodes.{Has}
use Rattle.nodes.proofs.Rooms.{room_same}
use Rattle.held.specs.Held.{Kind, kind}
use Rattle.grow.proofs.Settling.{heavier_word, heavier_has, read_heavy, read_plain, read_split}
use Rattle.grow.proofs.split.settle.Given as given
use Rattle.grow.proofs.split.settle.Goals as goal

abbrev of : (g : given.Over) → Kind g.row.K.Denot
of g = kind g.K.Key.width g.K.Key.order g.K.Key.packed g.K.Key.unpacked

pub returns-then-weight-limit : goal.returns-then-weight-limit
returns-then-weight-limit g c = λ h.
    let a = c.in_ok-weight.ensures h in
    let b = c.in_ok-entry_key.ensures a.ready in
    let d = c.in_ok-replace_entry.ensures b.ready in
    record {
      call = λ due.
          let at = a.call (heavier_word (of g) _ _ due.child) in
          let key = b.call (room_same _ _ _ _ at.same due.child.parent.room) in
          read_plain (of g) _ _ _ _ _ _ _ _ _ at key c.smaller-low.ensures c.limit.ensures due _ _ (omega (arith, c.if-weight-limit.true)) c.of_child-entry.ensures.weight c.of_child-entry.ensures.key c.of_child-entry.ensures.child
          (d.call (subst (Has _ _ _) (sym (key.same ∙ at.same)) (heavier_has (of g) _ _ due.child)));
      ready = d.ready;
    }

pub returns-in_err-divide : goal.returns-in_err-divide
returns-in_err-divide g c =
    rw (raised _ _ c.from_residual-in_err-divide.ensures) (λ h.
    let a = c.in_ok-weight.ensures h in
    let b = c.in_ok-entry_key.ensures a.ready in
    let d = c.in_err-divide.ensures b.ready in
    record {
      call = λ due.
          let at = a.call (heavier_word (of g) _ _ due.child) in
          let key = b.call (room_same _ _ _ _ at.same due.child.parent.room) in
          lost_later (kin_same (key.same ∙ at.same)) (d.call (read_heavy (of g) _ _ _ _ _ _ _ _ _ at key c.smaller-low.ensures c.limit.ensures due (omega (arith, c.if-weight-limit.false))));
      ready = d.ready;
    })

pub returns : goal.returns
returns g c = λ h.
    let a = c.in_ok-weight.ensures h in
    let b = c.in_ok-entry_key.ensures a.ready in
    let d = c.in_ok-divide.ensures b.ready in
    record {
      call = λ due.
          let at = a.call (heavier_word (of g) _ _ due.child) in
          let key = b.call (room_same _ _ _ _ at.same due.child.parent.room) in
          read_split (of g) _ _ _ _ _ _ _ _ _ at key c.smaller-low.ensures c.limit.ensures due _ (d.call (read_heavy (of g) _ _ _ _ _ _ _ _ _ at key c.smaller-low.ensures c.limit.ensures due (omega (arith, c.if-weight-limit.false))));
      ready = d.ready;
    }
