use Rattle.std.proofs.Common.{inl, arith}
use Rattle.store.specs.Meaning.{free}
use Rattle.copies.proofs.Exits.{raised, lost_later}
use Rattle.tree.specs.Tree.{drops}
use Rattle.held.specs.Held.{Lawful, kind}
use Rattle.held.specs.Roots.{tree_of}
use Rattle.held.proofs.Steps.{kin_step}
use Rattle.index.proofs.Updates.{head_room, rewritten, taken_up}
use Rattle.index.proofs.index.take_out.Goals as goal

pub returns-in_err-updated : goal.returns-in_err-updated
returns-in_err-updated g c = rw (raised _ _ c.from_residual.ensures) (λ h. let a = c.in_err-updated.ensures h in record { call = λ holds. a.call holds.stands; ready = a.ready })

pub returns-in_err-put_header : goal.returns-in_err-put_header
returns-in_err-put_header g c =
    let κ = kind g.K.Key.width g.K.Key.order g.K.Key.packed g.K.Key.unpacked in
    let law : Lawful κ = record { ordered = g.met.K.Key.ordered; packing = g.met.K.Key.packing } in
    let u = drops c.args.key.now in
    let m = g.S.Store.meaning c.args.store.now in
    let v = g.S.Store.meaning c.delete.new.store in
    rw (raised _ _ c.from_residual-in_err-put_header.ensures)
    (λ h.
    let a = c.in_ok-updated.ensures h in
    let p = c.in_err-put_header.ensures a.ready in
    record {
      call = λ holds.
          let x = a.call holds.stands in
          inl (lost_later (kin_step m v _ _ x.done.step) (p.call (head_room κ law c.args.at c.args.tree.header u m v c.in_ok-updated.updated holds x.done (omega arith))));
      ready = p.ready;
    })

pub returns : goal.returns
returns g c h =
    let κ = kind g.K.Key.width g.K.Key.order g.K.Key.packed g.K.Key.unpacked in
    let law : Lawful κ = record { ordered = g.met.K.Key.ordered; packing = g.met.K.Key.packing } in
    let u = drops c.args.key.now in
    let m = g.S.Store.meaning c.args.store.now in
    let v = g.S.Store.meaning c.delete.new.store in
    let n = g.S.Store.meaning c.put_header.new.store in
    let r = c.in_ok-updated.updated in
    let at = c.args.at in
    let head = c.args.tree.header in
    let a = c.in_ok-updated.ensures h in
    let p = c.in_ok-put_header.ensures a.ready in
    record {
      call = λ holds.
          let x = a.call holds.stands in
          record {
            reason = x.reason;
            done = rewritten κ law at head u m v r holds x.done n (taken_up κ u (free m) (tree_of κ m.words head) x.reason) (p.call (head_room κ law at head u m v r holds x.done (omega arith)));
          };
      ready = p.ready;
    }
