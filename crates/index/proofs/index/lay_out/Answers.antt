use Rattle.std.proofs.Common.{◌≡◌, ◌≤◌, ◌∙◌, subst, inl, arith}
use Rattle.store.specs.Calls.{TakeDone}
use Rattle.store.specs.Meaning.{free, count}
use Rattle.nodes.specs.Places.{breadth}
use Rattle.held.specs.Held.{kind}
use Rattle.copies.proofs.Exits.{raised, lost_later}
use Rattle.held.proofs.Steps.{step_take, kin_step}
use Rattle.index.proofs.Creates.{laid, room_left, headroom, kin_two, no_reason}
use Rattle.index.proofs.index.lay_out.Goals as goal

pub returns-in_err-take_root : goal.returns-in_err-take_root
returns-in_err-take_root g c =
    rw (raised _ _ c.from_residual-in_err-take_root.ensures)
    (λ h.
    let κ = kind g.K.Key.width g.K.Key.order g.K.Key.packed g.K.Key.unpacked in
    let m = g.S.Store.meaning c.args.store.now in
    let u = g.S.Store.meaning c.take.new.self in
    let at = c.in_ok-at.at in
    let s = c.in_ok-stock.ensures.keeps h in
    let a = c.in_ok-at.ensures.keeps s.ready in
    let one : TakeDone m at u = subst (λ z. TakeDone z at u) s.call.same a.call in
    let two_free : 2 ≤ free m = omega (arith, s.call.granted, s.call.capacity, c.free.ensures) in
    let b = c.in_err-take_root.ensures.takes a.ready in
    record { call = λ _. inl (lost_later (kin_step m u _ _ (step_take m u at one)) (b.call (room_left κ at 0 m u one two_free))); ready = b.ready })

pub returns-in_err-put_header : goal.returns-in_err-put_header
returns-in_err-put_header g c =
    rw (raised _ _ c.from_residual-in_err-put_header.ensures)
    (λ h.
    let κ = kind g.K.Key.width g.K.Key.order g.K.Key.packed g.K.Key.unpacked in
    let m = g.S.Store.meaning c.args.store.now in
    let u = g.S.Store.meaning c.take.new.self in
    let at = c.in_ok-at.at in
    let s = c.in_ok-stock.ensures.keeps h in
    let a = c.in_ok-at.ensures.keeps s.ready in
    let one : TakeDone m at u = subst (λ z. TakeDone z at u) s.call.same a.call in
    let two_free : 2 ≤ free m = omega (arith, s.call.granted, s.call.capacity, c.free.ensures) in
    let v = g.S.Store.meaning c.take_root.new.store in
    let r = c.in_ok-take_root.field-0 in
    let b = c.in_ok-take_root.ensures.takes a.ready in
    let width : m.shape.width ≡ breadth κ.form = omega (arith, s.call.width, c.block_width.ensures) in
    let two = b.call (room_left κ at r m u one two_free) in
    let p = c.in_err-put_header.ensures b.ready in
    record { call = λ _. inl (lost_later (kin_two κ at r m u v one two) (p.call (headroom κ at r m u v (omega (arith, width)) one two))); ready = p.ready })

pub returns : goal.returns
returns g c h =
    let κ = kind g.K.Key.width g.K.Key.order g.K.Key.packed g.K.Key.unpacked in
    let m = g.S.Store.meaning c.args.store.now in
    let u = g.S.Store.meaning c.take.new.self in
    let v = g.S.Store.meaning c.take_root.new.store in
    let at = c.in_ok-at.at in
    let r = c.in_ok-take_root.field-0 in
    let law = g.S.Store.sound c.args.store.now h in
    let s = c.in_ok-stock.ensures.keeps h in
    let a = c.in_ok-at.ensures.keeps s.ready in
    let one : TakeDone m at u = subst (λ z. TakeDone z at u) s.call.same a.call in
    let b = c.in_ok-take_root.ensures.takes a.ready in
    let width : m.shape.width ≡ breadth κ.form = omega (arith, s.call.width, c.block_width.ensures) in
    let none : count m ≡ 0 = omega (arith, s.call.granted) in
    let two_free : 2 ≤ free m = omega (arith, s.call.granted, s.call.capacity, c.free.ensures) in
    let two = b.call (room_left κ at r m u one two_free) in
    let p = c.in_ok-put_header.ensures b.ready in
    let e = p.call (headroom κ at r m u v (omega (arith, width)) one two) in
    let all = laid κ at r m u v _ law (omega (arith, width)) none one two e in
    record {
      call = λ _. record {
        reason = no_reason κ m width none two_free;
        done = record { holds = all.0; is_up = all.1 ∙ one.was_up; same_shape = all.2; same_below = all.3 };
      };
      ready = p.ready;
    }
