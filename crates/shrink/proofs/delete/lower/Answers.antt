use Rattle.std.proofs.Common.{ap, sym, subst, refl, ◌∙◌, arith, true≢false}
use Rattle.nodes.proofs.Rooms.{countable, room_same}
use Rattle.held.specs.Held.{Kind, kind}
use Rattle.shrink.proofs.Lowering.{limit_is, in_range, low_leaf, low_more, one_low, one_high, one_few, one_block, way_given}
use Rattle.shrink.proofs.delete.lower.Given as given
use Rattle.shrink.proofs.delete.lower.Goals as goal
use Rattle.shrink.proofs.delete.lower.Goals.{then-root-eq0-via-then-root-eq0, then-root-eq0-via-else-root-eq0+in_ok-count+then-branch-ne1, then-not-contains-via-then-not-contains, then-not-contains-via-else-not-contains+then-keys-limit}

abbrev of : (g : given.Over) → Kind g.row.K.Denot
of g = kind g.K.Key.width g.K.Key.order g.K.Key.packed g.K.Key.unpacked

pub returns-then-root-eq0 : goal.returns-then-root-eq0
returns-then-root-eq0 g c = λ h. elim c.then-root-eq0.branch [
  | then-root-eq0-via-then-root-eq0 w ↦ record { call = λ p. low_leaf (of g) c.args.tree _ _ w.if-root-eq0.true (ap g.S.Store.meaning w.store-is) p; ready = subst g.S.Store.ready (sym w.store-is) h }
  | then-root-eq0-via-else-root-eq0+in_ok-count+then-branch-ne1 w ↦
      let n = w.in_ok-count.ensures.counts h in
      record {
        call = λ p.
            let a = n.call (countable g.K.Key.width _ _ p.room.few p.room.room) in
            low_more (of g) c.args.tree _ _ _ a.value w.if-branch-ne1.true (ap g.S.Store.meaning w.store-is ∙ a.same) p;
        ready = subst g.S.Store.ready (sym w.store-is) n.ready;
      }
]

pub returns-then-not-contains : goal.returns-then-not-contains
returns-then-not-contains g c = λ h.
    let n = c.in_ok-count.ensures.counts h in
    let f = c.in_ok-block.ensures n.ready in
    record {
      call = λ p.
          let a = n.call (countable g.K.Key.width _ _ p.room.few p.room.room) in
          let one = sym a.value ∙ c.if-branch-ne1.false in
          let b = f.call (room_same _ _ _ _ a.same p.room.room) in
          let is = one_block (of g) _ _ c.if-root-eq0.false one p _ _ _ a.same b in
          elim c.then-not-contains.branch [
            | then-not-contains-via-then-not-contains w ↦
                let low = one_low (of g) _ _ c.if-root-eq0.false one p (g.S.Store.sound _ h).none_at_zero in
                let high = one_high (of g) _ _ c.if-root-eq0.false one p in
                let all = in_range _ _ _ _ _ c.contains.ensures.value c.new.ensures.start (c.new.ensures.end ∙ sym limit_is) c.new.ensures.exhausted (omega (arith, is, low)) (omega (arith, is, high)) in
                absurd (true≢false (sym all ∙ w.if-not-contains.true))
            | then-not-contains-via-else-not-contains+then-keys-limit w ↦ absurd (omega (arith, w.if-keys-limit.true, w.limit.ensures, one_few (of g) _ _ c.if-root-eq0.false one p))
          ];
      ready = f.ready;
    }

pub returns : goal.returns
returns g c = λ h.
    let n = c.in_ok-count.ensures.counts h in
    let f = c.in_ok-block.ensures n.ready in
    let v = c.in_ok-give_back.ensures.keeps f.ready in
    record {
      call = λ p.
          let a = n.call (countable g.K.Key.width _ _ p.room.few p.room.room) in
          let one = sym a.value ∙ c.if-branch-ne1.false in
          let b = f.call (room_same _ _ _ _ a.same p.room.room) in
          way_given (of g) _ _ c.if-root-eq0.false one p _ _ _ _ _ a.same b refl v.call;
      ready = v.ready;
    }
