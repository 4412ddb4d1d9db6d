use Rattle.std.proofs.Common.{◌∙◌, arith}
use Rattle.nodes.specs.Places.{form}
use Rattle.nodes.proofs.Rooms.{room_same, countable}
use Rattle.balance.proofs.Weights.{counted, totalled, cut_before, summed_before, not_all, halved}
use Rattle.balance.proofs.cut.halve.Goals as goal

pub returns-then-cut-n : goal.returns-then-cut-n
returns-then-cut-n g c h =
    let a = c.in_ok-n.ensures.counts h in
    let b = c.in_ok-all.ensures.sums a.ready in
    let e = c.in_ok-cut.ensures.cuts b.ready in
    record {
      call = λ p.
          let n = a.call (countable g.K.Key.width _ _ p.mild.node.few p.mild.node.room) in
          let q = counted (form g.K.Key.width) _ _ _ _ _ n.same n.value p.mild in
          let s = b.call q in
          absurd (not_all _ _ _ _ _ _ _ n.value p (cut_before _ _ _ _ _ _ _ (s.same ∙ n.same) (e.call (totalled _ _ _ _ _ _ _ q s))) c.if-cut-n.true);
      ready = e.ready;
    }

pub returns : goal.returns
returns g c h =
    let a = c.in_ok-n.ensures.counts h in
    let b = c.in_ok-all.ensures.sums a.ready in
    let d = c.in_ok-cut.ensures.cuts b.ready in
    let e = c.in_ok-key.ensures d.ready in
    record {
      call = λ p.
          let n = a.call (countable g.K.Key.width _ _ p.mild.node.few p.mild.node.room) in
          let q = counted (form g.K.Key.width) _ _ _ _ _ n.same n.value p.mild in
          let s = b.call q in
          let r = cut_before _ _ _ _ _ _ _ (s.same ∙ n.same) (d.call (totalled _ _ _ _ _ _ _ q s)) in
          halved g.K.Key.unpacked _ _ _ _ _ _ _ _ _ _ _ _ n.value (summed_before _ _ _ _ _ _ _ n.same s).value r c.if-cut-n.false (omega arith) (omega arith) (e.call (room_same _ _ _ _ r.same p.mild.node.room));
      ready = e.ready;
    }
