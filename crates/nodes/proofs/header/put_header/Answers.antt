use Rattle.std.proofs.Common.{arith}
use Rattle.store.specs.Meaning.{with_at}
use Rattle.copies.specs.Blocks.{Word, Edited, filled}
use Rattle.copies.proofs.Exits.{kin_edit, set_work, work_on}
use Rattle.copies.proofs.Edits.{filled_none, filled_more, filled_step}
use Rattle.nodes.specs.Headers.{Headroom, header_words}
use Rattle.nodes.proofs.Heads.{head_place}
use Rattle.nodes.proofs.header.put_header.Goals as goal

pub returns : goal.returns
returns g c h =
    let b = c.args.block in
    let ws = header_words g.K.Key.width c.args.header.now in
    let m = g.S.Store.meaning c.args.store.now in
    let s = c.in_ok-set.ensures.keeps h in
    let s' = c.in_ok-set-2.ensures.keeps s.ready in
    let s'' = c.in_ok-set-3.ensures.keeps s'.ready in
    let e = c.set-4.ensures.keeps s''.ready in
    let one = filled_more m _ _ b 0 0 _ ws (omega arith) (filled_none m b 0 ws) s.call in
    let two = filled_more m _ _ b 0 1 _ ws (omega arith) one s'.call in
    let three = filled_more m _ _ b 0 2 _ ws (omega arith) two s''.call in
    record {
      call = work_on (Headroom b) (Word b 3) (Edited b (filled 0 ws 4)) (Edited b (λ β. with_at β 3 c.args.header.now.keys)) m _ _ _
          (λ p. head_place m _ b 3 _ (omega arith) three p)
          (λ p. kin_edit _ _ _ _ three)
          (λ _ p y. filled_step m _ _ b 0 3 _ ws (omega arith) three y)
          (set_work _ _ _ _ _ _ e.call e.deep);
      ready = e.ready;
    }
