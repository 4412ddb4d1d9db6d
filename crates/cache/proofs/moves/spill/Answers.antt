use Rattle.std.proofs.Common.{get_or, ap, ◌∙◌, arith}
use Rattle.cache.proofs.Parts.{part_none, part_more, part_all}
use Rattle.cache.proofs.moves.spill.Goals as goal

pub loop-i-init : goal.loop-i-init
loop-i-init g c r = (r, λ _. part_none _ _ c.args.line.now.words.items)

pub loop-i-preserved : goal.loop-i-preserved
loop-i-preserved g c r =
    let l = c.args.line.now in
    let m = g.S.Store.meaning c.args.store.now in
    let i = c.loop-i.invariant r in
    let e = c.in_ok-set.ensures.keeps i.0 in
    (e.ready, λ w. part_more m l.words.items (i.1 w) (ap (λ ws. get_or ws c.loop-i.i 0) c.deref-word-items.ensures.value) e.call)

pub returns : goal.returns
returns g c r =
    let l = c.args.line.now in
    let i = c.loop-i.invariant r in
    let s = g.S.Store.sound c.args.store.now r in
    record {
      call = λ w. i.1 w ∙ part_all l.block l.words.items c.loop-i.i s w.wide (omega (arith, l.words.ok.0, c.loop-i-test.false));
      ready = i.0;
    }
