use Rattle.std.proofs.Common.{get_or, sym, refl}
use Rattle.paged.proofs.Checking.{seen_awry}
use Rattle.paged.proofs.frames.once_each.Goals as goal

pub returns-then-not-note : goal.returns-then-not-note
returns-then-not-note c =
    let map = c.args.map.now in
    let i = c.loop-frame.frame-index in
    seen_awry c.loop-frame.invariant.1 c.loop-frame.auto.seen (get_or map i 0) refl _ c.loop-frame-test.true (sym c.if-not-note.ensures.fresh)
