use Rattle.std.proofs.Common.{◌≤◌, length, ◌++◌, drop, replicate, sym, ap, ◌∙◌, arith, length-take}
use Rattle.stores.specs.Laws.Clearing.{cleared_front, cleared_top}
use Rattle.stores.proofs.runs.clear_marks.Goals as goal

pub returns : goal.returns
returns c =
    let run = c.args.marks.now in
    let end = c.min-end.result in
    let zeros = c.fill.ensures.after (λ y e. e) in
    let low : end ≤ length run = omega (arith, c.min-end.ensures) in
    ap (λ ys. ys ++ drop end run) (zeros ∙ ap (λ k. replicate k 0) (length-take end run ∙ (omega (arith, low))))
    ∙ sym (cleared_front end run low)
    ∙ cleared_top run c.args.n end (omega (arith, c.min-end.ensures))
