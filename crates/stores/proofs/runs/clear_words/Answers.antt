use Rattle.std.proofs.Common.{◌≡◌, ◌≤◌, ◌-◌, length, ◌++◌, take, drop, replicate, sym, ap, ◌∙◌, arith, length-take, length-drop}
use Rattle.std.proofs.lemmas.List.{take-append-drop}
use Rattle.stores.specs.Table.{cleared}
use Rattle.stores.specs.Laws.Clearing.{cleared_front, cleared_behind, cleared_cut}
use Rattle.stores.proofs.runs.clear_words.Goals as goal

pub returns : goal.returns
returns c =
    let run = c.args.words.now in
    let start = c.min-start.result in
    let n = c.min-end.result - start in
    let rest = drop start run in
    let zeros = c.fill.ensures.after (λ y e. e) in
    let left : length rest ≡ length run - start = length-drop start run in
    let inside : n ≤ length rest = omega (arith, left, c.min-end.ensures) in
    ap (λ ys. take start run ++ (ys ++ drop n rest)) (zeros ∙ ap (λ k. replicate k 0) (length-take n rest ∙ (omega (arith, inside))))
    ∙ ap (λ ys. take start run ++ ys) (sym (cleared_front n rest inside))
    ∙ sym (cleared_behind start n (take start run) rest (length-take start run ∙ omega (arith, c.min-start.ensures)))
    ∙ ap (λ ys. cleared start n ys) (take-append-drop start run)
    ∙ cleared_cut c.args.start c.args.n start c.min-end.result run (omega (arith, c.min-start.ensures)) (omega (arith, c.min-end.ensures, c.saturating_add.ensures, c.min-start.ensures))
