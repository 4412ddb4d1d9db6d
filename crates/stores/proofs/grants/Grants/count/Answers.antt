use Rattle.std.proofs.Common.{ℕ, not, nat_eq, ◌∙◌, refl, rules, arith}
use Rattle.std.proofs.lemmas.Iterator.{YieldsList-from_slice, YieldsList-from_take}
use Rattle.std.proofs.lemmas.Iterator.Consumers.{YieldsList-from_filter, count_from_yields_List}
use borrow.Author.Tests.{tests}
use Rattle.stores.specs.Laws.Laid.{count_front}
use Rattle.stores.proofs.grants.Grants.count.Goals as goal

pub returns : goal.returns
returns c =
    let s = c.args.self.now in
    let marks = s.marks.now in
    let test : ℕ → _ = λ m. not (nat_eq m 0) in
    let n = count_from_yields_List c.filter.result c.count.result c.count.ensures.ran (YieldsList-from_filter _ test (YieldsList-from_take s.capacity (YieldsList-from_slice marks (cc)) (cc)) c.filter.ensures.closure (λ x b q k. search (rules, tests))) in
    n ∙ count_front s.capacity marks test (λ m. refl) s.capacity (omega arith)
