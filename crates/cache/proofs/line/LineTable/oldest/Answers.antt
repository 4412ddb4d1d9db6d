use Rattle.std.proofs.Common.{◌≡◌, Some, length, get_or, rules, arith, refl, ap, ◌∙◌}
use Rattle.std.specs.Option.{MatchOption}
use Rattle.cache.proofs.Ages.{least_used}
use Rattle.cache.proofs.line.LineTable.oldest.Goals as goal

pub returns-clause-least : goal.returns-clause-least
returns-clause-least c k h =
    let ls = c.args.self.now.lines in
    let w = c.min_by_key.ensures.runs in
    let e = c.enumerate.ensures.runs w.0 w.0.seen w.1 in
    let q = e.1.0 in
    let i = c.iter.ensures.runs q q.seen in
    let from : q.from.rest.now ≡ ls.items = cc (e.1.1) in
    let all = i.1 (e.1.2.1 ∙ w.2) in
    let number : MatchOption c.min_by_key.result (c.map_or.result ≡ 0) (λ m. m.0 ≡ c.map_or.result) = search rules in
    least_used ls.items _ (λ x j k. search rules) w.0.at q.at w.0.len c.map_or.result _ (λ a r f k. refl) e.0
    (λ k d l. i.2 k d (omega (arith, e.1.2.0.0)) ∙ ap (λ xs. Some (get_or xs k d)) from) e.1.2.0.2 (omega (arith, all, e.1.2.0.0, ap length from))
    c.min_by_key.result (omega (arith, ls.ok.0)) w.3 number k (omega (arith, ls.ok.0, h))
