use Rattle.std.proofs.Common.{arith, rules}
use Rattle.held.specs.Held.{Kind, kind, Lawful}
use Rattle.ask.proofs.Ranks.{rooted_after, within_told, within_zero}
use Rattle.ask.proofs.report.count_within.Given as given
use Rattle.ask.proofs.report.count_within.Goals as goal

abbrev of : (g : given.Over) → Kind g.row.K.Denot
of g = kind g.K.Key.width g.K.Key.order g.K.Key.packed g.K.Key.unpacked

abbrev law : (g : given.Over) → Lawful (of g)
law g = record { ordered = g.met.K.Key.ordered; packing = g.met.K.Key.packing }

pub returns-then-is_gt : goal.returns-then-is_gt
returns-then-is_gt g c = λ h. record { call = λ p. within_zero (of g) (law g) _ _ _ _ (search rules); ready = h }

pub returns : goal.returns
returns g c = λ h.
    let a = c.in_ok-below.ensures h in
    let b = c.in_ok-up_to.ensures a.ready in
    record {
      call = λ p.
          let x = a.call p in
          within_told (of g) (law g) _ _ _ _ _ _ _ _ _ p x (b.call (rooted_after (of g) _ _ _ x.same p)) (omega (arith, c.saturating_sub.ensures));
      ready = b.ready;
    }
