use Rattle.std.proofs.Common.{arith}
use Rattle.held.specs.Held.{Kind, kind, Lawful}
use Rattle.ask.proofs.Ranks.{rooted_after}
use Rattle.ask.proofs.Reporting.{reported, halted}
use Rattle.ask.proofs.report.report.Given as given
use Rattle.ask.proofs.report.report.Goals as goal

abbrev of : (g : given.Over) → Kind g.row.K.Denot
of g = kind g.K.Key.width g.K.Key.order g.K.Key.packed g.K.Key.unpacked

abbrev law : (g : given.Over) → Lawful (of g)
law g = record { ordered = g.met.K.Key.ordered; packing = g.met.K.Key.packing }

pub returns-in-Ok-clause-reports : goal.returns-in-Ok-clause-reports
returns-in-Ok-clause-reports g c = λ even h.
    let a = c.in_ok-all.ensures h in
    let x = c.in-Ok.ensures.writes a.ready in
    record {
      call = λ p.
          let n = a.call p in
          reported (of g) (law g) _ _ _ _ _ _ _ _ _ _ _ even p n (omega (arith, c.min-fit.ensures)) c.in-Ok.ensures.within _ (omega arith) (x.call (rooted_after (of g) _ _ _ n.same p));
      ready = x.ready;
    }

pub returns-in-Err-clause-reports : goal.returns-in-Err-clause-reports
returns-in-Err-clause-reports g c = λ even h.
    let a = c.in_ok-all.ensures h in
    let x = c.in-Err.ensures.writes a.ready in
    record {
      call = λ p.
          let n = a.call p in
          halted (of g) (law g) _ _ _ _ _ _ _ _ _ _ _ even p n (omega (arith, c.min-fit.ensures)) c.in-Err.ensures.within _ _ (omega arith) (x.call (rooted_after (of g) _ _ _ n.same p));
      ready = x.ready;
    }
