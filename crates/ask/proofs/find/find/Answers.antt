use Rattle.std.proofs.Common.{rules}
use Rattle.ask.proofs.Leaves.{told_find, kept_handle}
use Rattle.ask.proofs.find.find.Goals as goal

pub returns : goal.returns
returns g c = λ h.
    let a = c.in_ok-floor.ensures h in
    record {
      call = λ p.
          let t = a.call p in
          record {
            value_is = told_find g.met.K.Key.ordered _ _ _ _ p.ascending t.value_is (kept_handle g.K.Key.order _ _ _ (λ q b x. search rules) (λ q v x. search rules) _ _ _ c.filter.ensures c.map.ensures.cases);
            same = t.same;
          };
      ready = a.ready;
    }
