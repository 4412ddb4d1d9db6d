use Rattle.std.proofs.Common.{rules}
use Rattle.stores.proofs.LentCalls.{made_fresh}
use Rattle.stores.proofs.lent.LentStore.fresh.Goals as goal

pub returns : goal.returns
returns g c = made_fresh g.L.Layout.plan (g.L.Layout.lawful c.args.runs.layout) c.in_ok-store.ensures (search rules)
