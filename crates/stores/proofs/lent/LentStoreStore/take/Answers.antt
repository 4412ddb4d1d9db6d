use Rattle.std.proofs.Common.{arith, rules}
use Rattle.stores.proofs.LentCalls.{none_left, took_block, marked}
use Rattle.stores.proofs.lent.LentStoreStore.take.Goals as goal

pub returns-in_default-clause-keeps : goal.returns-in_default-clause-keeps
returns-in_default-clause-keeps g c =
    let law = g.L.Layout.lawful c.args.self.now.layout in
    λ f. search (rules, none_left, law)

pub returns-clause-keeps : goal.returns-clause-keeps
returns-clause-keeps g c f = took_block g.L.Layout.plan c.args.self.now (g.L.Layout.lawful c.args.self.now.layout) f c.in-Some.slot _ (omega arith) c.in-Some.ensures c.grant.ensures

pub returns-clause-runs : goal.returns-clause-runs
returns-clause-runs g c = marked g.L.Layout.plan c.in-Some.slot _ (omega arith) c.grant.ensures
