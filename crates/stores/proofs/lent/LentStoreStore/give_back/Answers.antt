use Rattle.std.proofs.Common.{sym, arith}
use Rattle.stores.proofs.LentCalls.{gave_block}
use Rattle.stores.proofs.lent.LentStoreStore.give_back.Goals as goal

pub returns-clause-keeps : goal.returns-clause-keeps
returns-clause-keeps g c f = gave_block g.L.Layout.plan c.args.self.now (g.L.Layout.lawful c.args.self.now.layout) f (sym c.if-not-has.ensures) (omega arith) c.remove.ensures
