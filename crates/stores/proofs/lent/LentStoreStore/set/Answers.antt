use Rattle.std.proofs.Common.{rules}
use Rattle.stores.proofs.LentCalls.{put_word}
use Rattle.stores.proofs.lent.LentStoreStore.set.Goals as goal

pub returns-clause-keeps : goal.returns-clause-keeps
returns-clause-keeps g c f =
    let law = g.L.Layout.lawful c.args.self.now.layout in
    search (rules, put_word, law)
