use Rattle.std.proofs.Common.{rules}
use Rattle.plain.specs.Plain.{find as plain_find}
use Rattle.held.specs.Held.{kind}
use Rattle.index.proofs.Queries.{queried}
use Rattle.index.proofs.index.Index.find.Goals as goal

pub returns-clause-answers : goal.returns-clause-answers
returns-clause-answers g c =
    let κ = kind g.K.Key.width g.K.Key.order g.K.Key.packed g.K.Key.unpacked in
    queried κ g.S.Store.meaning g.S.Store.ready (plain_find g.K.Key.order c.args.key.now) c.args.self.now c.step.new.self c.step.result (search rules) c.step.ensures.remembers c.step.ensures.handle
