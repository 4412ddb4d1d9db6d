use Rattle.held.specs.Held.{kind}
use Rattle.index.proofs.Granted.{granted_open}
use Rattle.index.proofs.laws.blocks_granted.Goals as goal

pub returns : goal.returns
returns g c = granted_open (kind g.K.Key.width g.K.Key.order g.K.Key.packed g.K.Key.unpacked) g.S.Store.meaning g.S.Store.ready g.S.Store.sound
