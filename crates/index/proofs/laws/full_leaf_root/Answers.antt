use Rattle.held.specs.Held.{kind}
use Rattle.index.proofs.Granted.{full_leaf}
use Rattle.index.proofs.laws.full_leaf_root.Goals as goal

pub returns : goal.returns
returns g c = full_leaf (kind g.K.Key.width g.K.Key.order g.K.Key.packed g.K.Key.unpacked) g.S.Store.meaning g.S.Store.ready g.S.Store.sound
