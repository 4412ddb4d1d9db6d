use Rattle.held.specs.Held.{kind}
use Rattle.held.proofs.Frames.{frame_node}
use Rattle.held.proofs.laws.known_by_its_blocks.Goals as goal

pub returns : goal.returns
returns g c = frame_node (kind g.K.Key.width g.K.Key.order g.K.Key.packed g.K.Key.unpacked)
