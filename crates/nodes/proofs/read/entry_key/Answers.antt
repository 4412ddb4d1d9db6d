use Rattle.std.proofs.Common.{arith}
use Rattle.nodes.specs.Places.{form}
use Rattle.nodes.proofs.Readings.{read_all}
use Rattle.nodes.proofs.read.entry_key.Goals as goal

pub returns : goal.returns
returns g c h =
    let i = c.loop-j.invariant.1 h in
    record {
      call = λ p. record {
        value = read_all g.K.Key.unpacked (form g.K.Key.width) _ c.loop-j.j _ _ _ c.loop-j.invariant.0 (omega (arith, c.loop-j.invariant.0)) (i.call p).1 c.from_words.ensures;
        same = (i.call p).0;
      };
      ready = i.ready;
    }
