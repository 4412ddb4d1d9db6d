use Rattle.std.proofs.Common.{◌≡◌}
use Rattle.store.specs.Calls.{Left}
use Rattle.copies.specs.Blocks.{edit, filled}
use Rattle.nodes.specs.Places.{form}
use Rattle.nodes.specs.Nodes.{Room}
use Rattle.nodes.proofs.edit.put_key.Given as goal

abbrev pub invariant-loop-j : goal.invariant-loop-j
invariant-loop-j g l =
    let m = g.S.Store.meaning l.initial.store in
    let φ = form g.K.Key.width in
    g.S.Store.ready l.initial.store → Left (Room φ l.block m → g.S.Store.meaning l.store ≡ edit m l.block (filled l.at (g.K.Key.packed l.key) l.j)) (g.S.Store.ready l.store)
