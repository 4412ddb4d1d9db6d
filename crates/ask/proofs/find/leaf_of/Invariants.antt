use Rattle.std.proofs.Common.{◌≡◌}
use Rattle.store.specs.Calls.{Left}
use Rattle.held.specs.Held.{kind}
use Rattle.held.specs.Roots.{Rooted}
use Rattle.ask.proofs.Leaves.{Below}
use Rattle.ask.proofs.find.leaf_of.Given as goal

abbrev pub invariant-loop-node : goal.invariant-loop-node
invariant-loop-node g l =
    let m = g.S.Store.meaning l.initial.store in
    let κ = kind g.K.Key.width g.K.Key.order g.K.Key.packed g.K.Key.unpacked in
    g.S.Store.ready l.initial.store →
    Left (Rooted κ l.fn.root m → (g.S.Store.meaning l.store ≡ m) × Below κ m l.fn.root l.key l.node) (g.S.Store.ready l.store)

abbrev pub decreases-loop-node : goal.decreases-loop-node
decreases-loop-node g l = l.node.level
