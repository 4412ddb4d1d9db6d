use Rattle.std.proofs.Common.{◌≡◌, ◌*◌, ◌≤◌, take}
use Rattle.store.specs.Calls.{Left}
use Rattle.nodes.specs.Places.{form}
use Rattle.balance.specs.Cuts.{Totalled, weights, sum}
use Rattle.balance.proofs.cut.split_point.Given as goal

abbrev pub invariant-loop-kept : goal.invariant-loop-kept
invariant-loop-kept g l =
    let m = g.S.Store.meaning l.initial.store in
    let φ = form g.K.Key.width in
    (2 * l.passed ≤ l.all) × (g.S.Store.ready l.initial.store → Left (Totalled φ l.node.block l.node.level l.n l.all m → (g.S.Store.meaning l.store ≡ m) × (l.passed ≡ sum (take l.kept (weights φ l.node.level (m.words l.node.block))))) (g.S.Store.ready l.store))
