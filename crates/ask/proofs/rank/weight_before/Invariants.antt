use Rattle.std.proofs.Common.{◌≡◌, ◌*◌, ◌^◌, ◌≤◌, take}
use Rattle.store.specs.Calls.{Left}
use Rattle.nodes.specs.Places.{form}
use Rattle.balance.specs.Cuts.{weights, sum}
use Rattle.ask.specs.Ranks.{Begun}
use Rattle.ask.proofs.rank.weight_before.Given as goal

abbrev pub invariant-loop-i : goal.invariant-loop-i
invariant-loop-i g l =
    let m = g.S.Store.meaning l.initial.store in
    let φ = form g.K.Key.width in
    (l.all ≤ l.i * 2 ^ 40) × (g.S.Store.ready l.initial.store → Left (Begun φ l.node.block l.node.level l.n m → (g.S.Store.meaning l.store ≡ m) × (l.all ≡ sum (take l.i (weights φ l.node.level (m.words l.node.block))))) (g.S.Store.ready l.store))
