use Rattle.std.proofs.Common.{◌≡◌, ◌-◌, ◌≤◌}
use Rattle.store.specs.Calls.{Left}
use Rattle.nodes.specs.Places.{form}
use Rattle.nodes.specs.Nodes.{Room}
use Rattle.nodes.specs.Finds.{key_of}
use Rattle.nodes.proofs.Searches.{Between}
use Rattle.nodes.proofs.search.keys_up_to.Given as goal

-- the search began with all the keys before it
abbrev pub invariant-loop-low : goal.invariant-loop-low
invariant-loop-low g l =
    let m = g.S.Store.meaning l.initial.store in
    let φ = form g.K.Key.width in
    (l.low ≤ l.high) × (l.high ≤ 80) × (g.S.Store.ready l.initial.store → Left (Room φ l.block m → l.initial.high ≡ m.words l.block 1 → (g.S.Store.meaning l.store ≡ m) × Between g.K.Key.order (key_of φ g.K.Key.unpacked (m.words l.block)) (m.words l.block 1) l.q l.low l.high) (g.S.Store.ready l.store))

abbrev pub decreases-loop-low : goal.decreases-loop-low
decreases-loop-low g l = l.high - l.low
