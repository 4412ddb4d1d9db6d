use Rattle.std.proofs.Common.{◌≡◌, ℕ, ◌+◌, ◌<◌, length, get_or}
use Rattle.store.specs.Calls.{Left}
use Rattle.nodes.specs.Places.{form, key_at}
use Rattle.nodes.specs.Nodes.{Room}
use Rattle.nodes.proofs.read.entry_key.Given as goal

abbrev pub invariant-loop-j : goal.invariant-loop-j
invariant-loop-j g l =
    let m = g.S.Store.meaning l.initial.store in
    let φ = form g.K.Key.width in
    (length l.key ≡ g.K.Key.width) × (g.S.Store.ready l.initial.store → Left (Room φ l.block m → (g.S.Store.meaning l.store ≡ m) × ((x : ℕ) → x < l.j → get_or l.key x 0 ≡ m.words l.block (key_at φ l.i + x))) (g.S.Store.ready l.store))
