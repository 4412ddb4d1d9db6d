use Rattle.std.proofs.Common.{◌≡◌, ◌+◌}
use Rattle.store.specs.Calls.{Left}
use Rattle.copies.specs.Blocks.{Copyable}
use Rattle.copies.proofs.Copies.{run}
use Rattle.copies.proofs.copy.copy_run.Given as goal

abbrev pub invariant-loop-i : goal.invariant-loop-i
invariant-loop-i g l =
    let m = g.S.Store.meaning l.initial.store in
    g.S.Store.ready l.initial.store → Left (Copyable l.from l.to l.len m → g.S.Store.meaning l.store ≡ run m l.from l.to l.to.at (l.to.at + l.i)) (g.S.Store.ready l.store)

abbrev pub invariant-loop-i-else-forward : goal.invariant-loop-i-else-forward
invariant-loop-i-else-forward g l =
    let m = g.S.Store.meaning l.initial.store in
    g.S.Store.ready l.initial.store → Left (Copyable l.from l.to l.len m → g.S.Store.meaning l.store ≡ run m l.from l.to (l.to.at + l.i) (l.to.at + l.len)) (g.S.Store.ready l.store)
