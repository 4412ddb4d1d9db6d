use Rattle.std.proofs.Common.{◌+◌, ◌*◌, ◌≤◌, length}
use Rattle.store.specs.Calls.{Left}
use Rattle.held.specs.Held.{kind}
use Rattle.ask.specs.Writes.{lent, Stored}
use Rattle.ask.proofs.Reporting.{Going}
use Rattle.ask.proofs.report.+entries.Given as goal

abbrev pub decreases-write_entry : goal.decreases-write_entry
decreases-write_entry g l = 2 * l.node.level

abbrev pub decreases-write_entries : goal.decreases-write_entries
decreases-write_entries g l = 2 * l.node.level + 1

abbrev pub invariant-write_entries-loop-i : goal.invariant-write_entries-loop-i
invariant-write_entries-loop-i g l =
    let m = g.S.Store.meaning l.fn.store in
    let κ = kind g.K.Key.width g.K.Key.order g.K.Key.packed g.K.Key.unpacked in
    (l.written ≤ length l.keys)
    × (g.S.Store.ready l.fn.store → Left (Stored κ l.fn.node.level l.fn.node.block m → Going κ l.fn.node.level l.fn.node.block l.fn.from l.i l.n (lent l.fn.keys l.fn.handles l.fn.written) (lent l.keys l.handles l.written) m (g.S.Store.meaning l.store)) (g.S.Store.ready l.store))
