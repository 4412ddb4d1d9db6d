use Rattle.std.proofs.Common.{◌≤◌, length}
use Rattle.paged.proofs.Checking.{Seen}
use Rattle.paged.proofs.frames.once_each.Given as goal

abbrev pub invariant-loop-frame : goal.invariant-loop-frame
invariant-loop-frame l = (l.frame-index ≤ length l.map) × Seen l.map (length l.initial.seen) l.frame-index l.seen
