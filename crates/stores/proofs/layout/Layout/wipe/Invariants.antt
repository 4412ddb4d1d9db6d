use Rattle.std.proofs.Common.{◌≡◌}
use Rattle.stores.specs.Table.{wiped}
use Rattle.stores.proofs.layout.Layout.wipe.Given as goal

abbrev pub invariant-loop-place : goal.invariant-loop-place
invariant-loop-place g l = l.words ≡ wiped ((g.Self.Layout.plan l.self).at l.width l.slot) l.place l.initial.words
