use Rattle.std.proofs.Common.{◌≡◌, vec_items}
use Rattle.cache.specs.Lines.{view}
use Rattle.cache.specs.Cache.{Whole}
use Rattle.cache.proofs.Parts.{part}
use Rattle.cache.proofs.moves.spill.Given as goal

abbrev pub invariant-loop-i : goal.invariant-loop-i
invariant-loop-i g l =
    g.S.Store.ready l.initial.store
    → g.S.Store.ready l.store
    × (Whole (g.S.Store.meaning l.initial.store) (view l.line) → g.S.Store.meaning l.store ≡ part (g.S.Store.meaning l.initial.store) l.line.block (vec_items l.line.words) l.i)
