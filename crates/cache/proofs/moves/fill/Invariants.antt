use Rattle.std.proofs.Common.{◌≡◌, ◌≤◌, true, vec_items, vec_len}
use Rattle.cache.proofs.Parts.{Fronts}
use Rattle.cache.proofs.moves.fill.Given as goal

abbrev pub invariant-loop-i : goal.invariant-loop-i
invariant-loop-i g l =
    (vec_len l.line.words ≡ l.i)
    × (l.line.block ≡ l.initial.line.block)
    × (l.line.used ≡ l.initial.line.used)
    × (g.S.Store.ready l.initial.store
    → g.S.Store.ready l.store
    × ((g.S.Store.meaning l.initial.store).granted l.block ≡ true
    → l.width ≤ (g.S.Store.meaning l.initial.store).shape.width
    → (g.S.Store.meaning l.store ≡ g.S.Store.meaning l.initial.store) × Fronts l.i (vec_items l.line.words) ((g.S.Store.meaning l.initial.store).words l.block)))
