-- The marks of an update, by level.
use Rattle.std.specs.Prelude.{ℕ, zero, suc, List, ◌++◌}
use Rattle.tree.specs.declared.mark.Mark.{Mark}
use Rattle.tree.specs.declared.mark.Mark.TheVariants.{Nothing}
use Rattle.tree.specs.Letters.{letter_of}
use Rattle.balance.specs.declared.marks.Marks.{Marks}

-- the mark at level j; there is none above level 4
abbrev pub mark_at : Marks → ℕ → Mark
mark_at marks zero = marks.level0
mark_at marks (suc zero) = marks.level1
mark_at marks (suc (suc zero)) = marks.level2
mark_at marks (suc (suc (suc zero))) = marks.level3
mark_at marks (suc (suc (suc (suc zero)))) = marks.level4
mark_at marks (suc (suc (suc (suc (suc j))))) = Nothing

-- a letter for each level, the leaves first
abbrev pub letters : Marks → List ℕ
letters m = letter_of m.level0 ++ (letter_of m.level1 ++ (letter_of m.level2 ++ (letter_of m.level3 ++ letter_of m.level4)))
