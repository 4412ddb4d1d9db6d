-- Marks as letters.
use Rattle.std.specs.Prelude.{ℕ, List, codes}
use Rattle.tree.specs.declared.mark.Mark.{Mark}
use Rattle.tree.specs.declared.mark.Mark.TheVariants.{Nothing, Split, Merge, MergeSplit}

-- a mark's letter
abbrev pub letter_of : Mark → List ℕ
letter_of Nothing = codes "-"
letter_of Split = codes "S"
letter_of Merge = codes "M"
letter_of MergeSplit = codes "B"
