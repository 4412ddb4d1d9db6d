-- Keys in words.
use Rattle.std.specs.Prelude.{ℕ, List, ◌++◌, codes, decimal}
use Rattle.keys.specs.declared.checkpoint.Checkpoint.{Checkpoint}

-- a checkpoint's case and step, with a space between
abbrev pub spelled : Checkpoint → List ℕ
spelled c = decimal c.case ++ (codes " " ++ decimal c.step)
