-- A line of a table, lent out.
use Rattle.std.specs.Prelude.{ℕ}
use Rattle.std.specs.Borrow.{Lends, MutBor, Fml}
use Rattle.std.specs.Vec.{with_item}
use Rattle.cache.specs.declared.line.Line.{Line}
use Rattle.cache.specs.declared.line.LineTable.{LineTable}
use Rattle.cache.specs.Lines.{later}
use Rattle.cache.specs.contracts.line.Line.{the_row as line_row}
use Rattle.cache.specs.contracts.line.LineTable.{the_row}

-- t with line i set to w
abbrev pub with_line : LineTable → ℕ → Line → LineTable
with_line t i w = record t { lines = with_item t.lines i w }

-- t with one use more counted
abbrev pub ticked : LineTable → LineTable
ticked t = record t { clock = later t.clock }

-- the table ends with line i as it was left behind r
abbrev pub LendsLine : MutBor LineTable → ℕ → MutBor Line → Fml
LendsLine t i r = Lends the_row line_row t r (with_line t.now i)

-- the same of a table that counts one use more
abbrev pub LendsUsed : MutBor LineTable → ℕ → MutBor Line → Fml
LendsUsed t i r = Lends the_row line_row t r (with_line (ticked t.now) i)
