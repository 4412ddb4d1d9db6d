use Rattle.std.proofs.Common.{◌≡◌, ℕ, ◌≤◌, get_or, vec_items, vec_len, vec_capacity}
use Rattle.cache.specs.Lines.{views, ages_of, Clear}
use Rattle.cache.proofs.line.LineTable.new.Given as goal

abbrev pub invariant-loop : goal.invariant-loop
invariant-loop l =
    (vec_len l.made ≡ l.counter)
    × Clear (views (vec_items l.made))
    × (l.lines ≤ vec_capacity l.made)
    × ((k : ℕ) → get_or (ages_of (vec_items l.made)) k 0 ≡ 0)
