-- What a pile through a cache leaves whose table of lines was made.
use Rattle.std.proofs.Common.{ℕ, Ok, Err, Result}
use Rattle.store.specs.declared.fault.Unmade.{Unmade}
use Rattle.stores.specs.declared.lent.Runs.{Runs}
use Rattle.piles.specs.Lined.{Lines, Lined}
use Rattle.piles.specs.Lined.LinesFail.{with_table}

-- an answer with a table of n lines at hand
pub with_lines : {L : Type 0} {n : ℕ} (Rel : Result ℕ Unmade → Runs L → Type 0) (a : Runs L) {b : Runs L} → Lines n → (g : Result ℕ Unmade) → Rel g b → Lined n Rel a g b
with_lines Rel a l (Ok v) u = (l, u)
with_lines Rel a l (Err e) u = with_table l u
