-- How an update is refused, or done.
use Rattle.std.specs.Prelude.{◌≡◌, ℕ, ◌⊎◌, Some, None, Ok, Err, Option, Result}
use Rattle.store.specs.Meaning.{Meaning}
use Rattle.store.specs.Calls.{Lost}
use Rattle.store.specs.Faults.{number_of}
use Rattle.store.specs.declared.fault.Fault.{Fault}
use Rattle.store.specs.declared.fault.Refusal.{Refusal}

-- a refusal of the index itself names no block, and arises in no layer below
abbrev pub own_refusal : Refusal → Fault
own_refusal r = record { refusal = r; block = 0; depth = 0 }

-- refused by the index itself for the reason of this number, and nothing changed
pub record RefusedFor (why : Option ℕ) (m : Meaning) (f : Fault) (n : Meaning) : Type 0 where
  pub reason : why ≡ Some (number_of f.refusal)
  pub own : f ≡ own_refusal f.refusal
  pub same : n ≡ m

-- done, since there was no reason to refuse it
pub record Accepted (why : Option ℕ) (Done : Type 0) : Type 0 where
  pub reason : why ≡ None
  pub done : Done

-- An update that begins at m and leaves n: where P held at the start it is refused for the reason that `why` gives, or done if that
-- gives none, or the store said 'down'.
abbrev pub Decided : {A : Type 0} → (Meaning → Type 0) → (Meaning → Option ℕ) → (Meaning → A → Meaning → Type 0) → Meaning → Result A Fault → Meaning → Type 0
Decided P why Done m (Ok a) n = P m → Accepted (why m) (Done m a n)
Decided P why Done m (Err f) n = P m → Lost m f n ⊎ RefusedFor (why m) m f n
