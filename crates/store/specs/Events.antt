-- A store call with its answer, as a store that keeps a record of its calls notes it.
use Rattle.std.specs.Prelude.{ℕ, Result}
use Rattle.store.specs.declared.blocks.Stock.{Stock}
use Rattle.store.specs.declared.fault.Fault.{Fault}

pub data Event : Type 0 where
  asked_take : Result ℕ Fault → Event
  asked_give : ℕ → Result (Unit {0}) Fault → Event
  asked_get : ℕ → ℕ → Result ℕ Fault → Event
  asked_set : ℕ → ℕ → ℕ → Result (Unit {0}) Fault → Event
  asked_stock : Result Stock Fault → Event
