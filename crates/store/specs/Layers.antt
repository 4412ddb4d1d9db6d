-- What a layer over a store answers.
use Rattle.std.specs.Prelude.{Ok, Err, Result}
use Rattle.store.specs.declared.fault.Fault.{Fault}
use Rattle.store.specs.Faults.{deeper}

-- what a layer answers where the store below answered r
abbrev pub raised : {A : Type 0} → Result A Fault → Result A Fault
raised (Ok x) = Ok x
raised (Err f) = Err (deeper f)
