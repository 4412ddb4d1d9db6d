-- What work of several store calls promises.
use Rattle.std.specs.Prelude.{◌⊎◌, Ok, Err, Result}
use Rattle.store.specs.declared.fault.Fault.{Fault}
use Rattle.store.specs.Meaning.{Meaning}
use Rattle.store.specs.Calls.{Lost}

-- work that begins at m and leaves n: where P held at the start it is done, or the store said 'down'
abbrev pub Work : {A : Type 0} → (Meaning → Type 0) → (Meaning → A → Meaning → Type 0) → Meaning → Result A Fault → Meaning → Type 0
Work P Done m (Ok a) n = P m → Done m a n
Work P Done m (Err f) n = P m → Lost m f n

-- work that cannot be done: where P held at the start it is refused as Why says, or the store said 'down'
abbrev pub Fails : {A : Type 0} → (Meaning → Type 0) → (Meaning → Fault → Meaning → Type 0) → Meaning → Result A Fault → Meaning → Type 0
Fails P Why m (Ok a) n = P m → ⊥
Fails P Why m (Err f) n = P m → Lost m f n ⊎ Why m f n
