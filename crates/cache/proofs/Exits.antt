-- The exits of a step: what a `?` returns, and which failures cannot be.
use Rattle.std.proofs.Common.{◌≡◌, true, is_err, IsErrAnd, Ok, Err, Result, sym, ap, subst}
use Rattle.store.specs.declared.fault.Fault.{Fault}
use Rattle.store.specs.Faults.{deeper}
use Rattle.store.specs.Layers.{raised}

err_is : {T E : Type 0} (r : Result T E) (e : E) → IsErrAnd r (λ y. y ≡ e) → r ≡ Err e
err_is (Ok x) e h = absurd h
err_is (Err y) e h = ap Err h

-- what the exit of a `?` returns, where the error is passed on as it is
pub at_exit : {T E : Type 0} (r : Result T E) (e : E) → (is_err r ≡ true) × IsErrAnd r (λ y. y ≡ e) → r ≡ Err e
at_exit r e h = err_is r e h.1

-- a call that a layer raised as it was: what was told of its answer
pub was_ok : {A : Type 0} {x : A} (P : Result A Fault → Type 0) (r : Result A Fault) → Ok x ≡ raised r → P r → P (Ok x)
was_ok P (Ok y) e p = subst P (sym e) p
was_ok P (Err f) e p = absurd (cc)

-- a fault that a layer raised
pub was_err : {A : Type 0} {x : Fault} (P : Result A Fault → Type 0) (r : Result A Fault) → Err x ≡ raised r → P r → (f : Fault) × (deeper f ≡ x) × P (Err f)
was_err P (Ok y) e p = absurd (cc)
was_err P (Err f) e p = (f, cc, p)
