-- Where a word stands, or why there is none.
use Rattle.std.specs.Prelude.{◌≡◌, ℕ, ◌<◌, ◌≤◌, true, cond, List, Ok, Err, Result}
use Rattle.store.specs.declared.fault.Fault.{Fault}
use Rattle.store.specs.declared.fault.Refusal.TheVariants.{NotGranted, Outside}
use Rattle.store.specs.Faults.{own_fault}
use Rattle.stores.specs.Table.{in_use}

-- the word at place p of block b stands at i
pub record Found (at : ℕ → ℕ → ℕ) (w c : ℕ) (marks : List ℕ) (b p i : ℕ) : Type 0 where
  pub granted : in_use c marks b ≡ true
  pub within : p < w
  pub at_is : i ≡ at b p

-- block b is not granted, or the place p is past its width
pub record Missed (w c : ℕ) (marks : List ℕ) (b p : ℕ) (f : Fault) : Type 0 where
  pub fault : f ≡ own_fault (cond (in_use c marks b) Outside NotGranted) b
  pub past : in_use c marks b ≡ true → w ≤ p

-- either of the two
abbrev pub Located : (ℕ → ℕ → ℕ) → ℕ → ℕ → List ℕ → ℕ → ℕ → Result ℕ Fault → Type 0
Located at w c marks b p (Ok i) = Found at w c marks b p i
Located at w c marks b p (Err f) = Missed w c marks b p f
