-- What a layout of words says of itself, and what a store over it keeps.
use Rattle.std.specs.Prelude.{◌≡◌, ℕ, ◌-◌, ◌<◌, ◌≤◌, List, length, Ok, Err, Result}
use Rattle.store.specs.declared.fault.Fault.{Fault}
use Rattle.store.specs.declared.fault.Refusal.TheVariants.{Misfit}
use Rattle.store.specs.Faults.{own_fault}
use Rattle.store.specs.Meaning.{limit, count_to}
use Rattle.stores.specs.Table.{in_use}

-- of blocks of w words in so many marks and words: `at w slot i` is where the word at place i of the block in a slot
-- stands, `most w marks words` the capacity, `apt w c words` what else c such blocks need, `because w marks words e`
-- why there is no store with the cause e, and `aside e` that the cause e is no fault of the runs
pub record Plan (E : Type 0) : Type 1 where
  pub at : ℕ → ℕ → ℕ → ℕ
  pub most : ℕ → ℕ → ℕ → ℕ
  pub apt : ℕ → ℕ → ℕ → Type 0
  pub because : ℕ → ℕ → ℕ → E → Type 0
  pub aside : E → Type 0

-- where the word at place i of block b stands
abbrev pub block_at : {E : Type 0} → Plan E → ℕ → ℕ → ℕ → ℕ
block_at p w b i = p.at w (b - 1) i

-- c blocks of w words are the most that so many marks and words hold, and all that they need is there
pub record Suits {E : Type 0} (p : Plan E) (w marks words c : ℕ) : Type 0 where
  pub wide : 1 ≤ w
  pub narrow : w ≤ 512
  pub whole : c ≡ p.most w marks words
  pub apt : p.apt w c words

-- what measuring runs for blocks of w words tells
abbrev pub Measured : {E : Type 0} → Plan E → ℕ → ℕ → ℕ → Result ℕ E → Type 0
Measured p w marks words (Ok c) = Suits p w marks words c
Measured p w marks words (Err e) = p.because w marks words e

-- what a look at a width tells
abbrev pub WidthOr : ℕ → Result (Unit {0}) Fault → Type 0
WidthOr w (Ok _) = (1 ≤ w) × (w ≤ 512)
WidthOr w (Err f) = (f ≡ own_fault Misfit 0) × (1 ≤ w → 512 < w)

-- what a store keeps: its marks and words suit its capacity c, and g blocks are granted
pub record StoreFits {E : Type 0} (p : Plan E) (w c g : ℕ) (marks words : List ℕ) : Type 0 where
  pub wide : 1 ≤ w
  pub narrow : w ≤ 512
  pub whole : c ≡ p.most w (length marks) (length words)
  pub apt : p.apt w c (length words)
  pub counted : g ≡ count_to (in_use c marks) limit
