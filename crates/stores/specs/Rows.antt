-- A table: blocks whose words stand one block after another.
use Rattle.std.specs.Prelude.{◌≡◌, ℕ, ◌+◌, ◌*◌, ◌<◌, ◌≤◌, List}
use Rattle.store.specs.declared.fault.Fault.{Fault}
use Rattle.store.specs.declared.fault.Refusal.TheVariants.{Misfit}
use Rattle.store.specs.Faults.{own_fault}
use Rattle.stores.specs.Table.{most_blocks}
use Rattle.stores.specs.Plan.{Plan, StoreFits}

-- no block has such a width
pub record NoWidth (w : ℕ) (f : Fault) : Type 0 where
  pub fault : f ≡ own_fault Misfit 0
  pub no_width : 1 ≤ w → 512 < w

-- the plan of a table: nothing else is needed, and nothing but the width is refused
abbrev pub rows_plan : Plan Fault
rows_plan = record {
  at = λ w slot i. slot * w + i;
  most = most_blocks;
  apt = λ w c words. Unit {0};
  because = λ w marks words f. NoWidth w f;
  aside = λ f. ⊥;
}

-- what a table keeps: its capacity c is the most that its runs hold, and g blocks are granted
abbrev pub Fits : ℕ → ℕ → ℕ → List ℕ → List ℕ → Type 0
Fits w c g marks words = StoreFits rows_plan w c g marks words
