-- What every plan of a layout gives.
use Rattle.std.specs.Prelude.{ℕ, List}
use Rattle.store.specs.Meaning.{Sound}
use Rattle.stores.specs.Table.{laid}
use Rattle.stores.specs.Plan.{Plan, block_at, Suits, StoreFits}
use Rattle.stores.specs.Laws.Laid.{Lies, laid_sound}

-- a store that keeps its state has each word in a place of its own, and of runs that suit nothing is told that is
-- their fault
pub record Lawful {E : Type 0} (p : Plan E) : Type 0 where
  pub lies : {w c g : ℕ} {marks words : List ℕ} → StoreFits p w c g marks words → Lies (block_at p w) w c g marks words
  pub spared : {w marks words c : ℕ} {e : E} → Suits p w marks words c → p.because w marks words e → p.aside e

-- a store that keeps its state means a sound store
pub plan_sound : {E : Type 0} {p : Plan E} {w c g : ℕ} {marks words : List ℕ} → Lawful p → StoreFits p w c g marks words → Sound (laid (block_at p w) w c marks words)
plan_sound l f = laid_sound (l.lies f)
