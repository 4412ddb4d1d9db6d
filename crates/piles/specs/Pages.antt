-- What a pile over a fresh paged store answers, and what it leaves in the runs.
use Rattle.std.specs.Prelude.{ℕ, min, cond, Result, nat_le}
use Rattle.store.specs.declared.fault.Fault.{Fault}
use Rattle.store.specs.declared.fault.Unmade.{Unmade}
use Rattle.store.specs.declared.fault.Unmade.TheVariants.{Refused}
use Rattle.stores.specs.declared.lent.Runs.{Runs}
use Rattle.stores.specs.Plan.{Plan}
use Rattle.paged.specs.declared.paged.Frames.{Frames}
use Rattle.paged.specs.Opened.{frames_plan}
use Rattle.piles.specs.Runs.{blocks_in, Served, Ran}
use Rattle.piles.specs.Lined.{Lined}

-- the plan of frames that a map names
abbrev pub frames : Frames → Plan Unmade
frames f = frames_plan f.map.now

-- under a cache over a quota of q blocks, over a paged store that was made
abbrev pub CachedPages : ℕ → ℕ → ℕ → Runs Frames → Result ℕ Fault → Runs Frames → Type 0
CachedPages q w x a r b = Served frames (min q (blocks_in frames w a)) (cond (nat_le q 0) 2 3) w x a r b

-- the same over a paged store that is made first
abbrev pub OverPages : ℕ → ℕ → ℕ → Runs Frames → Result ℕ Unmade → Runs Frames → Type 0
OverPages q w x a r b = Ran frames (λ f. Refused f) (λ s c. CachedPages q w x a s c) w a r b

-- the same with a cache of n lines that is made first
abbrev pub LinesPages : ℕ → ℕ → ℕ → ℕ → Runs Frames → Result ℕ Unmade → Runs Frames → Type 0
LinesPages q n w x a r b = Lined n (λ s c. OverPages q w x a s c) a r b
