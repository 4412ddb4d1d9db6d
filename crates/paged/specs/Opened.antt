-- What a store over frames is made with, and what it keeps.
use Rattle.std.specs.Prelude.{◌≡◌, ℕ, ◌*◌, ◌/◌, ◌<◌, ◌≤◌, List, length}
use Rattle.store.specs.declared.fault.Refusal.TheVariants.{Misfit}
use Rattle.store.specs.declared.fault.Unmade.{Unmade}
use Rattle.store.specs.declared.fault.Unmade.TheVariants.{Refused, NoMemory}
use Rattle.store.specs.Faults.{own_fault}
use Rattle.stores.specs.Table.{most_blocks}
use Rattle.stores.specs.Plan.{Plan, StoreFits}
use Rattle.paged.specs.Frames.{frames_of, slot_at, Apt, Awry}

-- the capacity of a store of blocks of w words over a map and so many marks
abbrev pub most_paged : ℕ → List ℕ → ℕ → ℕ
most_paged w map marks = most_blocks (frames_of w) marks (length map)

-- no block has such a width, or the map names a frame twice or one outside the words
pub data Misfits (w : ℕ) (map : List ℕ) (marks words : ℕ) : Type 0 where
  no_width : (1 ≤ w → 512 < w) → Misfits w map marks words
  no_frames : Awry map (most_paged w map marks * frames_of w) (words / 64) → Misfits w map marks words

-- why no store was made; a width is refused before memory is asked for
abbrev pub Because : ℕ → List ℕ → ℕ → ℕ → Unmade → Type 0
Because w map marks words (Refused f) = (f ≡ own_fault Misfit 0) × Misfits w map marks words
Because w map marks words NoMemory = (1 ≤ w) × (w ≤ 512)

-- the plan of frames that a map names: c blocks need frames of their own in so many words, and want of memory is no
-- fault of the runs
abbrev pub frames_plan : List ℕ → Plan Unmade
frames_plan map = record {
  at = λ w slot i. slot_at w map slot i;
  most = λ w marks words. most_paged w map marks;
  apt = λ w c words. Apt map (c * frames_of w) (words / 64);
  because = λ w marks words e. Because w map marks words e;
  aside = λ e. e ≡ NoMemory;
}

-- what a paged store keeps: its capacity c is the most that map and marks hold, the map's entries for so many
-- blocks are apt, and g blocks are granted
abbrev pub FramesFit : ℕ → ℕ → ℕ → List ℕ → List ℕ → List ℕ → Type 0
FramesFit w c g map marks words = StoreFits (frames_plan map) w c g marks words
