-- What words scattered over frames mean as a store.
use Rattle.std.specs.Prelude.{◌≡◌, ℕ, ◌+◌, ◌-◌, ◌*◌, ◌/◌, ◌%◌, ◌<◌, ◌≤◌, Bool, true, false, List, slice_index}
use Rattle.store.specs.Meaning.{Meaning}
use Rattle.stores.specs.Table.{laid}

-- the frames, of 64 words each, that a block of w words has
abbrev pub frames_of : ℕ → ℕ
frames_of w = (w + 63) / 64

-- where the word at place p of the block in a slot stands: in the frame that the map names
abbrev pub slot_at : ℕ → List ℕ → ℕ → ℕ → ℕ
slot_at w map slot p = slice_index map (slot * frames_of w + p / 64) * 64 + p % 64

-- the same of block b, which has the slot b - 1
abbrev pub paged_at : ℕ → List ℕ → ℕ → ℕ → ℕ
paged_at w map b p = slot_at w map (b - 1) p

-- what marks and words mean
abbrev pub paged : ℕ → ℕ → List ℕ → List ℕ → List ℕ → Meaning
paged w c map marks words = laid (paged_at w map) w c marks words

-- each of the first n entries of a map names one of so many frames, and no two name the same
pub record Apt (map : List ℕ) (n frames : ℕ) : Type 0 where
  pub inside : (i : ℕ) → i < n → slice_index map i < frames
  pub once : (i j : ℕ) → i < n → j < n → slice_index map i ≡ slice_index map j → i ≡ j

-- some entry names a frame that is not there, or two name the same
pub data Awry (map : List ℕ) (n frames : ℕ) : Type 0 where
  outside : (i : ℕ) → i < n → frames ≤ slice_index map i → Awry map n frames
  twice : (i j : ℕ) → i < j → j < n → slice_index map i ≡ slice_index map j → Awry map n frames

-- what a check of a map tells
abbrev pub Judged : List ℕ → ℕ → ℕ → Bool → Type 0
Judged map n frames true = Apt map n frames
Judged map n frames false = Awry map n frames
