-- What a cache means, from what the store below means and from its lines, and what the lines keep.
use Rattle.std.specs.Prelude.{◌≡◌, ℕ, Bool, true, false, cond, ◌&&◌, List, [], ◌∷◌, length, ◌==◌, slice_index}
use Rattle.store.specs.Faults.{one_deeper}
use Rattle.store.specs.Meaning.{Shape, Meaning, with_blocks}
use Rattle.cache.specs.Lines.{View, nth}

-- the words of a line, by place
abbrev pub word_of : List ℕ → ℕ → ℕ
word_of ws p = slice_index ws p

-- the words ω below, overlaid by the lines that hold a block granted in g
unfoldable pub over : List View → (ℕ → Bool) → (ℕ → ℕ → ℕ) → ℕ → ℕ → ℕ
over [] g ω b = ω b
over (v ∷ vs) g ω b = cond (g b && b == v.block) (word_of v.words) (over vs g ω b)

-- a cache refuses nothing itself: each refusal arose one layer further down
abbrev pub cached_shape : Shape → Shape
cached_shape s = record { width = s.width; capacity = s.capacity; depth = λ r n. one_deeper (s.depth r n) }

-- a cache with the lines vs over m
abbrev pub cached : List View → Meaning → Meaning
cached vs m = record {
  shape = cached_shape m.shape;
  below = m.shape ∷ m.below;
  granted = m.granted;
  words = over vs m.granted m.words;
  down = m.down;
}

-- the store below, once every line is written
abbrev pub flat : List View → Meaning → Meaning
flat vs m = with_blocks m m.granted (over vs m.granted m.words)

-- no two lines hold one block
abbrev pub Apart : List View → Type 0
Apart vs = (i j : ℕ) → ((nth vs i).block ≡ 0 → ⊥) → (nth vs i).block ≡ (nth vs j).block → i ≡ j

-- a line holds a granted block, all its words
pub record Whole (m : Meaning) (v : View) : Type 0 where
  pub granted : m.granted v.block ≡ true
  pub wide : length v.words ≡ m.shape.width

-- what a line that holds a block keeps; `lost`: the cache met 'down'
pub record Fits (m : Meaning) (lost : Bool) (v : View) : Type 0 where
  pub whole : Whole m v
  pub up : lost ≡ false → m.down ≡ false
  pub same : lost ≡ false → v.altered ≡ false → m.words v.block ≡ word_of v.words

-- what the lines of a cache over m keep
pub record Held (m : Meaning) (lost : Bool) (vs : List View) : Type 0 where
  pub fits : (i : ℕ) → ((nth vs i).block ≡ 0 → ⊥) → Fits m lost (nth vs i)
  pub apart : Apart vs
  pub fell : lost ≡ true → m.down ≡ true
