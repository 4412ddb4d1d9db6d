-- What a table of words and marks means as a store.
use Rattle.std.specs.Prelude.{ℕ, zero, suc, ◌+◌, ◌-◌, ◌*◌, ◌/◌, min, Bool, false, cond, not, ◌&&◌, List, [], ◌==◌, nat_le, nat_lt, slice_index, slice_set}
use Rattle.store.specs.Meaning.{Shape, Meaning, limit}

-- the block number b is within the capacity, and its mark is not 0
unfoldable pub in_use : ℕ → List ℕ → ℕ → Bool
in_use c marks b = nat_lt 0 b && (nat_le b c && not (slice_index marks (b - 1) == 0))

-- the word at place p of block b, which stands at `at b p`; a word that no granted block has counts as 0
unfoldable pub word_in : (ℕ → ℕ → ℕ) → ℕ → ℕ → List ℕ → List ℕ → ℕ → ℕ → ℕ
word_in at w c marks words b p = cond (in_use c marks b && nat_lt p w) (slice_index words (at b p)) 0

-- blocks of w words, at most c of them, with every refusal raised by the store itself
abbrev pub table_shape : ℕ → ℕ → Shape
table_shape w c = record { width = w; capacity = c; depth = λ r n. 1 }

-- what marks and words mean, where `at` tells where the words of each block stand
abbrev pub laid : (ℕ → ℕ → ℕ) → ℕ → ℕ → List ℕ → List ℕ → Meaning
laid at w c marks words = record {
  shape = table_shape w c;
  below = [];
  granted = in_use c marks;
  words = word_in at w c marks words;
  down = false;
}

-- where a word stands, one block after another
abbrev pub in_row : ℕ → ℕ → ℕ → ℕ
in_row w b p = (b - 1) * w + p

-- what marks and words of such blocks mean
abbrev pub table : ℕ → ℕ → List ℕ → List ℕ → Meaning
table w c marks words = laid (in_row w) w c marks words

-- a store without grants
abbrev pub blank : ℕ → ℕ → Meaning
blank w c = record { shape = table_shape w c; below = []; granted = λ b. false; words = λ b p. 0; down = false }

-- the most whole blocks that so many marks and words hold
abbrev pub most_blocks : ℕ → ℕ → ℕ → ℕ
most_blocks w marks words = min (min (words / w) marks) limit

-- xs with 0 at the places at 0 to at (n - 1)
unfoldable pub wiped : (ℕ → ℕ) → ℕ → List ℕ → List ℕ
wiped at zero xs = xs
wiped at (suc n) xs = slice_set (wiped at n xs) (at n) 0

-- xs with 0 at n places from s on
abbrev pub cleared : ℕ → ℕ → List ℕ → List ℕ
cleared s n xs = wiped (λ i. s + i) n xs

-- marks of which the first c are 0
abbrev pub unmarked : ℕ → List ℕ → List ℕ
unmarked c marks = cleared 0 c marks
