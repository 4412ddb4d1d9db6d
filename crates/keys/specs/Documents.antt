-- The order and the packing of a document's name.
use Rattle.std.specs.Prelude.{ℕ, zero, suc, ◌+◌, ◌*◌, ◌/◌, ◌%◌, ◌^◌, ◌<◌, List, [], ◌∷◌, ◌++◌, slice_index, refl}
use Rattle.std.specs.declared.cmp.Ordering.{Ordering}
use Rattle.std.proofs.Common.{mod-lt, arith, lit<}
use Rattle.std.specs.List.{AllByRecursion}
use Rattle.keys.specs.declared.document.DocumentName.{DocumentName}
use Rattle.std.specs.Ordering.{nat_cmp}
use Rattle.std.specs.Cmp.Lexicographic.{slice_cmp}

-- byte after byte, the first that differs decides
abbrev pub order : DocumentName → DocumentName → Ordering
order x y = slice_cmp nat_cmp x.bytes y.bytes

-- the word of the eight bytes from o on, most significant first
abbrev pub word_at : List ℕ → ℕ → ℕ
word_at bs o =
    slice_index bs o * 2 ^ 56 + slice_index bs (o + 1) * 2 ^ 48 + slice_index bs (o + 2) * 2 ^ 40 + slice_index bs (o + 3) * 2 ^ 32
    + slice_index bs (o + 4) * 2 ^ 24 + slice_index bs (o + 5) * 2 ^ 16 + slice_index bs (o + 6) * 2 ^ 8 + slice_index bs (o + 7)

abbrev pub packed : DocumentName → List ℕ
packed x = word_at x.bytes 0 ∷ word_at x.bytes 8 ∷ word_at x.bytes 16 ∷ word_at x.bytes 24 ∷ []

-- the eight bytes of a word
abbrev pub bytes_of : ℕ → List ℕ
bytes_of w = w / 2 ^ 56 % 256 ∷ w / 2 ^ 48 % 256 ∷ w / 2 ^ 40 % 256 ∷ w / 2 ^ 32 % 256 ∷ w / 2 ^ 24 % 256 ∷ w / 2 ^ 16 % 256 ∷ w / 2 ^ 8 % 256 ∷ w % 256 ∷ []

abbrev pub bytes_of_all : List ℕ → List ℕ
bytes_of_all ws = bytes_of (slice_index ws 0) ++ (bytes_of (slice_index ws 1) ++ (bytes_of (slice_index ws 2) ++ bytes_of (slice_index ws 3)))

byte : (n : ℕ) → n % 256 < 256
byte n = mod-lt n (lit< tt)

bytes_fit : (w : ℕ) (xs : List ℕ) → AllByRecursion (λ b. b < 256) xs → AllByRecursion (λ b. b < 256) (bytes_of w ++ xs)
bytes_fit w xs a = (byte _, (byte _, (byte _, (byte _, (byte _, (byte _, (byte _, (byte _, a))))))))

pub all_at : (xs : List ℕ) → AllByRecursion (λ b. b < 256) xs → (k : ℕ) → slice_index xs k < 256
all_at [] a k = omega arith
all_at (x ∷ xs) a zero = a.0
all_at (x ∷ xs) a (suc k) = all_at xs a.1 k

pub fits : (ws : List ℕ) (k : ℕ) → slice_index (bytes_of_all ws) k < 256
fits ws =
    all_at (bytes_of_all ws)
    (bytes_fit (slice_index ws 0) (bytes_of (slice_index ws 1) ++ (bytes_of (slice_index ws 2) ++ bytes_of (slice_index ws 3)))
    (bytes_fit (slice_index ws 1) (bytes_of (slice_index ws 2) ++ bytes_of (slice_index ws 3)) (bytes_fit (slice_index ws 2) (bytes_of (slice_index ws 3)) (bytes_fit (slice_index ws 3) [] tt))))

abbrev pub unpacked : List ℕ → DocumentName
unpacked ws = record { bytes = bytes_of_all ws; long = refl; fits = fits ws }
