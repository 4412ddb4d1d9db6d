-- Eight bytes and their word, and a list by its places.
use Rattle.std.specs.Prelude.{◌≡◌, ℕ, zero, suc, ◌+◌, ◌*◌, ◌/◌, ◌%◌, ◌^◌, ◌<◌, List, [], ◌∷◌, ◌++◌, length, drop, slice_index, refl}
use Rattle.std.proofs.Common.{sym, ap, ◌∙◌, arith, drop-cons, slice_index_or, w64}
use Rattle.std.specs.Int.{from_be_bytes}
use Rattle.std.specs.Simd.{first_chunks}
use Rattle.std.proofs.lemmas.List.{drop_all}
use Rattle.keys.specs.Documents.{word_at, bytes_of, bytes_of_all}

pub word_back : (w : ℕ) → w < 2 ^ 64 → word_at (bytes_of w) 0 ≡ w
word_back w h = omega arith

pub word_fits : (bs : List ℕ) → ((k : ℕ) → slice_index bs k < 256) → (o : ℕ) → word_at bs o < 2 ^ 64
word_fits bs f o = omega (arith, f o, f (o + 1), f (o + 2), f (o + 3), f (o + 4), f (o + 5), f (o + 6), f (o + 7))

eight : (a b c d e f g h : ℕ) → a < 256 → b < 256 → c < 256 → d < 256 → e < 256 → f < 256 → g < 256 → h < 256 →
    bytes_of (a * 2 ^ 56 + b * 2 ^ 48 + c * 2 ^ 40 + d * 2 ^ 32 + e * 2 ^ 24 + f * 2 ^ 16 + g * 2 ^ 8 + h) ≡ a ∷ b ∷ c ∷ d ∷ e ∷ f ∷ g ∷ h ∷ []
eight a b c d e f g h ha hb hc hd he hf hg hh =
    let w : ℕ = a * 2 ^ 56 + b * 2 ^ 48 + c * 2 ^ 40 + d * 2 ^ 32 + e * 2 ^ 24 + f * 2 ^ 16 + g * 2 ^ 8 + h in
    let p0 : w / 2 ^ 56 % 256 ≡ a = omega arith in
    let p1 : w / 2 ^ 48 % 256 ≡ b = omega arith in
    let p2 : w / 2 ^ 40 % 256 ≡ c = omega arith in
    let p3 : w / 2 ^ 32 % 256 ≡ d = omega arith in
    let p4 : w / 2 ^ 24 % 256 ≡ e = omega arith in
    let p5 : w / 2 ^ 16 % 256 ≡ f = omega arith in
    let p6 : w / 2 ^ 8 % 256 ≡ g = omega arith in
    let p7 : w % 256 ≡ h = omega arith in
    λ i. p0 i ∷ p1 i ∷ p2 i ∷ p3 i ∷ p4 i ∷ p5 i ∷ p6 i ∷ p7 i ∷ []

-- n places from i on
abbrev pub gets : List ℕ → ℕ → ℕ → List ℕ
gets xs i zero = []
gets xs i (suc n) = slice_index xs i ∷ gets xs (suc i) n

pub gets_drop : (xs : List ℕ) (i n : ℕ) → length xs ≡ i + n → gets xs i n ≡ drop i xs
gets_drop xs i zero e = sym (drop_all i xs (omega arith))
gets_drop xs i (suc n) e = ap (λ z. slice_index xs i ∷ z) (gets_drop xs (suc i) n (omega arith)) ∙ sym (drop-cons xs i 0 (omega arith))

pub bytes_back : (bs : List ℕ) → ((k : ℕ) → slice_index bs k < 256) → (o : ℕ) → bytes_of (word_at bs o) ≡ slice_index bs o ∷ slice_index bs (o + 1) ∷ slice_index bs (o + 2) ∷ slice_index bs (o + 3) ∷ slice_index bs (o + 4) ∷ slice_index bs (o + 5) ∷ slice_index bs (o + 6) ∷ slice_index bs (o + 7) ∷ []
bytes_back bs f o = eight _ _ _ _ _ _ _ _ (f o) (f (o + 1)) (f (o + 2)) (f (o + 3)) (f (o + 4)) (f (o + 5)) (f (o + 6)) (f (o + 7))

-- the word of a place of four
pub word_of : (bs : List ℕ) (i : ℕ) → i < 4 → word_at bs (8 * i) ≡ slice_index (word_at bs 0 ∷ word_at bs 8 ∷ word_at bs 16 ∷ word_at bs 24 ∷ []) i
word_of bs zero h = refl
word_of bs (suc zero) h = refl
word_of bs (suc (suc zero)) h = refl
word_of bs (suc (suc (suc zero))) h = refl
word_of bs (suc (suc (suc (suc i)))) h = absurd (omega arith)

-- the bytes of four words, each taken byte by byte
pub four : (a b c d : List ℕ) (ws : List ℕ) → a ≡ bytes_of (slice_index ws 0) → b ≡ bytes_of (slice_index ws 1) → c ≡ bytes_of (slice_index ws 2) → d ≡ bytes_of (slice_index ws 3) →
    gets a 0 8 ++ (gets b 0 8 ++ (gets c 0 8 ++ gets d 0 8)) ≡ bytes_of_all ws
four a b c d ws p q r s = λ i. gets (p i) 0 8 ++ (gets (q i) 0 8 ++ (gets (r i) 0 8 ++ gets (s i) 0 8))

-- the bytes of a place of four, cut off in eights, spell its word
pub chunk_of : (bs : List ℕ) (i : ℕ) (d : List ℕ) → length bs ≡ 32 → i < 4 → from_be_bytes w64 (slice_index_or (first_chunks 8 4 bs) i d) ≡ word_at bs (8 * i)
chunk_of bs i d e h = ap (λ xs. from_be_bytes w64 (slice_index_or (first_chunks 8 4 xs) i d)) (sym (gets_drop bs 0 32 e)) ∙ go i h
  where
    go : (i : ℕ) → i < 4 → from_be_bytes w64 (slice_index_or (first_chunks 8 4 (gets bs 0 32)) i d) ≡ word_at bs (8 * i)
    go zero h = refl
    go (suc zero) h = refl
    go (suc (suc zero)) h = refl
    go (suc (suc (suc zero))) h = refl
    go (suc (suc (suc (suc i)))) h = absurd (omega arith)
