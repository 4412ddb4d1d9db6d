-- Comparing numbers digit by digit.
use Rattle.std.proofs.Common.{◌≡◌, ℕ, suc, ◌+◌, ◌*◌, ◌^◌, ◌<◌, ◌≤◌, List, [], ◌∷◌, ◌++◌, length, get_or, ℤ, pos, negsuc, ◌<ℤ◌, Ordering, Less, Equal, Greater, sym, refl, ap, ◌∙◌, mul-le-mul_right, arith}
use Rattle.std.proofs.lemmas.Int.{ints}
use lib.Signed.{mag}
use Rattle.std.specs.Cmp.{ranks, int_ranks, one_rank, below_irrefl, below_chain}
use Rattle.std.specs.Ordering.{ordering_then, MatchOrdering, nat_cmp, int_cmp}
use Rattle.keys.specs.Documents.{word_at}
use Rattle.keys.specs.Stamps.{biased}
use Rattle.keys.specs.Bytes.{gets, gets_drop}
use Rattle.std.specs.Cmp.Lexicographic.{slice_cmp}

-- an answer that says how two numbers stand is their rank
ranked_is : (x y : ℕ) (r : Ordering) → MatchOrdering r (x < y) (x ≡ y) (y < x) → r ≡ nat_cmp x y
ranked_is x y r h = one_rank (λ (a b : ℕ). a < b) below_irrefl below_chain x y r (nat_cmp x y) h (ranks x y)

-- a leading digit decides before the rest
pub leading : (B a b r s : ℕ) → r < B → s < B → ordering_then (nat_cmp a b) (nat_cmp r s) ≡ nat_cmp (a * B + r) (b * B + s)
leading B a b r s hr hs = ranked_is (a * B + r) (b * B + s) (ordering_then (nat_cmp a b) (nat_cmp r s)) (go (nat_cmp a b) (nat_cmp r s) (ranks a b) (ranks r s))
  where
    go : (p q : Ordering) → MatchOrdering p (a < b) (a ≡ b) (b < a) → MatchOrdering q (r < s) (r ≡ s) (s < r) → MatchOrdering (ordering_then p q) (a * B + r < b * B + s) (a * B + r ≡ b * B + s) (b * B + s < a * B + r)
    go Less q h k = let m : suc a * B ≤ b * B = mul-le-mul_right B h in omega arith
    go Equal Less h k = omega (arith, ap (λ n. n * B) h)
    go Equal Equal h k = omega (arith, ap (λ n. n * B) h)
    go Equal Greater h k = omega (arith, ap (λ n. n * B) h)
    go Greater q h k = let m : suc b * B ≤ a * B = mul-le-mul_right B h in omega arith

pub then_equal : (o : Ordering) → ordering_then o Equal ≡ o
then_equal Less = refl
then_equal Equal = refl
then_equal Greater = refl

then_then : (p q r : Ordering) → ordering_then (ordering_then p q) r ≡ ordering_then p (ordering_then q r)
then_then Less q r = refl
then_then Equal q r = refl
then_then Greater q r = refl

biased_up : (m n : ℤ) → mag m < 2 ^ 63 → mag n < 2 ^ 63 → m <ℤ n → biased m < biased n
biased_up (pos a) (pos b) hm hn h = grind (arith, ints)
biased_up (pos a) (negsuc b) hm hn h = grind (arith, ints)
biased_up (negsuc a) (pos b) hm hn h = grind (arith, ints)
biased_up (negsuc a) (negsuc b) hm hn h = grind (arith, ints)

-- minutes stand as their words do
pub biased_rank : (m n : ℤ) → mag m < 2 ^ 63 → mag n < 2 ^ 63 → nat_cmp (biased m) (biased n) ≡ int_cmp m n
biased_rank m n hm hn = sym (ranked_is (biased m) (biased n) (int_cmp m n) (go (int_cmp m n) (int_ranks m n)))
  where
    go : (r : Ordering) → MatchOrdering r (m <ℤ n) (m ≡ n) (n <ℤ m) → MatchOrdering r (biased m < biased n) (biased m ≡ biased n) (biased n < biased m)
    go Less h = biased_up m n hm hn h
    go Equal h = ap biased h
    go Greater h = biased_up n m hn hm h

-- lists as long as each other, one after the other
lex_append : (us vs xs ys : List ℕ) → length us ≡ length vs → slice_cmp nat_cmp (us ++ xs) (vs ++ ys) ≡ ordering_then (slice_cmp nat_cmp us vs) (slice_cmp nat_cmp xs ys)
lex_append [] [] xs ys e = refl
lex_append [] (v ∷ vs) xs ys e = absurd (omega arith)
lex_append (u ∷ us) [] xs ys e = absurd (omega arith)
lex_append (u ∷ us) (v ∷ vs) xs ys e =
    ap (ordering_then (nat_cmp u v)) (lex_append us vs xs ys (omega arith)) ∙ sym (then_then (nat_cmp u v) (slice_cmp nat_cmp us vs) (slice_cmp nat_cmp xs ys))

-- eight bytes stand as their word does
eight : (a0 a1 a2 a3 a4 a5 a6 a7 b0 b1 b2 b3 b4 b5 b6 b7 : ℕ) → a1 < 256 → a2 < 256 → a3 < 256 → a4 < 256 → a5 < 256 → a6 < 256 → a7 < 256 → b1 < 256 → b2 < 256 → b3 < 256 → b4 < 256 → b5 < 256 → b6 < 256 → b7 < 256 →
    slice_cmp nat_cmp (a0 ∷ a1 ∷ a2 ∷ a3 ∷ a4 ∷ a5 ∷ a6 ∷ a7 ∷ []) (b0 ∷ b1 ∷ b2 ∷ b3 ∷ b4 ∷ b5 ∷ b6 ∷ b7 ∷ []) ≡ nat_cmp (a0 * 2 ^ 56 + a1 * 2 ^ 48 + a2 * 2 ^ 40 + a3 * 2 ^ 32 + a4 * 2 ^ 24 + a5 * 2 ^ 16 + a6 * 2 ^ 8 + a7) (b0 * 2 ^ 56 + b1 * 2 ^ 48 + b2 * 2 ^ 40 + b3 * 2 ^ 32 + b4 * 2 ^ 24 + b5 * 2 ^ 16 + b6 * 2 ^ 8 + b7)
eight a0 a1 a2 a3 a4 a5 a6 a7 b0 b1 b2 b3 b4 b5 b6 b7 ha1 ha2 ha3 ha4 ha5 ha6 ha7 hb1 hb2 hb3 hb4 hb5 hb6 hb7 =
    let s7 = then_equal (nat_cmp a7 b7) in
    let s6 = ap (ordering_then (nat_cmp a6 b6)) s7 ∙ leading (2 ^ 8) a6 b6 a7 b7 (omega arith) (omega arith) in
    let s5 = ap (ordering_then (nat_cmp a5 b5)) s6 ∙ leading (2 ^ 16) a5 b5 (a6 * 2 ^ 8 + a7) (b6 * 2 ^ 8 + b7) (omega arith) (omega arith) in
    let s4 = ap (ordering_then (nat_cmp a4 b4)) s5 ∙ leading (2 ^ 24) a4 b4 (a5 * 2 ^ 16 + (a6 * 2 ^ 8 + a7)) (b5 * 2 ^ 16 + (b6 * 2 ^ 8 + b7)) (omega arith) (omega arith) in
    let s3 = ap (ordering_then (nat_cmp a3 b3)) s4 ∙ leading (2 ^ 32) a3 b3 (a4 * 2 ^ 24 + (a5 * 2 ^ 16 + (a6 * 2 ^ 8 + a7))) (b4 * 2 ^ 24 + (b5 * 2 ^ 16 + (b6 * 2 ^ 8 + b7))) (omega arith) (omega arith) in
    let s2 = ap (ordering_then (nat_cmp a2 b2)) s3 ∙ leading (2 ^ 40) a2 b2 (a3 * 2 ^ 32 + (a4 * 2 ^ 24 + (a5 * 2 ^ 16 + (a6 * 2 ^ 8 + a7)))) (b3 * 2 ^ 32 + (b4 * 2 ^ 24 + (b5 * 2 ^ 16 + (b6 * 2 ^ 8 + b7)))) (omega arith) (omega arith) in
    let s1 = ap (ordering_then (nat_cmp a1 b1)) s2 ∙ leading (2 ^ 48) a1 b1 (a2 * 2 ^ 40 + (a3 * 2 ^ 32 + (a4 * 2 ^ 24 + (a5 * 2 ^ 16 + (a6 * 2 ^ 8 + a7))))) (b2 * 2 ^ 40 + (b3 * 2 ^ 32 + (b4 * 2 ^ 24 + (b5 * 2 ^ 16 + (b6 * 2 ^ 8 + b7))))) (omega arith) (omega arith) in
    let s0 = ap (ordering_then (nat_cmp a0 b0)) s1 ∙ leading (2 ^ 56) a0 b0 (a1 * 2 ^ 48 + (a2 * 2 ^ 40 + (a3 * 2 ^ 32 + (a4 * 2 ^ 24 + (a5 * 2 ^ 16 + (a6 * 2 ^ 8 + a7)))))) (b1 * 2 ^ 48 + (b2 * 2 ^ 40 + (b3 * 2 ^ 32 + (b4 * 2 ^ 24 + (b5 * 2 ^ 16 + (b6 * 2 ^ 8 + b7)))))) (omega arith) (omega arith) in
    let p : a0 * 2 ^ 56 + (a1 * 2 ^ 48 + (a2 * 2 ^ 40 + (a3 * 2 ^ 32 + (a4 * 2 ^ 24 + (a5 * 2 ^ 16 + (a6 * 2 ^ 8 + a7)))))) ≡ a0 * 2 ^ 56 + a1 * 2 ^ 48 + a2 * 2 ^ 40 + a3 * 2 ^ 32 + a4 * 2 ^ 24 + a5 * 2 ^ 16 + a6 * 2 ^ 8 + a7 = omega arith in
    let q : b0 * 2 ^ 56 + (b1 * 2 ^ 48 + (b2 * 2 ^ 40 + (b3 * 2 ^ 32 + (b4 * 2 ^ 24 + (b5 * 2 ^ 16 + (b6 * 2 ^ 8 + b7)))))) ≡ b0 * 2 ^ 56 + b1 * 2 ^ 48 + b2 * 2 ^ 40 + b3 * 2 ^ 32 + b4 * 2 ^ 24 + b5 * 2 ^ 16 + b6 * 2 ^ 8 + b7 = omega arith in
    s0 ∙ (λ i. nat_cmp (p i) (q i))

-- names stand as their words do
pub bytes_rank : (bs cs : List ℕ) → length bs ≡ 32 → length cs ≡ 32 → ((k : ℕ) → get_or bs k 0 < 256) → ((k : ℕ) → get_or cs k 0 < 256) →
    slice_cmp nat_cmp (word_at bs 0 ∷ word_at bs 8 ∷ word_at bs 16 ∷ word_at bs 24 ∷ []) (word_at cs 0 ∷ word_at cs 8 ∷ word_at cs 16 ∷ word_at cs 24 ∷ []) ≡ slice_cmp nat_cmp bs cs
bytes_rank bs cs hb hc f g =
    let L = (slice_cmp nat_cmp) in
    let e0 : L (gets bs 0 8) (gets cs 0 8) ≡ nat_cmp (word_at bs 0) (word_at cs 0) = eight _ _ _ _ _ _ _ _ _ _ _ _ _ _ _ _ (f 1) (f 2) (f 3) (f 4) (f 5) (f 6) (f 7) (g 1) (g 2) (g 3) (g 4) (g 5) (g 6) (g 7) in
    let e1 : L (gets bs 8 8) (gets cs 8 8) ≡ nat_cmp (word_at bs 8) (word_at cs 8) = eight _ _ _ _ _ _ _ _ _ _ _ _ _ _ _ _ (f 9) (f 10) (f 11) (f 12) (f 13) (f 14) (f 15) (g 9) (g 10) (g 11) (g 12) (g 13) (g 14) (g 15) in
    let e2 : L (gets bs 16 8) (gets cs 16 8) ≡ nat_cmp (word_at bs 16) (word_at cs 16) = eight _ _ _ _ _ _ _ _ _ _ _ _ _ _ _ _ (f 17) (f 18) (f 19) (f 20) (f 21) (f 22) (f 23) (g 17) (g 18) (g 19) (g 20) (g 21) (g 22) (g 23) in
    let e3 : L (gets bs 24 8) (gets cs 24 8) ≡ nat_cmp (word_at bs 24) (word_at cs 24) = eight _ _ _ _ _ _ _ _ _ _ _ _ _ _ _ _ (f 25) (f 26) (f 27) (f 28) (f 29) (f 30) (f 31) (g 25) (g 26) (g 27) (g 28) (g 29) (g 30) (g 31) in
    let split : L bs cs ≡ ordering_then (L (gets bs 0 8) (gets cs 0 8)) (ordering_then (L (gets bs 8 8) (gets cs 8 8)) (ordering_then (L (gets bs 16 8) (gets cs 16 8)) (L (gets bs 24 8) (gets cs 24 8)))) =
    sym (λ i. L (gets_drop bs 0 32 hb i) (gets_drop cs 0 32 hc i))
    ∙ lex_append (gets bs 0 8) (gets cs 0 8) (gets bs 8 24) (gets cs 8 24) refl
    ∙ ap (ordering_then (L (gets bs 0 8) (gets cs 0 8))) (lex_append (gets bs 8 8) (gets cs 8 8) (gets bs 16 16) (gets cs 16 16) refl ∙ ap (ordering_then (L (gets bs 8 8) (gets cs 8 8))) (lex_append (gets bs 16 8) (gets cs 16 8) (gets bs 24 8) (gets cs 24 8) refl)) in
    sym (split ∙ (λ i. ordering_then (e0 i) (ordering_then (e1 i) (ordering_then (e2 i) ((e3 ∙ sym (then_equal (nat_cmp (word_at bs 24) (word_at cs 24)))) i)))))
