-- What clearing leaves at each place.
use Rattle.std.specs.Prelude.{◌≡◌, ℕ, zero, suc, ◌+◌, ◌-◌, ◌<◌, ◌≤◌, min, List, length, set, ◌≢◌, slice_index, slice_set}
use Rattle.std.proofs.Math.Path.{refl}
use Rattle.std.proofs.Common.{sym, ap, ap₂, ◌∙◌, ⊎_elim, arith, add-one, zero-add, ◌++◌, drop, replicate}
use Rattle.std.proofs.lemmas.List.Edits.{fill_none, fill_more}
use Rattle.std.proofs.lemmas.List.{length-set, get_or-set_same, get_or-set_other, get_or_past, set_past, set-append_right}
use Rattle.std.proofs.lemmas.Bool.{cases_eq, cases_lt}
use Rattle.stores.specs.Table.{wiped, cleared}

module _ (at : ℕ → ℕ) (xs : List ℕ) where
  -- nothing cleared yet
  pub wiped_none : wiped at 0 xs ≡ xs
  unfolding wiped
  wiped_none = refl

  wiped_suc : (n : ℕ) → wiped at (suc n) xs ≡ slice_set (wiped at n xs) (at n) 0
  unfolding wiped
  wiped_suc n = refl

  -- one place more
  pub wiped_more : (n : ℕ) → wiped at (n + 1) xs ≡ slice_set (wiped at n xs) (at n) 0
  wiped_more n = ap (λ k. wiped at k xs) (add-one n) ∙ wiped_suc n

  -- clearing keeps the length
  pub wiped_length : (n : ℕ) → length (wiped at n xs) ≡ length xs
  wiped_length zero = ap length wiped_none
  wiped_length (suc n) = ap length (wiped_suc n) ∙ length-set (wiped at n xs) (at n) 0 ∙ wiped_length n

  -- a place that is not cleared
  pub wiped_other : (n k : ℕ) → ((i : ℕ) → i < n → k ≢ at i) → slice_index (wiped at n xs) k ≡ slice_index xs k
  wiped_other zero k h = ap (λ l. slice_index l k) wiped_none
  wiped_other (suc n) k h =
      ap (λ l. slice_index l k) (wiped_suc n)
      ∙ get_or-set_other (wiped at n xs) (at n) k 0 0 (h n (omega arith))
      ∙ wiped_other n k (λ i l. h i (omega arith))

  set_zero : (ys : List ℕ) (i : ℕ) → slice_index (slice_set ys i 0) i ≡ 0
  set_zero ys i =
      ⊎_elim (λ l. get_or-set_same ys i 0 0 l) (λ l. ap (λ zs. slice_index zs i) (set_past ys i 0 l) ∙ get_or_past ys i 0 l) (cases_lt i (length ys))

  -- a place that is cleared
  pub wiped_here : (n i : ℕ) → i < n → slice_index (wiped at n xs) (at i) ≡ 0
  wiped_here zero i l = absurd (omega arith)
  wiped_here (suc n) i l =
      ap (λ zs. slice_index zs (at i)) (wiped_suc n)
      ∙ ⊎_elim
      (λ q. ap (λ k. slice_index (slice_set (wiped at n xs) (at n) 0) k) q ∙ set_zero (wiped at n xs) (at n))
      (λ ne. get_or-set_other (wiped at n xs) (at n) (at i) 0 0 ne ∙ wiped_here n i (before ne))
      (cases_eq (at i) (at n))
    where
      before : (at i ≢ at n) → i < n
      before ne = ⊎_elim (λ (q : i ≡ n). absurd (ne (ap at q))) (λ (q : i ≡ n → ⊥). omega arith) (cases_eq i n)

-- a run of places
module _ (s : ℕ) (xs : List ℕ) where
  pub cleared_none : cleared s 0 xs ≡ xs
  cleared_none = wiped_none (λ i. s + i) xs

  pub cleared_more : (n : ℕ) → cleared s (n + 1) xs ≡ slice_set (cleared s n xs) (s + n) 0
  cleared_more n = wiped_more (λ i. s + i) xs n

  pub cleared_length : (n : ℕ) → length (cleared s n xs) ≡ length xs
  cleared_length n = wiped_length (λ i. s + i) xs n

  -- a place in a run that is cleared
  pub cleared_here : (n k : ℕ) → s ≤ k → k < s + n → slice_index (cleared s n xs) k ≡ 0
  cleared_here n k l h =
      let q : k ≡ s + (k - s) = omega arith in
      ap (λ i. slice_index (cleared s n xs) i) q ∙ wiped_here (λ i. s + i) xs n (k - s) (omega arith)

  past_on : (m n : ℕ) → m ≤ n → length xs ≤ s + m → cleared s m xs ≡ cleared s n xs → cleared s m xs ≡ cleared s (suc n) xs
  past_on m n h l e =
      e ∙ sym (wiped_suc (λ i. s + i) xs n ∙ set_past (cleared s n xs) (s + n) 0 (omega (arith, cleared_length n)))

  -- past the end there is nothing to clear
  pub cleared_past : (m n : ℕ) → m ≤ n → length xs ≤ s + m → cleared s m xs ≡ cleared s n xs
  cleared_past m zero h l = let z : m ≡ zero = omega arith in ap (λ k. cleared s k xs) z
  cleared_past m (suc n) h l =
      ⊎_elim (λ q. ap (λ k. cleared s k xs) q) (λ ne. past_on m n (omega arith) l (cleared_past m n (omega arith) l)) (cases_eq m (suc n))

  -- a loop's step
  pub cleared_step : (i : ℕ) → s ≤ i → slice_set (cleared s (i - s) xs) i 0 ≡ cleared s (i + 1 - s) xs
  cleared_step i h =
      let a : i ≡ s + (i - s) = omega arith in
      let b : (i - s) + 1 ≡ i + 1 - s = omega arith in
      ap (λ k. set (cleared s (i - s) xs) k 0) a ∙ sym (cleared_more (i - s)) ∙ ap (λ k. cleared s k xs) b

  -- a loop's end, after n places or at the end of the run
  pub cleared_end : (n i e : ℕ) → s ≤ i → e ≤ i → (s ≤ e → i ≤ e) → e ≡ min (s + n) (length xs) → cleared s (i - s) xs ≡ cleared s n xs
  cleared_end n i e a b h q =
      ⊎_elim
      (λ (l : s + n < length xs). let d : i ≤ e = h (omega arith) in let z : i - s ≡ n = omega arith in ap (λ k. cleared s k xs) z)
      (λ (l : length xs ≤ s + n). ⊎_elim (λ (t : i - s < n). cleared_past (i - s) n (omega arith) (omega arith)) (λ (t : n ≤ i - s). sym (cleared_past n (i - s) t l)) (cases_lt (i - s) n))
      (cases_lt (s + n) (length xs))

-- the end of a loop from 0 on, at n or at the end of the run
pub cleared_top : (xs : List ℕ) (n i : ℕ) → i ≡ min (length xs) n → cleared 0 i xs ≡ cleared 0 n xs
cleared_top xs n i q =
    ⊎_elim
    (λ (l : n < length xs). let z : i ≡ n = omega arith in ap (λ k. cleared 0 k xs) z)
    (λ (l : length xs ≤ n). cleared_past 0 xs i n (omega arith) (omega arith))
    (cases_lt n (length xs))

-- the first n places cleared, as a run of zeros and the rest
pub cleared_front : (n : ℕ) (xs : List ℕ) → n ≤ length xs → cleared 0 n xs ≡ replicate n 0 ++ drop n xs
cleared_front zero xs h = cleared_none 0 xs ∙ fill_none xs 0
cleared_front (suc n) xs h =
    ap (λ k. cleared 0 k xs) (sym (add-one n))
    ∙ cleared_more 0 xs n
    ∙ ap₂ (λ ys k. set ys k 0) (cleared_front n xs (omega arith)) (zero-add n)
    ∙ fill_more n 0 xs (omega arith)
    ∙ ap (λ k. replicate k 0 ++ drop k xs) (add-one n)

-- clearing past a front leaves the front
pub cleared_behind : (s n : ℕ) (front xs : List ℕ) → length front ≡ s → cleared s n (front ++ xs) ≡ front ++ cleared 0 n xs
cleared_behind s zero front xs h = cleared_none s (front ++ xs) ∙ ap (λ ys. front ++ ys) (sym (cleared_none 0 xs))
cleared_behind s (suc n) front xs h =
    ap (λ k. cleared s k (front ++ xs)) (sym (add-one n))
    ∙ cleared_more s (front ++ xs) n
    ∙ ap (λ ys. set ys (s + n) 0) (cleared_behind s n front xs h)
    ∙ set-append_right front (cleared 0 n xs) s (s + n) 0 h (omega arith)
    ∙ ap (λ k. front ++ set (cleared 0 n xs) k 0) (omega arith)
    ∙ ap (λ ys. front ++ ys) (sym (cleared_more 0 xs n) ∙ ap (λ k. cleared 0 k xs) (add-one n))

-- clearing from a start and for a number of places that are cut to the run
pub cleared_cut : (s n b e : ℕ) (xs : List ℕ) → b ≡ min s (length xs) → e ≡ min (b + n) (length xs) → cleared b (e - b) xs ≡ cleared s n xs
cleared_cut s n b e xs p q =
    ⊎_elim
    (λ (l : length xs < s).
    let z : e - b ≡ 0 = omega arith in
    ap (λ k. cleared b k xs) z ∙ cleared_none b xs ∙ sym (cleared_none s xs) ∙ cleared_past s xs 0 n (omega arith) (omega arith))
    (λ (l : s ≤ length xs).
    let z : b ≡ s = omega arith in
    ap (λ k. cleared k (e - k) xs) z ∙ cleared_end s xs n e e (omega arith) (omega arith) (λ _. omega arith) (omega arith))
    (cases_lt (length xs) s)
