-- Sums of the first so many of a list.
use Rattle.std.proofs.Common.{◌≡◌, ℕ, zero, suc, ◌+◌, ◌*◌, ◌<◌, ◌≤◌, List, [], ◌∷◌, length, get_or, take, inl, inr, add-one, arith}
use Rattle.std.proofs.lemmas.Bool.{cases_lt}
use Rattle.tree.specs.Laws.{Largest}
use Rattle.tree.proofs.Words.{split_sum}
use Rattle.balance.specs.Cuts.{sum}

sum_suc : (xs : List ℕ) (i d : ℕ) → i < length xs → sum (take (suc i) xs) ≡ sum (take i xs) + get_or xs i d
sum_suc [] i d h = absurd (omega arith)
sum_suc (x ∷ xs) zero d h = omega arith
sum_suc (x ∷ xs) (suc i) d h = omega (arith, sum_suc xs i d (omega arith))

-- one more
pub sum_more : (xs : List ℕ) (i d : ℕ) → i < length xs → sum (take (i + 1) xs) ≡ sum (take i xs) + get_or xs i d
sum_more xs i d h = rw add-one (sum_suc xs i d h)

sum_mono : (xs : List ℕ) (i j : ℕ) → i ≤ j → sum (take i xs) ≤ sum (take j xs)
sum_mono xs zero j h = omega arith
sum_mono [] (suc i) (suc j) h = omega arith
sum_mono xs (suc i) zero h = absurd (omega arith)
sum_mono (x ∷ xs) (suc i) (suc j) h = omega (arith, sum_mono xs i j (omega arith))

-- the next entry would make the first part heavier than the rest
pub stopped : (xs : List ℕ) (s d : ℕ) → s < length xs → 2 * sum (take s xs) ≤ sum xs → sum xs < 2 * (sum (take s xs) + get_or xs s d) → Largest (λ (x : ℕ). x) xs s
stopped xs s d h low high = record {
  within = omega arith;
  light = omega (arith, split_sum (λ (x : ℕ). x) xs s);
  largest = λ r within p. elim (cases_lt s r) [
    | inl q ↦ absurd (omega (arith, sum_mono xs (suc s) r q, sum_suc xs s d h, split_sum (λ (x : ℕ). x) xs r))
    | inr q ↦ q
  ];
}

-- there is no next entry
pub ended : (xs : List ℕ) (s : ℕ) → length xs ≡ s → 2 * sum (take s xs) ≤ sum xs → Largest (λ (x : ℕ). x) xs s
ended xs s h low = record {
  within = omega arith;
  light = omega (arith, split_sum (λ (x : ℕ). x) xs s);
  largest = λ r within p. omega arith;
}
