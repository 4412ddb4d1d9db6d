-- Plain lists of pairs in ascending order, by the parts below a key, about it and above it.
use Rattle.std.proofs.Common.{◌≡◌, ℕ, zero, suc, Bool, true, false, cond, List, [], ◌∷◌, ◌++◌, take, drop, is_some, Some, Ordering, Less, Equal, Greater, refl, ap}
use Rattle.std.proofs.lemmas.Bool.{false≢true, true≢false}
use Rattle.std.specs.Ordering.{is_le, is_eq}
use Rattle.std.specs.List.{AllByRecursion}
use Rattle.keys.specs.Orders.{Orderly}
use Rattle.plain.specs.Plain.{Sorted, find, present, put, cut}
use Rattle.plain.specs.declared.pair.Pair.{Pair}
use Rattle.plain.proofs.Alls.{all_map, all_front, all_back}

module _ {K : Type 0} (order : K → K → Ordering) where
  -- all keys of a list are below k, and all are above it
  abbrev pub Low : K → List (Pair K) → Type 0
  Low k ps = AllByRecursion (λ p. order p.key k ≡ Less) ps

  abbrev pub High : K → List (Pair K) → Type 0
  High k ps = AllByRecursion (λ p. order p.key k ≡ Greater) ps

  pub put_after : (k : K) (h : ℕ) (xs ys : List (Pair K)) → Low k xs → put order k h (xs ++ ys) ≡ xs ++ put order k h ys
  put_after k h [] ys a = refl
  put_after k h (x ∷ xs) ys a = rw a.0 (ap (λ l. x ∷ l) (put_after k h xs ys a.1))

  pub put_before : (k : K) (h : ℕ) (xs ys : List (Pair K)) → High k ys → put order k h (xs ++ ys) ≡ put order k h xs ++ ys
  put_before k h [] [] a = refl
  put_before k h [] (y ∷ ys) a = rw a.0
  put_before k h (x ∷ xs) ys a = go (is_le (order x.key k)) (put_before k h xs ys a)
    where
      go : (b : Bool) → put order k h (xs ++ ys) ≡ put order k h xs ++ ys → cond b (x ∷ put order k h (xs ++ ys)) (record { key = k; handle = h } ∷ x ∷ xs ++ ys) ≡ cond b (x ∷ put order k h xs) (record { key = k; handle = h } ∷ x ∷ xs) ++ ys
      go true ih = ap (λ l. x ∷ l) ih
      go false ih = refl

  -- where the keys at most k are the first r
  pub put_place : (k : K) (h : ℕ) (xs : List (Pair K)) (r : ℕ) → AllByRecursion (λ p. is_le (order p.key k) ≡ true) (take r xs) → AllByRecursion (λ p. order p.key k ≡ Greater) (drop r xs) → put order k h xs ≡ take r xs ++ (record { key = k; handle = h } ∷ drop r xs)
  put_place k h [] zero a b = refl
  put_place k h [] (suc r) a b = refl
  put_place k h (x ∷ xs) zero a b = rw b.0 refl
  put_place k h (x ∷ xs) (suc r) a b = rw a.0 (ap (λ l. x ∷ l) (put_place k h xs r a.1 b))

  pub find_after : (k : K) (xs ys : List (Pair K)) → Low k xs → find order k (xs ++ ys) ≡ find order k ys
  find_after k [] ys a = refl
  find_after k (x ∷ xs) ys a = rw a.0 (find_after k xs ys a.1)

  pub find_before : (k : K) (xs ys : List (Pair K)) → High k ys → find order k (xs ++ ys) ≡ find order k xs
  find_before k [] [] a = refl
  find_before k [] (y ∷ ys) a = rw a.0 (find_before k [] ys a.1)
  find_before k (x ∷ xs) ys a = ap (cond (is_eq (order x.key k)) (Some x.handle)) (find_before k xs ys a)

  pub cut_after : (k : K) (xs ys : List (Pair K)) → Low k xs → cut order k (xs ++ ys) ≡ xs ++ cut order k ys
  cut_after k [] ys a = refl
  cut_after k (x ∷ xs) ys a = rw a.0 (ap (λ l. x ∷ l) (cut_after k xs ys a.1))

  pub cut_before : (k : K) (xs ys : List (Pair K)) → present order k xs ≡ true → cut order k (xs ++ ys) ≡ cut order k xs ++ ys
  cut_before k [] ys e = absurd (false≢true e)
  cut_before k (x ∷ xs) ys e = go (is_eq (order x.key k)) e (cut_before k xs ys)
    where
      go : (b : Bool) → is_some (cond b (Some x.handle) (find order k xs)) ≡ true → (present order k xs ≡ true → cut order k (xs ++ ys) ≡ cut order k xs ++ ys) → cond b (xs ++ ys) (x ∷ cut order k (xs ++ ys)) ≡ cond b xs (x ∷ cut order k xs) ++ ys
      go true e ih = refl
      go false e ih = ap (λ l. x ∷ l) (ih e)

  pub sorted_front : (xs ys : List (Pair K)) → Sorted order (xs ++ ys) → Sorted order xs
  sorted_front [] ys a = tt
  sorted_front (x ∷ xs) ys a = (all_front (λ p. order x.key p.key ≡ Less) xs ys a.0, sorted_front xs ys a.1)

  pub sorted_back : (xs ys : List (Pair K)) → Sorted order (xs ++ ys) → Sorted order ys
  sorted_back [] ys a = a
  sorted_back (x ∷ xs) ys a = sorted_back xs ys a.1

  pub sorted_across : (xs ys : List (Pair K)) → Sorted order (xs ++ ys) → AllByRecursion (λ p. AllByRecursion (λ q. order p.key q.key ≡ Less) ys) xs
  sorted_across [] ys a = tt
  sorted_across (x ∷ xs) ys a = (all_back (λ p. order x.key p.key ≡ Less) xs ys a.0, sorted_across xs ys a.1)

  all_put : (P : Pair K → Type 0) (k : K) (h : ℕ) (xs : List (Pair K)) → P (record { key = k; handle = h }) → AllByRecursion P xs → AllByRecursion P (put order k h xs)
  all_put P k h [] p q = (p, tt)
  all_put P k h (x ∷ xs) p q = go (is_le (order x.key k)) (all_put P k h xs p q.1)
    where
      go : (b : Bool) → AllByRecursion P (put order k h xs) → AllByRecursion P (cond b (x ∷ put order k h xs) (record { key = k; handle = h } ∷ x ∷ xs))
      go true ih = (q.0, ih)
      go false ih = (p, q)

  all_cut : (P : Pair K → Type 0) (k : K) (xs : List (Pair K)) → AllByRecursion P xs → AllByRecursion P (cut order k xs)
  all_cut P k [] q = tt
  all_cut P k (x ∷ xs) q = go (is_eq (order x.key k)) (all_cut P k xs q.1)
    where
      go : (b : Bool) → AllByRecursion P (cut order k xs) → AllByRecursion P (cond b xs (x ∷ cut order k xs))
      go true ih = q.1
      go false ih = (q.0, ih)

  pub sorted_cut : (k : K) (xs : List (Pair K)) → Sorted order xs → Sorted order (cut order k xs)
  sorted_cut k [] a = tt
  sorted_cut k (x ∷ xs) a = go (is_eq (order x.key k)) (sorted_cut k xs a.1)
    where
      go : (b : Bool) → Sorted order (cut order k xs) → Sorted order (cond b xs (x ∷ cut order k xs))
      go true ih = a.1
      go false ih = (all_cut (λ p. order x.key p.key ≡ Less) k xs a.0, ih)

module _ {K : Type 0} {order : K → K → Ordering} (o : Orderly order) where
  pub sorted_put : (k : K) (h : ℕ) (xs : List (Pair K)) → Sorted order xs → present order k xs ≡ false → Sorted order (put order k h xs)
  sorted_put k h [] a e = (tt, tt)
  sorted_put k h (x ∷ xs) a e = go (order x.key k) refl (sorted_put k h xs a.1) e
    where
      go : (r : Ordering) → order x.key k ≡ r → (present order k xs ≡ false → Sorted order (put order k h xs)) → is_some (cond (is_eq r) (Some x.handle) (find order k xs)) ≡ false → Sorted order (cond (is_le r) (x ∷ put order k h xs) (record { key = k; handle = h } ∷ x ∷ xs))
      go Less s ih f = (all_put order (λ p. order x.key p.key ≡ Less) k h xs s a.0, ih f)
      go Equal s ih f = absurd (true≢false f)
      go Greater s ih f =
          let below = o.flops x.key k s in
          ((below, all_map (λ p. order x.key p.key ≡ Less) (λ p. order k p.key ≡ Less) xs (λ p q. o.chain k x.key p.key below q) a.0), a)
