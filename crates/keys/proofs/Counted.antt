-- A test that all elements pass up to a place in a list, and none from there on.
use Rattle.std.proofs.Common.{◌≡◌, ℕ, zero, suc, ◌+◌, ◌<◌, ◌≤◌, Bool, true, false, ◌⊎◌, List, [], ◌∷◌, length, get_or, Ordering, Less, Equal, Greater, refl, ap, subst, inl, inr, arith}
use Rattle.std.specs.Ordering.{is_le, is_lt}
use Rattle.std.specs.List.{AllByRecursion, AllWithin}
use Rattle.std.specs.List.Sorted.{IsPartitionedBy}
use Rattle.keys.specs.Orders.{Orderly}
use Rattle.keys.specs.Sorted.{Ascending, how_many, passes}
use Rattle.keys.specs.Totals.{less_below}

lt_or_eq : (k m : ℕ) → k < m + 1 → (k < m) ⊎ (k ≡ m)
lt_or_eq k m h = grind arith

lt_or_eq' : (m k : ℕ) → m ≤ k → (m < k) ⊎ (k ≡ m)
lt_or_eq' m k h = grind arith

-- within the list the default does not matter
get_or_any : {X : Type 0} (xs : List X) (i : ℕ) (d e : X) → i < length xs → get_or xs i d ≡ get_or xs i e
get_or_any [] i d e h = absurd (omega arith)
get_or_any (x ∷ xs) zero d e h = refl
get_or_any (x ∷ xs) (suc i) d e h = get_or_any xs i d e (omega arith)

all_at : {X : Type 0} (P : X → Type 0) (xs : List X) (i : ℕ) (d : X) → AllByRecursion P xs → i < length xs → P (get_or xs i d)
all_at P [] i d a h = absurd (omega arith)
all_at P (x ∷ xs) zero d a h = a.0
all_at P (x ∷ xs) (suc i) d a h = all_at P xs i d a.1 (omega arith)

-- ascending, by places
pub ascending_at : {X : Type 0} (order : X → X → Ordering) (xs : List X) → Ascending order xs → (i j : ℕ) (d : X) → i < j → j < length xs → order (get_or xs i d) (get_or xs j d) ≡ Less
ascending_at order [] a i j d h w = absurd (omega arith)
ascending_at order (x ∷ xs) a i zero d h w = absurd (omega arith)
ascending_at order (x ∷ xs) a zero (suc j) d h w = all_at (λ y. order x y ≡ Less) xs j d a.0 (omega arith)
ascending_at order (x ∷ xs) a (suc i) (suc j) d h w = ascending_at order xs a.1 i j d (omega arith) (omega arith)

module _ {X : Type 0} (p : X → Bool) where
  abbrev Front : List X → ℕ → Type 0
  Front xs r = AllWithin (λ y. p y ≡ true) xs 0 r

  abbrev Back : List X → ℕ → Type 0
  Back xs r = AllWithin (λ y. p y ≡ false) xs r (length xs)

  -- where those that pass end, there are so many
  pub front_count : (xs : List X) (r : ℕ) → r ≤ length xs → Front xs r → Back xs r → how_many p xs ≡ r
  front_count [] r h f b = omega arith
  front_count (x ∷ xs) zero h f b =
      let e = b 0 x (omega arith) (omega arith) in
      let i = front_count xs zero (omega arith) (λ k d l m. absurd (omega arith)) (λ k d l m. b (suc k) d (omega arith) (omega arith)) in
      rw e (omega arith)
  front_count (x ∷ xs) (suc r) h f b =
      let e = f 0 x (omega arith) (omega arith) in
      let i = front_count xs r (omega arith) (λ k d l m. f (suc k) d (omega arith) (omega arith)) (λ k d l m. b (suc k) d (omega arith) (omega arith)) in
      rw e (omega arith)

-- what is below one that passes passes
pub passes_below : {K : Type 0} {order : K → K → Ordering} (o : Orderly order) (equal : Bool) (q x y : K) → order x y ≡ Less → passes equal (order y q) ≡ true → passes equal (order x q) ≡ true
passes_below o true q x y up h = ap is_le (less_below o x y q up h)
passes_below o false q x y up h = ap is_lt (less_below o x y q up (at_most _ h))
  where
    at_most : (r : Ordering) → is_lt r ≡ true → is_le r ≡ true
    at_most Less e = refl
    at_most Equal e = refl
    at_most Greater e = e

module _ {K : Type 0} {order : K → K → Ordering} (o : Orderly order) (equal : Bool) (q : K) (xs : List K) (up : Ascending order xs) where
  -- of keys that ascend, none that passes comes after one that does not
  pub parted : IsPartitionedBy (λ y. passes equal (order y q)) xs
  parted i j d h w e = go (lt_or_eq' i j h)
    where
      go : (i < j) ⊎ (j ≡ i) → passes equal (order (get_or xs i d) q) ≡ true
      go (inl b) = passes_below o equal q (get_or xs i d) (get_or xs j d) (ascending_at order xs up i j d b w) e
      go (inr b) = subst (λ k. passes equal (order (get_or xs k d) q) ≡ true) b e
