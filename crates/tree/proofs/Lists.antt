-- Weights of lists, of their halves and of a place in them.
use Rattle.std.proofs.Common.{◌≡◌, ℕ, ◌+◌, ◌*◌, ◌≤◌, Bool, true, false, cond, List, [], ◌∷◌, ◌++◌, length, sym, refl, ap, ◌∙◌, append_assoc, append-nil, arith}
use Rattle.std.specs.List.{AllByRecursion}
use Rattle.tree.specs.Lists.{total, onto, joined, first_half, second_half, seek}

pub total_append : {X : Type 0} (w : X → ℕ) (xs ys : List X) → total w (xs ++ ys) ≡ total w xs + total w ys
total_append w [] ys = omega arith
total_append w (x ∷ xs) ys = omega (arith, total_append w xs ys)

pub total_onto : {X : Type 0} (w : X → ℕ) (b xs : List X) → total w (onto b xs) ≡ total w b + total w xs
total_onto w [] xs = omega arith
total_onto w (x ∷ b) xs = omega (arith, total_onto w b (x ∷ xs))

pub all_onto : {X : Type 0} (P : X → Type 0) (b xs : List X) → AllByRecursion P b → AllByRecursion P xs → AllByRecursion P (onto b xs)
all_onto P [] xs p q = q
all_onto P (x ∷ b) xs p q = all_onto P b (x ∷ xs) p.1 (p.0, q)

pub all_of_onto : {X : Type 0} (P : X → Type 0) (b xs : List X) → AllByRecursion P (onto b xs) → AllByRecursion P b × AllByRecursion P xs
all_of_onto P [] xs p = (tt, p)
all_of_onto P (x ∷ b) xs p = let r = all_of_onto P b (x ∷ xs) p in ((r.1.0, r.0), r.1.1)

-- the two halves make up the list
pub halves : {X : Type 0} (w : X → ℕ) (t a : ℕ) (xs : List X) → first_half w t a xs ++ second_half w t a xs ≡ xs
halves w t a [] = refl
halves w t a (x ∷ xs) = let ih = halves w t (a + w x) xs in grind arith

pub half_low : {X : Type 0} (w : X → ℕ) (t a : ℕ) (xs : List X) → 2 * a ≤ t → 2 * (a + total w (first_half w t a xs)) ≤ t
half_low w t a [] h = omega arith
half_low w t a (x ∷ xs) h = let ih = half_low w t (a + w x) xs in grind arith

pub half_high : {X : Type 0} (w : X → ℕ) (u t a : ℕ) (xs : List X) → AllByRecursion (λ x. 2 * w x ≤ u) xs → t ≡ a + total w xs → t ≤ 2 * (a + total w (first_half w t a xs)) + u
half_high w u t a [] p e = omega arith
half_high w u t a (x ∷ xs) p e = let ih = half_high w u t (a + w x) xs p.1 (omega arith) in grind arith

pub seek_back : {X : Type 0} (p : X → Bool) (b : List X) (x : X) (ys : List X) → onto (seek p b x ys).before ((seek p b x ys).here ∷ (seek p b x ys).after) ≡ onto b (x ∷ ys)
seek_back p b x [] = refl
seek_back p b x (y ∷ ys) = let ih = seek_back p (x ∷ b) y ys in grind arith

pub joined_append : {X Y : Type 0} (f : X → List Y) (xs ys : List X) → joined f (xs ++ ys) ≡ joined f xs ++ joined f ys
joined_append f [] ys = refl
joined_append f (x ∷ xs) ys = ap (λ l. f x ++ l) (joined_append f xs ys) ∙ sym (append_assoc (f x) (joined f xs) (joined f ys))

pub joined_onto : {X Y : Type 0} (f : X → List Y) (b xs : List X) → joined f (onto b xs) ≡ joined f (onto b []) ++ joined f xs
joined_onto f [] xs = refl
joined_onto f (x ∷ b) xs =
    let p = joined_onto f b (x ∷ xs) in
    let q = joined_onto f b (x ∷ []) in
    p ∙ sym (rw q (simp (append_assoc, append-nil)))

-- where a search stops
abbrev pub Stops : {X : Type 0} → (X → Bool) → List X → Type 0
Stops p [] = Unit {0}
Stops p (y ∷ ys) = p y ≡ false

abbrev pub Passed : {X : Type 0} → (X → Bool) → List X → X → Type 0
Passed p [] x = Unit {0}
Passed p (y ∷ b) x = p x ≡ true

pub seek_stops : {X : Type 0} (p : X → Bool) (b : List X) (x : X) (ys : List X) → Stops p (seek p b x ys).after
seek_stops p b x [] = tt
seek_stops {X} p b x (y ∷ ys) = go (p y) refl (seek_stops p (x ∷ b) y ys)
  where
    go : (t : Bool) → p y ≡ t → Stops p (seek p (x ∷ b) y ys).after → Stops p (cond t (seek p (x ∷ b) y ys) (record { before = b; here = x; after = y ∷ ys })).after
    go true e ih = ih
    go false e ih = e

pub seek_passed : {X : Type 0} (p : X → Bool) (b : List X) (x : X) (ys : List X) → Passed p b x → Passed p (seek p b x ys).before (seek p b x ys).here
seek_passed p b x [] q = q
seek_passed p b x (y ∷ ys) q = go (p y) refl (λ t. seek_passed p (x ∷ b) y ys t)
  where
    go : (t : Bool) → p y ≡ t → (p y ≡ true → Passed p (seek p (x ∷ b) y ys).before (seek p (x ∷ b) y ys).here) →
        Passed p (cond t (seek p (x ∷ b) y ys) (record { before = b; here = x; after = y ∷ ys })).before (cond t (seek p (x ∷ b) y ys) (record { before = b; here = x; after = y ∷ ys })).here
    go true e ih = ih e
    go false e ih = q

pub length_onto : {X : Type 0} (b xs : List X) → length (onto b xs) ≡ length b + length xs
length_onto [] xs = omega arith
length_onto (x ∷ b) xs = omega (arith, length_onto b (x ∷ xs))

pub total_one : {X : Type 0} (xs : List X) → total (λ (x : X). 1) xs ≡ length xs
total_one [] = refl
total_one (x ∷ xs) = omega (arith, total_one xs)

pub total_none : {X : Type 0} (xs : List X) → total (λ (x : X). 0) xs ≡ 0
total_none [] = refl
total_none (x ∷ xs) = omega (arith, total_none xs)

pub all_unit : {X : Type 0} (xs : List X) → AllByRecursion (λ (x : X). Unit {0}) xs
all_unit [] = tt
all_unit (x ∷ xs) = (tt, all_unit xs)
