-- What holds of every element of a list.
use Rattle.std.proofs.Common.{◌≡◌, ◌+◌, Bool, true, false, cond, List, [], ◌∷◌, ◌++◌, length, Some, None, filter, Option, unwrap_or, sym, refl, ap, ◌∙◌, arith}
use Rattle.std.specs.List.{AllByRecursion, last_or}
use Rattle.keys.specs.Sorted.{how_many}

pub all_map : {X : Type 0} (P Q : X → Type 0) (xs : List X) → ((x : X) → P x → Q x) → AllByRecursion P xs → AllByRecursion Q xs
all_map P Q [] f p = tt
all_map P Q (x ∷ xs) f p = (f x p.0, all_map P Q xs f p.1)

pub all_append : {X : Type 0} (P : X → Type 0) (xs ys : List X) → AllByRecursion P xs → AllByRecursion P ys → AllByRecursion P (xs ++ ys)
all_append P [] ys p q = q
all_append P (x ∷ xs) ys p q = (p.0, all_append P xs ys p.1 q)

pub all_front : {X : Type 0} (P : X → Type 0) (xs ys : List X) → AllByRecursion P (xs ++ ys) → AllByRecursion P xs
all_front P [] ys p = tt
all_front P (x ∷ xs) ys p = (p.0, all_front P xs ys p.1)

pub all_back : {X : Type 0} (P : X → Type 0) (xs ys : List X) → AllByRecursion P (xs ++ ys) → AllByRecursion P ys
all_back P [] ys p = p
all_back P (x ∷ xs) ys p = all_back P xs ys p.1

pub all_any : {X : Type 0} (P : X → Type 0) (xs : List X) → ((x : X) → P x) → AllByRecursion P xs
all_any P [] f = tt
all_any P (x ∷ xs) f = (f x, all_any P xs f)

module _ {X : Type 0} (p : X → Bool) where
  pub kept_append : (xs ys : List X) → filter p (xs ++ ys) ≡ filter p xs ++ filter p ys
  kept_append [] ys = refl
  kept_append (x ∷ xs) ys = go (p x) (kept_append xs ys)
    where
      go : (b : Bool) → filter p (xs ++ ys) ≡ filter p xs ++ filter p ys → cond b (x ∷ filter p (xs ++ ys)) (filter p (xs ++ ys)) ≡ cond b (x ∷ filter p xs) (filter p xs) ++ filter p ys
      go true ih = ap (λ l. x ∷ l) ih
      go false ih = ih

  pub kept_none : (xs : List X) → AllByRecursion (λ x. p x ≡ false) xs → filter p xs ≡ []
  kept_none [] a = refl
  kept_none (x ∷ xs) a = rw a.0 (kept_none xs a.1)

  pub kept_all : (xs : List X) → AllByRecursion (λ x. p x ≡ true) xs → filter p xs ≡ xs
  kept_all [] a = refl
  kept_all (x ∷ xs) a = rw a.0 (ap (λ l. x ∷ l) (kept_all xs a.1))

  pub how_many_append : (xs ys : List X) → how_many p (xs ++ ys) ≡ how_many p xs + how_many p ys
  how_many_append [] ys = omega arith
  how_many_append (x ∷ xs) ys = omega (arith, how_many_append xs ys)

  pub how_many_none : (xs : List X) → AllByRecursion (λ x. p x ≡ false) xs → how_many p xs ≡ 0
  how_many_none [] a = refl
  how_many_none (x ∷ xs) a = rw a.0 (omega (arith, how_many_none xs a.1))

  pub how_many_all : (xs : List X) → AllByRecursion (λ x. p x ≡ true) xs → how_many p xs ≡ length xs
  how_many_all [] a = refl
  how_many_all (x ∷ xs) a = rw a.0 (omega (arith, how_many_all xs a.1))

pub last_append : {X : Type 0} (o : Option X) (xs ys : List X) → last_or o (xs ++ ys) ≡ last_or (last_or o xs) ys
last_append o [] ys = refl
last_append o (x ∷ xs) ys = last_append (Some x) xs ys

-- a list with a last element does not ask for another
pub last_some : {X : Type 0} (x : X) (xs : List X) → last_or (Some x) xs ≡ Some (unwrap_or (last_or None xs) x)
last_some x [] = refl
last_some {X} x (y ∷ ys) = last_some y ys ∙ ap (λ o. Some (unwrap_or {T = X} o x)) (sym (last_some y ys))
