-- Children fused about a place, by its number.
use Rattle.std.proofs.Common.{◌≡◌, ℕ, zero, suc, ◌+◌, ◌-◌, ◌<◌, ◌≤◌, List, [], ◌∷◌, ◌++◌, length, get_or, take, drop, sym, refl, ap, ap₂, ◌∙◌, subst, arith}
use Rattle.std.proofs.lemmas.List.{append-nil, take-append-drop, take_more, drop_more}
use Rattle.tree.specs.Lists.{onto}
use Rattle.tree.specs.Tree.{Item, merged, merged_mark, fused, fused_mark}

-- one more in front of what was put backwards
onto_last : {X : Type 0} (b : List X) (x : X) (ys : List X) → onto (b ++ (x ∷ [])) ys ≡ x ∷ onto b ys
onto_last [] x ys = refl
onto_last (z ∷ b) x ys = onto_last b x (z ∷ ys)

-- backwards twice
onto_twice : {X : Type 0} (b ys zs : List X) → onto (onto b ys) zs ≡ onto ys (b ++ zs)
onto_twice [] ys zs = refl
onto_twice (x ∷ b) ys zs = onto_twice b (x ∷ ys) zs

-- back again
pub onto_back : {X : Type 0} (b ys : List X) → onto (onto b []) ys ≡ b ++ ys
onto_back b ys = onto_twice b [] ys

-- what is a list when put back is that list backwards
pub onto_of : {X : Type 0} (b t : List X) → ((ys : List X) → onto b ys ≡ t ++ ys) → b ≡ onto t []
onto_of b t h =
    let e : onto b [] ≡ t = h [] ∙ append-nil t in
    sym (append-nil b) ∙ sym (onto_back b []) ∙ ap (λ z. onto z []) e

-- a list about one of its elements
pub about : {X : Type 0} (xs : List X) (i : ℕ) (d : X) → i < length xs → take i xs ++ (get_or xs i d ∷ drop (i + 1) xs) ≡ xs
about xs i d h = ap (λ z. take i xs ++ z) (sym (drop_more xs i d h)) ∙ take-append-drop i xs

module _ (K : Type 0) (unit : ℕ → ℕ) (l : ℕ) where
  -- the child at place i with its left neighbour, or its right one if it has no left: those at the places j and j + 1
  pub record FusedAt (xs : List (Item K (suc l))) (i j : ℕ) : Type 0 where
    pub fused_is : fused K unit l (onto (take i xs) []) (get_or xs i []) (drop (i + 1) xs) ≡ take j xs ++ (merged K unit l (get_or xs j [] ++ get_or xs (j + 1) []) ++ drop (j + 2) xs)
    pub mark_is : fused_mark K unit l (onto (take i xs) []) (get_or xs i []) (drop (i + 1) xs) ≡ merged_mark K unit l (get_or xs j [] ++ get_or xs (j + 1) [])

  with_right : (xs : List (Item K (suc l))) → 2 ≤ length xs → FusedAt xs 0 0
  with_right [] two = absurd (omega arith)
  with_right (x ∷ []) two = absurd (omega arith)
  with_right (x ∷ y ∷ a) two = record { fused_is = refl; mark_is = refl }

  with_left : (xs : List (Item K (suc l))) (j : ℕ) → suc j < length xs → FusedAt xs (suc j) j
  with_left xs j h =
      let next : suc j ≡ j + 1 = omega arith in
      let more : suc j + 1 ≡ j + 2 = omega arith in
      let back : onto (take (suc j) xs) [] ≡ get_or xs j [] ∷ onto (take j xs) [] = ap (λ z. onto z []) (ap (λ n. take n xs) next ∙ take_more xs j [] (omega arith)) ∙ onto_last (take j xs) (get_or xs j []) [] in
      record {
        fused_is = ap (λ z. fused K unit l z (get_or xs (suc j) []) (drop (suc j + 1) xs)) back
            ∙ onto_back (take j xs) (merged K unit l (get_or xs j [] ++ get_or xs (suc j) []) ++ drop (suc j + 1) xs)
            ∙ ap₂ (λ n k. take j xs ++ (merged K unit l (get_or xs j [] ++ get_or xs n []) ++ drop k xs)) next more;
        mark_is = ap (λ z. fused_mark K unit l z (get_or xs (suc j) []) (drop (suc j + 1) xs)) back
            ∙ ap (λ n. merged_mark K unit l (get_or xs j [] ++ get_or xs n [])) next;
      }

  pub fused_at : (xs : List (Item K (suc l))) (i j : ℕ) → j ≡ i - 1 → i < length xs → 2 ≤ length xs → FusedAt xs i j
  fused_at xs zero j e h two = let z : 0 ≡ j = omega (arith, e) in subst (FusedAt xs zero) z (with_right xs two)
  fused_at xs (suc k) j e h two = let z : k ≡ j = omega (arith, e) in subst (FusedAt xs (suc k)) z (with_left xs k h)
