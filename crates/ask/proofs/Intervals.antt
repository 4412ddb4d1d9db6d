-- The pairs of an interval are a run of the list, and the first of them stand in the lent places.
use Rattle.std.proofs.Common.{◌≡◌, ℕ, zero, suc, ◌+◌, ◌≤◌, Bool, true, false, cond, ◌&&◌, ◌⊎◌, inl, inr, min, List, [], ◌∷◌, ◌++◌, map, length, take, drop, Ordering, Less, Equal, Greater, sym, refl, ap, ◌∙◌, append-nil, arith}
use Rattle.std.proofs.lemmas.List.{take-append-drop, take-map, take_all, length-take-le, length-append, length-map}
use Rattle.std.proofs.lemmas.Bool.{both_ways}
use Rattle.std.specs.List.{AllByRecursion}
use Rattle.std.specs.Ordering.{is_lt, is_le, is_ge}
use Rattle.keys.specs.Orders.{Orderly}
use Rattle.plain.specs.Plain.{Sorted, rank, within, over}
use Rattle.plain.specs.declared.pair.Pair.{Pair}
use Rattle.plain.proofs.Alls.{all_map, how_many_none, kept_none}
use Rattle.plain.proofs.Floors.{highs}
use Rattle.ask.specs.Writes.{Lent, lent, laid, Part}
use Rattle.ask.proofs.Writing.{laid_none, laid_length}

module _ {K : Type 0} {order : K → K → Ordering} (o : Orderly order) where
  -- from low on, nothing is below it
  rank_zero : (low : K) (p : Pair K) (ps : List (Pair K)) → is_ge (order p.key low) ≡ true → AllByRecursion (λ q. order p.key q.key ≡ Less) ps → rank order low ps ≡ 0
  rank_zero low p ps g a = how_many_none (λ q. is_lt (order q.key low)) ps (all_map (λ q. order p.key q.key ≡ Less) (λ q. is_lt (order q.key low) ≡ false) ps (λ q s. later q.key s (order q.key low) refl) a)
    where
      later : (y : K) → order p.key y ≡ Less → (r : Ordering) → order y low ≡ r → is_lt r ≡ false
      later y s Less e = absurd (both_ways _ (ap is_ge (o.chain p.key y low s e)) g)
      later y s Equal e = refl
      later y s Greater e = refl

  off : (b : Bool) → (b && false) ≡ false
  off true = refl
  off false = refl

  -- those from low to high follow those below low
  pub within_run : (low high : K) (ps : List (Pair K)) → Sorted order ps → within order low high ps ≡ take (length (within order low high ps)) (drop (rank order low ps) ps)
  within_run low high [] a = refl
  within_run low high (p ∷ ps) a = go (order p.key low) (order p.key high) refl refl (within_run low high ps a.1)
    where
      qs : List (Pair K)
      qs = within order low high ps

      none : order p.key high ≡ Greater → qs ≡ []
      none e = kept_none (λ q. is_ge (order q.key low) && is_le (order q.key high)) ps (all_map (λ q. order q.key high ≡ Greater) (λ q. (is_ge (order q.key low) && is_le (order q.key high)) ≡ false) ps (λ q g. ap (λ r. is_ge (order q.key low) && is_le r) g ∙ off (is_ge (order q.key low))) (highs o high p ps e a.0))

      -- p is below low
      below : qs ≡ take (length qs) (drop (rank order low ps) ps) → qs ≡ take (length qs) (drop (1 + rank order low ps) (p ∷ ps))
      below ih = let more : 1 + rank order low ps ≡ suc (rank order low ps) = omega arith in ih ∙ sym (ap (λ n. take (length qs) (drop n (p ∷ ps))) more)

      -- p is one of them
      first : is_ge (order p.key low) ≡ true → qs ≡ take (length qs) (drop (rank order low ps) ps) → p ∷ qs ≡ take (suc (length qs)) (drop (0 + rank order low ps) (p ∷ ps))
      first g ih =
          let zero_is = rank_zero low p ps g a.0 in
          let still : 0 + rank order low ps ≡ 0 = omega (arith, zero_is) in
          ap (λ z. p ∷ z) (ih ∙ ap (λ n. take (length qs) (drop n ps)) zero_is) ∙ sym (ap (λ n. take (suc (length qs)) (drop n (p ∷ ps))) still)

      -- p is above high, and so are all that follow
      beyond : order p.key high ≡ Greater → (n : ℕ) → qs ≡ take (length qs) (drop n (p ∷ ps))
      beyond e n = none e ∙ sym (ap (λ z. take (length z) (drop n (p ∷ ps))) (none e))

      go : (r s : Ordering) → order p.key low ≡ r → order p.key high ≡ s → qs ≡ take (length qs) (drop (rank order low ps) ps) →
          cond (is_ge r && is_le s) (p ∷ qs) qs ≡ take (length (cond (is_ge r && is_le s) (p ∷ qs) qs)) (drop (cond (is_lt r) 1 0 + rank order low ps) (p ∷ ps))
      go Less Less e f ih = below ih
      go Less Equal e f ih = below ih
      go Less Greater e f ih = below ih
      go Equal Less e f ih = first (ap is_ge e) ih
      go Equal Equal e f ih = first (ap is_ge e) ih
      go Equal Greater e f ih = beyond f (0 + rank order low ps)
      go Greater Less e f ih = first (ap is_ge e) ih
      go Greater Equal e f ih = first (ap is_ge e) ih
      go Greater Greater e f ih = beyond f (0 + rank order low ps)

module _ {X : Type 0} where
  drop_none : (n : ℕ) → drop {A = X} n [] ≡ []
  drop_none zero = refl
  drop_none (suc n) = refl

  -- a part of the places, and the others after it
  pub laid_part : (n : ℕ) (xs ys : List X) → length xs ≤ n → laid zero xs (take n ys) ++ drop n ys ≡ laid zero xs ys
  laid_part zero [] ys h = sym (laid_none zero ys)
  laid_part zero (x ∷ xs) ys h = absurd (omega arith)
  laid_part (suc n) xs [] h = refl
  laid_part (suc n) [] (y ∷ ys) h = ap (λ z. y ∷ z) (take-append-drop n ys)
  laid_part (suc n) (x ∷ xs) (y ∷ ys) h = ap (λ z. x ∷ z) (laid_part n xs ys (omega arith))

  -- what is past the last place is not laid
  pub laid_most : (n : ℕ) (xs ys : List X) → n ≡ min (length xs) (length ys) → laid zero (take n xs) ys ≡ laid zero xs ys
  laid_most n xs [] h = refl
  laid_most zero [] (y ∷ ys) h = refl
  laid_most (suc n) [] (y ∷ ys) h = refl
  laid_most zero (x ∷ xs) (y ∷ ys) h = absurd (omega (arith, h))
  laid_most (suc n) (x ∷ xs) (y ∷ ys) h = ap (λ z. x ∷ z) (laid_most n xs ys (omega (arith, h)))

  pub laid_over : {P : Type 0} (f : P → X) (ps : List P) (ys : List X) → laid zero (map f ps) ys ≡ over f ps ys
  laid_over f ps [] = sym (drop_none (length ps))
  laid_over f [] (y ∷ ys) = refl
  laid_over f (p ∷ ps) (y ∷ ys) = ap (λ z. f p ∷ z) (laid_over f ps ys)

-- the first of a list, where all of them were taken or as many as n
first_is : {X : Type 0} (n : ℕ) (first rest all : List X) → first ++ rest ≡ all → length first ≤ n → (rest ≡ []) ⊎ (length first ≡ n) → first ≡ take n all
first_is {X} n first rest all e h (inl none) = let is : first ≡ all = sym (append-nil first) ∙ ap (λ z. first ++ z) (sym none) ∙ e in is ∙ sym (take_all n all (omega (arith, h, ap length is)))
first_is {X} n first rest all e h (inr long) = sym (take_front n first rest long) ∙ ap (take n) e
  where
    take_front : (n : ℕ) (xs ys : List X) → length xs ≡ n → take n (xs ++ ys) ≡ xs
    take_front zero [] ys h = refl
    take_front zero (x ∷ xs) ys h = absurd (omega arith)
    take_front (suc n) [] ys h = absurd (omega arith)
    take_front (suc n) (x ∷ xs) ys h = ap (λ z. x ∷ z) (take_front n xs ys (omega arith))

take_less : {X : Type 0} (n m : ℕ) (xs : List X) → n ≤ m → take n (take m xs) ≡ take n xs
take_less zero m xs h = refl
take_less (suc n) zero xs h = absurd (omega arith)
take_less (suc n) (suc m) [] h = refl
take_less (suc n) (suc m) (x ∷ xs) h = ap (λ z. x ∷ z) (take_less n m xs (omega arith))

length-take-most : {X : Type 0} (n : ℕ) (xs : List X) → length (take n xs) ≤ length xs
length-take-most zero xs = omega arith
length-take-most (suc n) [] = omega arith
length-take-most (suc n) (x ∷ xs) = omega (arith, length-take-most n xs)

module _ {K : Type 0} where
  -- qs are the first of ds, and the first `fit` places were lent for ds
  module _ (qs ds : List (Pair K)) (ks : List K) (hs : List ℕ) (fit : ℕ) (t : Lent K) (run : qs ≡ take (length qs) ds) (few : fit ≤ length qs) (fits : fit ≤ length ks) (even : length ks ≡ length hs) (within : t.written ≤ fit)
      (d : Part ds (lent (take fit ks) (take fit hs) 0) t) where
    count : t.written ≡ length d.first
    count = omega (arith, d.wrote.written)

    -- what was written are the first of them
    first_run : d.first ≡ take t.written qs
    first_run = first_is t.written d.first d.rest ds d.is (omega (arith, count)) (inr (omega (arith, count))) ∙ sym (ap (take t.written) run ∙ take_less t.written (length qs) ds (omega (arith, within, few)))

    placed : {X : Type 0} (f : Pair K → X) (xs zs : List X) → zs ≡ laid 0 (map f d.first) (take fit xs) → zs ++ drop fit xs ≡ laid 0 (map f (take t.written qs)) xs
    placed f xs zs e = ap (λ z. z ++ drop fit xs) e ∙ laid_part fit (map f d.first) xs (omega (arith, length-map d.first f, count, within)) ∙ ap (λ z. laid 0 (map f z) xs) first_run

    pub keys_over : t.keys ++ drop fit ks ≡ over (λ p. p.key) (take t.written qs) ks
    keys_over = placed (λ p. p.key) ks t.keys d.wrote.keys ∙ laid_over (λ p. p.key) (take t.written qs) ks

    pub handles_over : t.handles ++ drop fit hs ≡ over (λ p. p.handle) (take t.written qs) hs
    handles_over = placed (λ p. p.handle) hs t.handles d.wrote.handles ∙ laid_over (λ p. p.handle) (take t.written qs) hs

    -- all of them that fit, if nothing stopped the work
    module _ (least : fit ≡ min (length qs) (length ks)) (all : (d.rest ≡ []) ⊎ (t.written ≡ length t.keys)) where
      long : length t.keys ≡ fit
      long = ap length d.wrote.keys ∙ laid_length 0 (map (λ p. p.key) d.first) (take fit ks) ∙ length-take-le fit ks fits

      filled : t.written ≡ fit
      filled = elim all [
        | inl e ↦ omega (arith, within, count, ap length d.is, length-append d.first d.rest, ap length e, ap length run, length-take-most (length qs) ds, few)
        | inr e ↦ omega (arith, e, long)
      ]

      most : {X : Type 0} (f : Pair K → X) (xs zs : List X) → length xs ≡ length ks → zs ≡ laid 0 (map f d.first) (take fit xs) → zs ++ drop fit xs ≡ over f qs xs
      most f xs zs e z =
          placed f xs zs z
          ∙ ap (λ n. laid 0 (map f (take n qs)) xs) filled
          ∙ ap (λ y. laid 0 y xs) (sym (take-map f fit qs))
          ∙ laid_most fit (map f qs) xs (omega (arith, least, e, length-map qs f))
          ∙ laid_over f qs xs

      pub keys_all : t.keys ++ drop fit ks ≡ over (λ p. p.key) qs ks
      keys_all = most (λ p. p.key) ks t.keys refl d.wrote.keys

      pub handles_all : t.handles ++ drop fit hs ≡ over (λ p. p.handle) qs hs
      handles_all = most (λ p. p.handle) hs t.handles (sym even) d.wrote.handles
