-- Pairs written into the next places of lent keys and handles, one part after the other.
use Rattle.std.proofs.Common.{◌≡◌, ℕ, zero, suc, ◌+◌, ◌≤◌, inl, inr, List, [], ◌∷◌, ◌++◌, map, length, slice_set, take, add-one, drop, sym, refl, ap, ap₂, ◌∙◌, append_assoc, append-nil, arith}
use Rattle.std.proofs.lemmas.List.{length-map, map-append, length-append, take-append-drop}
use Rattle.plain.specs.declared.pair.Pair.{Pair}
use Rattle.ask.specs.Writes.{Lent, laid, Wrote, Part, Fills}

module _ {X : Type 0} where
  pub laid_none : (d : ℕ) (ys : List X) → laid d [] ys ≡ ys
  laid_none d [] = refl
  laid_none zero (y ∷ ys) = refl
  laid_none (suc d) (y ∷ ys) = ap (λ z. y ∷ z) (laid_none d ys)

  pub laid_length : (d : ℕ) (xs ys : List X) → length (laid d xs ys) ≡ length ys
  laid_length d xs [] = refl
  laid_length (suc d) xs (y ∷ ys) = ap suc (laid_length d xs ys)
  laid_length zero [] (y ∷ ys) = refl
  laid_length zero (x ∷ xs) (y ∷ ys) = ap suc (laid_length zero xs ys)

  pub laid_then : (d e : ℕ) (xs zs ys : List X) → e ≡ d + length xs → laid e zs (laid d xs ys) ≡ laid d (xs ++ zs) ys
  laid_then d e xs zs [] h = refl
  laid_then zero e [] zs (y ∷ ys) h = let none : e ≡ 0 = omega (arith, h) in ap (λ z. laid z zs (y ∷ ys)) none
  laid_then zero zero (x ∷ xs) zs (y ∷ ys) h = absurd (omega (arith, h))
  laid_then zero (suc e) (x ∷ xs) zs (y ∷ ys) h = ap (λ z. x ∷ z) (laid_then zero e xs zs ys (omega (arith, h)))
  laid_then (suc d) zero xs zs (y ∷ ys) h = absurd (omega (arith, h))
  laid_then (suc d) (suc e) xs zs (y ∷ ys) h = ap (λ z. y ∷ z) (laid_then d e xs zs ys (omega (arith, h)))

  pub laid_one : (d : ℕ) (x : X) (ys : List X) → slice_set ys d x ≡ laid d (x ∷ []) ys
  laid_one d x [] = refl
  laid_one zero x (y ∷ ys) = ap (λ z. x ∷ z) (sym (laid_none zero ys))
  laid_one (suc d) x (y ∷ ys) = ap (λ z. y ∷ z) (laid_one d x ys)

  -- the elements from place f on, up to place i and after it
  pub drop_split : (f i : ℕ) (xs : List X) → f ≤ i → drop f xs ≡ drop f (take i xs) ++ drop i xs
  drop_split zero i xs h = sym (take-append-drop i xs)
  drop_split (suc f) zero xs h = absurd (omega arith)
  drop_split (suc f) (suc i) [] h = refl
  drop_split (suc f) (suc i) (x ∷ xs) h = drop_split f i xs (omega arith)

  take_next : (i : ℕ) (xs : List X) → take (suc i) xs ≡ take i xs ++ take 1 (drop i xs)
  take_next zero xs = refl
  take_next (suc i) [] = refl
  take_next (suc i) (x ∷ xs) = ap (λ z. x ∷ z) (take_next i xs)

  drop_suc : (f i : ℕ) (xs : List X) → f ≤ i → drop f (take (suc i) xs) ≡ drop f (take i xs) ++ take 1 (drop i xs)
  drop_suc zero i xs h = take_next i xs
  drop_suc (suc f) zero xs h = absurd (omega arith)
  drop_suc (suc f) (suc i) [] h = refl
  drop_suc (suc f) (suc i) (x ∷ xs) h = drop_suc f i xs (omega arith)

  -- one more
  pub drop_next : (f i : ℕ) (xs : List X) → f ≤ i → drop f (take (i + 1) xs) ≡ drop f (take i xs) ++ take 1 (drop i xs)
  drop_next f i xs h = rw add-one (drop_suc f i xs h)

  pub drop_taken : (f : ℕ) (xs : List X) → drop f (take f xs) ≡ []
  drop_taken zero xs = refl
  drop_taken (suc f) [] = refl
  drop_taken (suc f) (x ∷ xs) = drop_taken f xs

  no_length : (xs : List X) → length xs ≡ 0 → xs ≡ []
  no_length [] e = refl
  no_length (x ∷ xs) e = absurd (omega arith)

module _ {K : Type 0} where
  wrote_length : (ps : List (Pair K)) (s t : Lent K) → Wrote ps s t → length t.keys ≡ length s.keys
  wrote_length ps s t w = ap length w.keys ∙ laid_length s.written (map (λ p. p.key) ps) s.keys

  pub wrote_none : (s : Lent K) → Wrote [] s s
  wrote_none s = record { keys = sym (laid_none s.written s.keys); handles = sym (laid_none s.written s.handles); written = omega arith }

  laid_on : {Y : Type 0} (f : Pair K → Y) (d e : ℕ) (ps qs : List (Pair K)) (ys zs ws : List Y) → e ≡ d + length ps → zs ≡ laid d (map f ps) ys → ws ≡ laid e (map f qs) zs → ws ≡ laid d (map f (ps ++ qs)) ys
  laid_on f d e ps qs ys zs ws h x y = y ∙ ap (laid e (map f qs)) x ∙ laid_then d e (map f ps) (map f qs) ys (omega (arith, h, length-map ps f)) ∙ ap (λ z. laid d z ys) (sym (map-append f ps qs))

  pub wrote_then : (ps qs : List (Pair K)) (s t u : Lent K) → Wrote ps s t → Wrote qs t u → Wrote (ps ++ qs) s u
  wrote_then ps qs s t u a b = record {
    keys = laid_on (λ p. p.key) s.written t.written ps qs s.keys t.keys u.keys a.written a.keys b.keys;
    handles = laid_on (λ p. p.handle) s.written t.written ps qs s.handles t.handles u.handles a.written a.handles b.handles;
    written = omega (arith, a.written, b.written, length-append ps qs);
  }

  pub part_none : (ps : List (Pair K)) (s : Lent K) → Part ps s s
  part_none ps s = record { first = []; rest = ps; is = refl; wrote = wrote_none s }

  pub fills_none : (s : Lent K) → Fills [] s s
  fills_none s = record { part = record { first = []; rest = []; is = refl; wrote = wrote_none s }; all = inl refl }

  -- where no place is left nothing is to be written
  pub fills_full : (ps : List (Pair K)) (s : Lent K) → s.written ≡ length s.keys → Fills ps s s
  fills_full ps s e = record { part = part_none ps s; all = inr e }

  -- after the first part others are to come
  pub part_more : (ps qs : List (Pair K)) (s t : Lent K) → Part ps s t → Part (ps ++ qs) s t
  part_more ps qs s t a = record { first = a.first; rest = a.rest ++ qs; is = sym (append_assoc a.first a.rest qs) ∙ ap (λ z. z ++ qs) a.is; wrote = a.wrote }

  pub fills_more : (ps qs : List (Pair K)) (s t : Lent K) → Fills ps s t → t.written ≡ length t.keys → Fills (ps ++ qs) s t
  fills_more ps qs s t a e = record { part = part_more ps qs s t a.part; all = inr e }

  module _ (ps qs : List (Pair K)) (s t u : Lent K) (a : Fills ps s t) (b : Part qs t u) (within : u.written ≤ length u.keys) where
    wrote : Wrote (a.part.first ++ b.first) s u
    wrote = wrote_then a.part.first b.first s t u a.part.wrote b.wrote

    after : a.part.rest ≡ [] → (a.part.first ++ b.first) ++ b.rest ≡ ps ++ qs
    after e = append_assoc a.part.first b.first b.rest ∙ ap₂ (λ x y. x ++ y) (sym (append-nil a.part.first) ∙ ap (λ z. a.part.first ++ z) (sym e) ∙ a.part.is) b.is

    -- where the first part left no room
    none : t.written ≡ length t.keys → b.first ≡ []
    none e = no_length b.first (omega (arith, b.wrote.written, e, within, wrote_length b.first t u b.wrote))

    full : t.written ≡ length t.keys → u.written ≡ length u.keys
    full e = omega (arith, b.wrote.written, e, wrote_length b.first t u b.wrote, ap length (none e))

    stuck : t.written ≡ length t.keys → (a.part.first ++ b.first) ++ (a.part.rest ++ qs) ≡ ps ++ qs
    stuck e = ap (λ z. (a.part.first ++ z) ++ (a.part.rest ++ qs)) (none e) ∙ ap (λ z. z ++ (a.part.rest ++ qs)) (append-nil a.part.first) ∙ sym (append_assoc a.part.first a.part.rest qs) ∙ ap (λ z. z ++ qs) a.part.is

    pub part_then : Part (ps ++ qs) s u
    part_then = elim a.all [
      | inl e ↦ record { first = a.part.first ++ b.first; rest = b.rest; is = after e; wrote = wrote }
      | inr e ↦ record { first = a.part.first ++ b.first; rest = a.part.rest ++ qs; is = stuck e; wrote = wrote }
    ]

  pub fills_then : (ps qs : List (Pair K)) (s t u : Lent K) → Fills ps s t → Fills qs t u → u.written ≤ length u.keys → Fills (ps ++ qs) s u
  fills_then ps qs s t u a b within = elim a.all [
    | inl e ↦ record { part = record { first = a.part.first ++ b.part.first; rest = b.part.rest; is = after ps qs s t u a b.part within e; wrote = wrote ps qs s t u a b.part within }; all = b.all }
    | inr e ↦ record { part = record { first = a.part.first ++ b.part.first; rest = a.part.rest ++ qs; is = stuck ps qs s t u a b.part within e; wrote = wrote ps qs s t u a b.part within }; all = inr (full ps qs s t u a b.part within e) }
  ]
