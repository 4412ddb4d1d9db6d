-- The splits and the way down are those of the rules.
use Rattle.std.proofs.Common.{◌≡◌, ℕ, zero, suc, ◌+◌, ◌-◌, ◌*◌, ◌/◌, ◌<◌, ◌≤◌, Bool, true, false, ◌⊎◌, List, [], ◌∷◌, ◌++◌, map, length, get_or, take, drop, Ordering, sym, refl, ap, ◌∙◌, inl, inr, arith}
use Rattle.std.proofs.lemmas.List.{take_at, drop_at, get_or_at, get_or-append_right, length-append, append_assoc, take-map, drop-map, length-map}
use Rattle.std.proofs.ByRecursion.{All-get_or}
use Rattle.std.proofs.lemmas.Bool.{le-leb, cases_order, both_ways}
use Rattle.std.specs.List.{AllByRecursion}
use Rattle.keys.specs.Orders.{Orderly}
use Rattle.plain.specs.Plain.{Sorted}
use Rattle.tree.specs.Lists.{total, first_half, second_half, onto, joined}
use Rattle.tree.specs.Tree.{Item, Fit, weight, pairs, starts, left, right, route}
use Rattle.tree.specs.Laws.{Largest, LastChild, At}
use Rattle.tree.proofs.Lists.{total_one, length_onto, halves, half_low, Passed, seek_back, seek_passed}
use Rattle.tree.proofs.Units.{Units}
use Rattle.tree.proofs.Flat.{later_apart}

module _ {X : Type 0} (w : X → ℕ) where
  first_largest : (t a : ℕ) (xs : List X) (r : ℕ) → r ≤ length xs → 2 * (a + total w (take r xs)) ≤ t → r ≤ length (first_half w t a xs)
  first_largest t a xs zero h e = omega arith
  first_largest t a [] (suc r) h e = absurd (omega arith)
  first_largest t a (x ∷ xs) (suc r) h e =
      let goes = le-leb (2 * (a + w x)) t (omega arith) in
      let ih = first_largest t (a + w x) xs r (omega arith) (omega arith) in
      rw goes (omega arith)

  pub split_sum : (xs : List X) (r : ℕ) → total w (take r xs) + total w (drop r xs) ≡ total w xs
  split_sum xs zero = omega arith
  split_sum [] (suc r) = omega arith
  split_sum (x ∷ xs) (suc r) = omega (arith, split_sum xs r)

  pub largest : (xs : List X) → Largest w xs (length (first_half w (total w xs) 0 xs))
  largest xs =
      let t = total w xs in
      let F = first_half w t 0 xs in
      let S = second_half w t 0 xs in
      let e = halves w t 0 xs in
      let keeps : take (length F) xs ≡ F = ap (take (length F)) (sym e) ∙ take_at F S (length F) refl in
      let sums = split_sum xs (length F) in
      let kept = ap (total w) keeps in
      record {
        within = omega (arith, ap length e, length-append F S);
        light = omega (arith, half_low w t 0 xs (omega arith));
        largest = λ r h p. first_largest t 0 xs r h (omega (arith, split_sum xs r));
      }

pub splits : (K : Type 0) (unit : ℕ → ℕ) (l : ℕ) (x : Item K (suc l)) → (n : ℕ) × Largest (weight K l) x n × (left K unit l x ≡ take n x) × (right K unit l x ≡ drop n x)
splits K unit l x =
    let F = left K unit l x in
    let S = right K unit l x in
    let e = halves (weight K l) (weight K (suc l) x) 0 x in
    (length F, largest (weight K l) x, sym (ap (take (length F)) (sym e) ∙ take_at F S (length F) refl), sym (ap (drop (length F)) (sym e) ∙ drop_at F S (length F) refl))

length_take : {X : Type 0} (r : ℕ) (xs : List X) → r ≤ length xs → length (take r xs) ≡ r
length_take zero xs h = refl
length_take (suc r) [] h = absurd (omega arith)
length_take (suc r) (x ∷ xs) h = omega (arith, length_take r xs (omega arith))

pub leaf_halved : (K : Type 0) (unit : ℕ → ℕ) (x : Item K 1) → (length (left K unit 0 x) ≡ length x / 2) × (length (right K unit 0 x) ≡ (length x + 1) / 2)
leaf_halved K unit x =
    let one = weight K 0 in
    let L = largest one x in
    let n = length (left K unit 0 x) in
    let m = length x in
    let half = L.largest (m / 2) (omega arith) (omega (arith, split_sum one x (m / 2), total_one (take (m / 2) x), length_take (m / 2) x (omega arith), total_one x)) in
    let kept : n ≡ m / 2 = omega (arith, half, L.within, L.light, split_sum one x n, total_one (take n x), length_take n x L.within, total_one x) in
    (kept, omega (arith, length-append (left K unit 0 x) (right K unit 0 x), ap length (halves one (weight K 1 x) 0 x)))

onto_append : {X : Type 0} (b ys : List X) → onto b ys ≡ onto b [] ++ ys
onto_append [] ys = refl
onto_append (x ∷ b) ys = onto_append b (x ∷ ys) ∙ sym (ap (λ r. r ++ ys) (onto_append b (x ∷ [])) ∙ append_assoc (onto b []) (x ∷ []) ys)

by_number : {X : Type 0} (b : List X) (x : X) (a cs : List X) → onto b (x ∷ a) ≡ cs → At (record { before = b; here = x; after = a }) cs (length b)
by_number b x a cs e =
    let n = length_onto b [] in
    let whole = sym e ∙ onto_append b (x ∷ a) in
    let further = sym e ∙ onto_append (x ∷ b) a in
    record {
      put_back = λ ys. onto_append b ys ∙ ap (λ r. r ++ ys) (sym (ap (take (length b)) whole ∙ take_at (onto b []) (x ∷ a) (length b) (omega arith)));
      is_here = λ d. ap (λ r. get_or r (length b) d) whole ∙ get_or_at (onto b []) x a d (length b) (omega arith);
      is_after = ap (drop (suc (length b))) further ∙ drop_at (onto (x ∷ b) []) a (suc (length b)) (omega (arith, length_onto (x ∷ b) []));
    }

last_place : {X : Type 0} (p : X → Bool) (b : List X) (x : X) (a cs : List X) (d : X) → onto b (x ∷ a) ≡ cs → AllByRecursion (λ y. p y ≡ false) a → (j : ℕ) → length b < j → j < length cs → p (get_or cs j d) ≡ false
last_place p b x a cs d e f j h within =
    let n = length_onto (x ∷ b) [] in
    let m = length_onto b (x ∷ a) in
    let whole = sym e ∙ onto_append (x ∷ b) a in
    let at : get_or cs j d ≡ get_or a (j - suc (length b)) d = ap (λ r. get_or r j d) whole ∙ get_or-append_right (onto (x ∷ b) []) a (suc (length b)) j d (omega arith) (omega arith) in
    ap p at ∙ All-get_or (λ y. p y ≡ false) a (j - suc (length b)) d (omega (arith, ap length e)) f

module _ {K : Type 0} (order : K → K → Ordering) where
  -- there is one such place
  one_last : (l : ℕ) (k : K) (c : Item K l) (cs : List (Item K l)) (i j : ℕ) → LastChild order l k c cs i → LastChild order l k c cs j → i < j → ⊥
  one_last l k c cs i j a b h = go b.starts_here
    where
      go : (j ≡ 0) ⊎ (starts order l k (get_or (c ∷ cs) j c) ≡ true) → ⊥
      go (inl e) = omega arith
      go (inr e) = both_ways _ (a.none_later j h b.within) e

  -- where the first r of the children's smallest keys are at most k and the others above it, it is the one before place r, or the first
  pub last_by_count : (l : ℕ) (k : K) (c : Item K l) (cs : List (Item K l)) (r : ℕ) → r ≤ length (c ∷ cs) →
      ((j : ℕ) → j < r → starts order l k (get_or (c ∷ cs) j c) ≡ true) → ((j : ℕ) → r ≤ j → j < length (c ∷ cs) → starts order l k (get_or (c ∷ cs) j c) ≡ false) → LastChild order l k c cs (r - 1)
  last_by_count l k c cs zero w low high = record { within = omega arith; starts_here = inl (omega arith); none_later = λ j h within. high j (omega arith) within }
  last_by_count l k c cs (suc r) w low high = record {
    within = omega arith;
    starts_here = inr (low (suc r - 1) (omega arith));
    none_later = λ j h within. high j (omega arith) within;
  }

module _ {K : Type 0} {order : K → K → Ordering} (o : Orderly order) (unit : ℕ → ℕ) (units : Units unit) where
  pub route_last : (l : ℕ) (k : K) (c : Item K l) (cs : List (Item K l)) → AllByRecursion (Fit K unit l) (c ∷ cs) → Sorted order (joined (pairs K l) (c ∷ cs)) → LastChild order l k c cs (length (route order l k c cs).before)
  route_last l k c cs f a =
      let z = route order l k c cs in
      let back : onto z.before (z.here ∷ z.after) ≡ c ∷ cs = seek_back (starts order l k) [] c cs in
      record {
        within = omega (arith, ap length back, length_onto z.before (z.here ∷ z.after));
        starts_here = go z.before z.here z.after back (seek_passed (starts order l k) [] c cs tt);
        none_later = last_place (starts order l k) z.before z.here z.after (c ∷ cs) c back (later_apart o unit units l k c cs f a);
      }
    where
      go : (b : List (Item K l)) (x : Item K l) (a : List (Item K l)) → onto b (x ∷ a) ≡ c ∷ cs → Passed (starts order l k) b x → (length b ≡ 0) ⊎ (starts order l k (get_or (c ∷ cs) (length b) c) ≡ true)
      go [] x a e p = inl refl
      go (y ∷ b) x a e p = inr (ap (starts order l k) ((by_number (y ∷ b) x a (c ∷ cs) e).is_here c) ∙ p)

  pub route_at : (l : ℕ) (k : K) (c : Item K l) (cs : List (Item K l)) → At (route order l k c cs) (c ∷ cs) (length (route order l k c cs).before)
  route_at l k c cs = let z = route order l k c cs in let n = by_number z.before z.here z.after (c ∷ cs) (seek_back (starts order l k) [] c cs) in record { put_back = n.put_back; is_here = n.is_here; is_after = n.is_after }

  -- whoever finds the last child by its number has the place
  pub way_down : (l : ℕ) (k : K) (c : Item K l) (cs : List (Item K l)) → AllByRecursion (Fit K unit l) (c ∷ cs) → Sorted order (joined (pairs K l) (c ∷ cs)) → (i : ℕ) → LastChild order l k c cs i → At (route order l k c cs) (c ∷ cs) i
  way_down l k c cs f a i last = rw (go (cases_order i (length (route order l k c cs).before)) (route_last l k c cs f a)) (route_at l k c cs)
    where
      go : {j : ℕ} → (i ≡ j) ⊎ ((i < j) ⊎ (j < i)) → LastChild order l k c cs j → i ≡ j
      go (inl e) r = e
      go (inr (inl h)) r = absurd (one_last order l k c cs _ _ last r h)
      go (inr (inr h)) r = absurd (one_last order l k c cs _ _ r last h)

-- For code, which sees a node as the list of its children's weights.
total_map : {X : Type 0} (w : X → ℕ) (xs : List X) → total (λ (n : ℕ). n) (map w xs) ≡ total w xs
total_map w [] = refl
total_map w (x ∷ xs) = omega (arith, total_map w xs)

largest_one : {X : Type 0} (w : X → ℕ) (xs : List X) (r s : ℕ) → Largest w xs r → Largest w xs s → r ≡ s
largest_one w xs r s a b = omega (arith, a.largest s b.within b.light, b.largest r a.within a.light)

largest_map : {X : Type 0} (w : X → ℕ) (xs : List X) (s : ℕ) → Largest (λ (n : ℕ). n) (map w xs) s → Largest w xs s
largest_map w xs s L =
    let front : (r : ℕ) → total (λ (n : ℕ). n) (take r (map w xs)) ≡ total w (take r xs) = λ r. ap (total (λ (n : ℕ). n)) (take-map w r xs) ∙ total_map w (take r xs) in
    let back : (r : ℕ) → total (λ (n : ℕ). n) (drop r (map w xs)) ≡ total w (drop r xs) = λ r. ap (total (λ (n : ℕ). n)) (drop-map w r xs) ∙ total_map w (drop r xs) in
    let long = length-map xs w in
    record {
      within = omega (arith, L.within);
      light = omega (arith, L.light, front s, back s);
      largest = λ r h p. L.largest r (omega arith) (omega (arith, front r, back r));
    }

pub split_by_weights : (K : Type 0) (unit : ℕ → ℕ) (l : ℕ) (x : Item K (suc l)) (s : ℕ) → Largest (λ (n : ℕ). n) (map (weight K l) x) s → (left K unit l x ≡ take s x) × (right K unit l x ≡ drop s x)
split_by_weights K unit l x s L =
    let r = splits K unit l x in
    let e = largest_one (weight K l) x r.0 s r.1 (largest_map (weight K l) x s L) in
    (r.2 ∙ ap (λ n. take n x) e, r.3 ∙ ap (λ n. drop n x) e)
