-- What an update does to the pairs of a tree in order.
use Rattle.std.proofs.Common.{◌≡◌, ℕ, zero, suc, ◌*◌, Bool, true, false, cond, ltb, List, [], ◌∷◌, ◌++◌, length, is_some, Some, Ordering, Less, Equal, Greater, sym, refl, ap, ◌∙◌, append_assoc, append-nil, arith}
use Rattle.std.proofs.lemmas.List.{length-append}
use Rattle.std.proofs.lemmas.Bool.{true≢false}
use Rattle.std.specs.Ordering.{is_le}
use Rattle.std.specs.List.{AllByRecursion}
use Rattle.keys.specs.Orders.{Orderly}
use Rattle.keys.specs.Totals.{less_below}
use Rattle.plain.specs.Plain.{Sorted, find, present, put, cut}
use Rattle.plain.specs.declared.pair.Pair.{Pair}
use Rattle.plain.proofs.Alls.{all_map, all_back}
use Rattle.plain.proofs.Pairs.{Low, High, put_after, put_before, find_after, find_before, cut_after, cut_before, sorted_front, sorted_back, sorted_across}
use Rattle.plain.proofs.Floors.{highs}
use Rattle.tree.specs.Lists.{total, onto, joined}
use Rattle.tree.specs.Tree.{Item, smallest, Kids, Fit, weight, pairs, starts, left, right, split_above, grown, merged, fused, mended, under, route, ins, del}
use Rattle.tree.specs.Queries.{find_down}
use Rattle.tree.proofs.Lists.{all_of_onto, joined_append, joined_onto, halves, Stops, Passed, seek_back, seek_stops, seek_passed}
use Rattle.tree.proofs.Units.{Units, unit_some}
use Rattle.tree.proofs.Levels.{kids}

module _ (K : Type 0) (unit : ℕ → ℕ) where
  -- splits and merges leave the pairs as they are
  pub flat_split : (l m : ℕ) (x : Item K (suc l)) → joined (pairs K (suc l)) (split_above K unit l m x) ≡ pairs K (suc l) x
  flat_split l m x = go (ltb m (weight K (suc l) x))
    where
      two : joined (pairs K l) (left K unit l x) ++ (joined (pairs K l) (right K unit l x) ++ []) ≡ joined (pairs K l) x
      two = rw append-nil (sym (joined_append (pairs K l) (left K unit l x) (right K unit l x)) ∙ ap (joined (pairs K l)) (halves (weight K l) (weight K (suc l) x) 0 x))

      go : (b : Bool) → joined (pairs K (suc l)) (cond b (left K unit l x ∷ right K unit l x ∷ []) (x ∷ [])) ≡ pairs K (suc l) x
      go true = two
      go false = append-nil (pairs K (suc l) x)

  flat_mended : (l : ℕ) (b : List (Item K (suc l))) (x : Item K (suc l)) (a : List (Item K (suc l))) → joined (pairs K (suc l)) (mended K unit l b x a) ≡ joined (pairs K (suc l)) (onto b (x ∷ a))
  flat_mended l b x a = go (under K unit l x) b a
    where
      mix : (x y : Item K (suc l)) (a : List (Item K (suc l))) → joined (pairs K (suc l)) (merged K unit l (x ++ y) ++ a) ≡ joined (pairs K (suc l)) (x ∷ y ∷ a)
      mix x y a = joined_append (pairs K (suc l)) (merged K unit l (x ++ y)) a
          ∙ ap (λ r. r ++ joined (pairs K (suc l)) a) (flat_split l (7 * unit l) (x ++ y) ∙ joined_append (pairs K l) x y)
          ∙ append_assoc (pairs K (suc l) x) (pairs K (suc l) y) (joined (pairs K (suc l)) a)

      fuse : (b a : List (Item K (suc l))) → joined (pairs K (suc l)) (fused K unit l b x a) ≡ joined (pairs K (suc l)) (onto b (x ∷ a))
      fuse (y ∷ b) a = joined_onto (pairs K (suc l)) b (merged K unit l (y ++ x) ++ a) ∙ ap (λ r. joined (pairs K (suc l)) (onto b []) ++ r) (mix y x a) ∙ sym (joined_onto (pairs K (suc l)) b (y ∷ x ∷ a))
      fuse [] (y ∷ a) = mix x y a
      fuse [] [] = refl

      go : (t : Bool) (b a : List (Item K (suc l))) → joined (pairs K (suc l)) (cond t (fused K unit l b x a) (onto b (x ∷ a))) ≡ joined (pairs K (suc l)) (onto b (x ∷ a))
      go true b a = fuse b a
      go false b a = refl

pub flat_leaf : (K : Type 0) (x : List (Pair K)) → joined (pairs K 0) x ≡ x
flat_leaf K [] = refl
flat_leaf K (q ∷ x) = ap (λ r. q ∷ r) (flat_leaf K x)

-- a node weighs as much as it has pairs
count_joined : (K : Type 0) (l : ℕ) (xs : List (Item K l)) → ((x : Item K l) → length (pairs K l x) ≡ weight K l x) → length (joined (pairs K l) xs) ≡ total (weight K l) xs
count_joined K l [] f = refl
count_joined K l (x ∷ xs) f = omega (arith, length-append (pairs K l x) (joined (pairs K l) xs), f x, count_joined K l xs f)

pub count_pairs : (K : Type 0) (l : ℕ) (x : Item K l) → length (pairs K l x) ≡ weight K l x
count_pairs K zero x = refl
count_pairs K (suc l) x = count_joined K l x (count_pairs K l)

pub not_le : (r : Ordering) → is_le r ≡ false → r ≡ Greater
not_le Less e = absurd (true≢false e)
not_le Equal e = absurd (true≢false e)
not_le Greater e = refl

module _ {K : Type 0} {order : K → K → Ordering} (o : Orderly order) (unit : ℕ → ℕ) (units : Units unit) where
  -- the first pair of an item, which tells where it starts
  pub record First (l : ℕ) (x : Item K l) : Type 0 where
    pub q : Pair K
    pub rest : List (Pair K)
    pub is : pairs K l x ≡ q ∷ rest
    pub least : smallest K l x ≡ Some q.key
    pub tells : (k : K) → starts order l k x ≡ is_le (order q.key k)

  pub first : (l : ℕ) (x : Item K l) → Fit K unit l x → First l x
  first zero x f = record { q = x; rest = []; is = refl; least = refl; tells = λ k. refl }
  first (suc l) [] f = absurd (omega (arith, f.0, unit_some unit units l))
  first (suc l) (c ∷ cs) f =
      let r = first l c f.2.0 in
      record { q = r.q; rest = r.rest ++ joined (pairs K l) cs; is = ap (λ z. z ++ joined (pairs K l) cs) r.is; least = r.least; tells = r.tells }

  -- the pairs before the place that k leads to, there, and after it
  pub record Around (k : K) (front mid back : List (Pair K)) : Type 0 where
    pub low : Low order k front
    pub high : High order k back
    pub mid_asc : Sorted order mid

  abbrev pub Front : (l : ℕ) → List (Item K l) → List (Pair K)
  Front l b = joined (pairs K l) (onto b [])

  lows : (l : ℕ) (k : K) (b : List (Item K l)) (x : Item K l) (ps : List (Pair K)) → First l x → Passed (starts order l k) b x → Sorted order (Front l b ++ (pairs K l x ++ ps)) → Low order k (Front l b)
  lows l k [] x ps f p a = tt
  lows l k (y ∷ b) x ps f p a =
      let across : AllByRecursion (λ r. AllByRecursion (λ s. order r.key s.key ≡ Less) (f.q ∷ f.rest ++ ps)) (Front l (y ∷ b)) = sorted_across order (Front l (y ∷ b)) (f.q ∷ f.rest ++ ps) (rw f.is at a) in
      all_map (λ r. AllByRecursion (λ s. order r.key s.key ≡ Less) (f.q ∷ f.rest ++ ps)) (λ r. order r.key k ≡ Less) (Front l (y ∷ b)) (λ r z. less_below o r.key f.q.key k z.0 (sym (f.tells k) ∙ p)) across

  pub above : (l : ℕ) (k : K) (a : List (Item K l)) → AllByRecursion (Fit K unit l) a → Stops (starts order l k) a → Sorted order (joined (pairs K l) a) → High order k (joined (pairs K l) a)
  above l k [] f s a = tt
  above l k (y ∷ ys) f s a =
      let r = first l y f.0 in
      let g : order r.q.key k ≡ Greater = not_le _ (sym (r.tells k) ∙ s) in
      let a' : Sorted order (r.q ∷ r.rest ++ joined (pairs K l) ys) = rw r.is at a in
      rw r.is (g, highs o k r.q (r.rest ++ joined (pairs K l) ys) g a'.0)

  pub around : (l : ℕ) (k : K) (c : Item K l) (cs : List (Item K l)) → AllByRecursion (Fit K unit l) (c ∷ cs) → Sorted order (joined (pairs K l) (c ∷ cs)) →
      Around k (Front l (route order l k c cs).before) (pairs K l (route order l k c cs).here) (joined (pairs K l) (route order l k c cs).after)
  around l k c cs f a =
      let z = route order l k c cs in
      let back : onto z.before (z.here ∷ z.after) ≡ c ∷ cs = seek_back (starts order l k) [] c cs in
      let fit = all_of_onto (Fit K unit l) z.before (z.here ∷ z.after) (rw back f) in
      let spread = joined_onto (pairs K l) z.before (z.here ∷ z.after) in
      let a' : Sorted order (Front l z.before ++ (pairs K l z.here ++ joined (pairs K l) z.after)) = rw (← spread, back) a in
      let b = sorted_back order (Front l z.before) (pairs K l z.here ++ joined (pairs K l) z.after) a' in
      record {
        low = lows l k z.before z.here (joined (pairs K l) z.after) (first l z.here fit.1.0) (seek_passed (starts order l k) [] c cs tt) a';
        high = above l k z.after fit.1.1 (seek_stops (starts order l k) [] c cs) (sorted_back order (pairs K l z.here) (joined (pairs K l) z.after) b);
        mid_asc = sorted_front order (pairs K l z.here) (joined (pairs K l) z.after) b;
      }

  -- a node of level l + 1 as its place for k shows it
  pub record Opened (l : ℕ) (k : K) (c : Item K (suc l)) (cs : List (Item K (suc l))) : Type 0 where
    pub back : onto (route order (suc l) k c cs).before ((route order (suc l) k c cs).here ∷ (route order (suc l) k c cs).after) ≡ c ∷ cs
    pub whole : Front (suc l) (route order (suc l) k c cs).before ++ (pairs K (suc l) (route order (suc l) k c cs).here ++ joined (pairs K (suc l)) (route order (suc l) k c cs).after) ≡ joined (pairs K (suc l)) (c ∷ cs)
    pub fit : AllByRecursion (Fit K unit (suc l)) (route order (suc l) k c cs).before × AllByRecursion (Fit K unit (suc l)) ((route order (suc l) k c cs).here ∷ (route order (suc l) k c cs).after)
    pub kids_here : Kids K unit l (route order (suc l) k c cs).here
    pub parts : Around k (Front (suc l) (route order (suc l) k c cs).before) (pairs K (suc l) (route order (suc l) k c cs).here) (joined (pairs K (suc l)) (route order (suc l) k c cs).after)

  pub opened : (l : ℕ) (k : K) (c : Item K (suc l)) (cs : List (Item K (suc l))) → AllByRecursion (Fit K unit (suc l)) (c ∷ cs) → Sorted order (joined (pairs K (suc l)) (c ∷ cs)) → Opened l k c cs
  opened l k c cs f a =
      let z = route order (suc l) k c cs in
      let back : onto z.before (z.here ∷ z.after) ≡ c ∷ cs = seek_back (starts order (suc l) k) [] c cs in
      let fit = all_of_onto (Fit K unit (suc l)) z.before (z.here ∷ z.after) (rw back f) in
      record {
        back = back;
        whole = sym (joined_onto (pairs K (suc l)) z.before (z.here ∷ z.after)) ∙ ap (joined (pairs K (suc l))) back;
        fit = fit;
        kids_here = kids K unit units l z.here fit.1.0;
        parts = around (suc l) k c cs f a;
      }

  pub flat_ins : (l : ℕ) (k : K) (h : ℕ) (x : Item K (suc l)) → Kids K unit l x → AllByRecursion (Fit K unit l) x → Sorted order (pairs K (suc l) x) → pairs K (suc l) (ins order unit l k h x) ≡ put order k h (pairs K (suc l) x)
  flat_ins zero k h x s f a = flat_leaf K (put order k h x) ∙ ap (put order k h) (sym (flat_leaf K x))
  flat_ins (suc l) k h [] s f a = absurd (omega arith)
  flat_ins (suc l) k h (c ∷ cs) s f a =
      let z = route order (suc l) k c cs in
      let P = pairs K (suc l) in
      let y = ins order unit l k h z.here in
      let b = Front (suc l) z.before in
      let e = joined P z.after in
      let r = opened l k c cs f a in
      let ih = flat_ins l k h z.here r.kids_here r.fit.1.0.2 r.parts.mid_asc in
      joined_onto P z.before (grown K unit l y ++ z.after)
      ∙ ap (λ t. b ++ t) (joined_append P (grown K unit l y) z.after ∙ ap (λ t. t ++ e) (flat_split K unit l (8 * unit l) y ∙ ih) ∙ sym (put_before order k h (P z.here) e r.parts.high))
      ∙ sym (put_after order k h b (P z.here ++ e) r.parts.low)
      ∙ ap (put order k h) r.whole

  pub flat_find : (l : ℕ) (k : K) (x : Item K (suc l)) → Kids K unit l x → AllByRecursion (Fit K unit l) x → Sorted order (pairs K (suc l) x) → find_down order l k x ≡ find order k (pairs K (suc l) x)
  flat_find zero k x s f a = ap (find order k) (sym (flat_leaf K x))
  flat_find (suc l) k [] s f a = absurd (omega arith)
  flat_find (suc l) k (c ∷ cs) s f a =
      let z = route order (suc l) k c cs in
      let P = pairs K (suc l) in
      let e = joined P z.after in
      let r = opened l k c cs f a in
      flat_find l k z.here r.kids_here r.fit.1.0.2 r.parts.mid_asc
      ∙ sym (find_before order k (P z.here) e r.parts.high)
      ∙ sym (find_after order k (Front (suc l) z.before) (P z.here ++ e) r.parts.low)
      ∙ ap (find order k) r.whole

  pub flat_del : (l : ℕ) (k : K) (x : Item K (suc l)) → Kids K unit l x → AllByRecursion (Fit K unit l) x → Sorted order (pairs K (suc l) x) → is_some (find_down order l k x) ≡ true →
      pairs K (suc l) (del order unit l k x) ≡ cut order k (pairs K (suc l) x)
  flat_del zero k x s f a g = flat_leaf K (cut order k x) ∙ ap (cut order k) (sym (flat_leaf K x))
  flat_del (suc l) k [] s f a g = absurd (omega arith)
  flat_del (suc l) k (c ∷ cs) s f a g =
      let z = route order (suc l) k c cs in
      let P = pairs K (suc l) in
      let y = del order unit l k z.here in
      let b = Front (suc l) z.before in
      let e = joined P z.after in
      let r = opened l k c cs f a in
      let ih = flat_del l k z.here r.kids_here r.fit.1.0.2 r.parts.mid_asc g in
      let held : present order k (P z.here) ≡ true = ap is_some (sym (flat_find l k z.here r.kids_here r.fit.1.0.2 r.parts.mid_asc)) ∙ g in
      flat_mended K unit l z.before y z.after
      ∙ joined_onto P z.before (y ∷ z.after)
      ∙ ap (λ t. b ++ t) (ap (λ t. t ++ e) ih ∙ sym (cut_before order k (P z.here) e held))
      ∙ sym (cut_after order k b (P z.here ++ e) r.parts.low)
      ∙ ap (cut order k) r.whole

  -- no child after the place starts at k or below
  start_high : (l : ℕ) (k : K) (a : List (Item K l)) → AllByRecursion (Fit K unit l) a → High order k (joined (pairs K l) a) → AllByRecursion (λ y. starts order l k y ≡ false) a
  start_high l k [] f h = tt
  start_high l k (y ∷ ys) f h =
      let r = first l y f.0 in
      let h' : High order k (r.q ∷ r.rest ++ joined (pairs K l) ys) = rw r.is at h in
      (r.tells k ∙ ap is_le h'.0, start_high l k ys f.1 (all_back (λ p. order p.key k ≡ Greater) (pairs K l y) (joined (pairs K l) ys) h))

  pub later_apart : (l : ℕ) (k : K) (c : Item K l) (cs : List (Item K l)) → AllByRecursion (Fit K unit l) (c ∷ cs) → Sorted order (joined (pairs K l) (c ∷ cs)) → AllByRecursion (λ y. starts order l k y ≡ false) (route order l k c cs).after
  later_apart l k c cs f a =
      let z = route order l k c cs in
      let back : onto z.before (z.here ∷ z.after) ≡ c ∷ cs = seek_back (starts order l k) [] c cs in
      let fit = all_of_onto (Fit K unit l) z.before (z.here ∷ z.after) (rw back f) in
      start_high l k z.after fit.1.1 (around l k c cs f a).high
