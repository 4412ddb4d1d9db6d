-- Going down the tree answers as the plain list does.
use Rattle.std.proofs.Common.{◌≡◌, ℕ, zero, suc, ◌+◌, Bool, true, false, cond, ◌&&◌, List, [], ◌∷◌, ◌++◌, length, None, filter, Ordering, Less, Greater, sym, refl, ap, ◌∙◌, append-nil, arith}
use Rattle.std.specs.List.{last_or, AllByRecursion}
use Rattle.std.specs.Ordering.{is_lt, is_le, is_ge}
use Rattle.keys.specs.Orders.{Orderly}
use Rattle.keys.specs.Sorted.{how_many}
use Rattle.plain.specs.Plain.{Sorted, floor, rank, up_to, within}
use Rattle.plain.specs.declared.pair.Pair.{Pair}
use Rattle.plain.proofs.Alls.{all_map, kept_append, kept_none, how_many_append, how_many_none, how_many_all, last_append}
use Rattle.plain.proofs.Pairs.{Low, High, sorted_front, sorted_back}
use Rattle.plain.proofs.Floors.{counted}
use Rattle.tree.specs.Lists.{total, onto, joined, while}
use Rattle.tree.specs.Tree.{Item, Tree, Rules, Kids, Fit, weight, pairs, content, starts, route}
use Rattle.tree.specs.Queries.{floor_down, rank_down, up_to_down, within_down}
use Rattle.tree.specs.Laws.{Answers}
use Rattle.tree.proofs.Lists.{total_onto, Passed, seek_passed}
use Rattle.tree.proofs.Units.{Units}
use Rattle.tree.proofs.Levels.{kids}
use Rattle.tree.proofs.Flat.{flat_leaf, flat_find, First, first, Front, opened, above, count_pairs}

off : (b : Bool) → (b && false) ≡ false
off true = refl
off false = refl

module _ {K : Type 0} {order : K → K → Ordering} (o : Orderly order) (unit : ℕ → ℕ) (units : Units unit) where
  abbrev at_most : K → Pair K → Bool
  at_most k p = is_le (order p.key k)

  -- floor

  floor_parts : (k : K) (b m e : List (Pair K)) → High order k e → floor order k (b ++ (m ++ e)) ≡ last_or (last_or None (filter (at_most k) b)) (filter (at_most k) m)
  floor_parts k b m e h =
      let none = kept_none (at_most k) e (all_map (λ p. order p.key k ≡ Greater) (λ p. at_most k p ≡ false) e (λ p g. ap is_le g) h) in
      ap (last_or None) (kept_append (at_most k) b (m ++ e) ∙ ap (λ r. filter (at_most k) b ++ r) (kept_append (at_most k) m e ∙ ap (λ r. filter (at_most k) m ++ r) none ∙ append-nil (filter (at_most k) m)))
      ∙ last_append None (filter (at_most k) b) (filter (at_most k) m)

  -- what stands before does not matter to a node that starts at k or below
  floor_mid : (l : ℕ) (k : K) (b : List (Item K l)) (x : Item K l) → First o unit units l x → Passed (starts order l k) b x →
      last_or (last_or None (filter (at_most k) (Front o unit units l b))) (filter (at_most k) (pairs K l x)) ≡ floor order k (pairs K l x)
  floor_mid l k [] x f p = refl
  floor_mid l k (y ∷ b) x f p = rw f.is (simp (sym (f.tells k) ∙ p))

  pub flat_floor : (l : ℕ) (k : K) (x : Item K (suc l)) → Kids K unit l x → AllByRecursion (Fit K unit l) x → Sorted order (pairs K (suc l) x) → floor_down order l k x ≡ floor order k (pairs K (suc l) x)
  flat_floor zero k x s f a = ap (floor order k) (sym (flat_leaf K x))
  flat_floor (suc l) k [] s f a = absurd (omega arith)
  flat_floor (suc l) k (c ∷ cs) s f a =
      let z = route order (suc l) k c cs in
      let P = pairs K (suc l) in
      let r = opened o unit units l k c cs f a in
      flat_floor l k z.here r.kids_here r.fit.1.0.2 r.parts.mid_asc
      ∙ sym (floor_mid (suc l) k z.before z.here (first o unit units (suc l) z.here r.fit.1.0) (seek_passed (starts order (suc l) k) [] c cs tt))
      ∙ sym (floor_parts k (Front o unit units (suc l) z.before) (P z.here) (joined P z.after) r.parts.high)
      ∙ ap (floor order k) r.whole

  -- counting what passes a test that the pairs below k pass and those above do not

  front_long : (l : ℕ) (b : List (Item K l)) → length (Front o unit units l b) ≡ total (weight K l) b
  front_long l b = omega (arith, count_pairs K (suc l) (onto b []), total_onto (weight K l) b [])

  counts : (test : Ordering → Bool) → test Less ≡ true → test Greater ≡ false → (k : K) (b m e : List (Pair K)) → Low order k b → High order k e →
      how_many (λ p. test (order p.key k)) (b ++ (m ++ e)) ≡ length b + how_many (λ p. test (order p.key k)) m
  counts test less greater k b m e lo hi =
      let p = λ (q : Pair K). test (order q.key k) in
      omega (
        arith,
        how_many_append p b (m ++ e),
        how_many_append p m e,
        how_many_all p b (all_map (λ q. order q.key k ≡ Less) (λ q. p q ≡ true) b (λ q s. ap test s ∙ less) lo),
        how_many_none p e (all_map (λ q. order q.key k ≡ Greater) (λ q. p q ≡ false) e (λ q s. ap test s ∙ greater) hi),
      )

  pub flat_rank : (l : ℕ) (k : K) (x : Item K (suc l)) → Kids K unit l x → AllByRecursion (Fit K unit l) x → Sorted order (pairs K (suc l) x) → rank_down order l k x ≡ rank order k (pairs K (suc l) x)
  flat_rank zero k x s f a = ap (rank order k) (sym (flat_leaf K x))
  flat_rank (suc l) k [] s f a = absurd (omega arith)
  flat_rank (suc l) k (c ∷ cs) s f a =
      let z = route order (suc l) k c cs in
      let P = pairs K (suc l) in
      let r = opened o unit units l k c cs f a in
      omega (
        arith,
        flat_rank l k z.here r.kids_here r.fit.1.0.2 r.parts.mid_asc,
        counts is_lt refl refl k (Front o unit units (suc l) z.before) (P z.here) (joined P z.after) r.parts.low r.parts.high,
        front_long (suc l) z.before,
        ap (rank order k) r.whole,
      )

  pub flat_up_to : (l : ℕ) (k : K) (x : Item K (suc l)) → Kids K unit l x → AllByRecursion (Fit K unit l) x → Sorted order (pairs K (suc l) x) → up_to_down order l k x ≡ up_to order k (pairs K (suc l) x)
  flat_up_to zero k x s f a = ap (up_to order k) (sym (flat_leaf K x))
  flat_up_to (suc l) k [] s f a = absurd (omega arith)
  flat_up_to (suc l) k (c ∷ cs) s f a =
      let z = route order (suc l) k c cs in
      let P = pairs K (suc l) in
      let r = opened o unit units l k c cs f a in
      omega (
        arith,
        flat_up_to l k z.here r.kids_here r.fit.1.0.2 r.parts.mid_asc,
        counts is_le refl refl k (Front o unit units (suc l) z.before) (P z.here) (joined P z.after) r.parts.low r.parts.high,
        front_long (suc l) z.before,
        ap (up_to order k) r.whole,
      )

  -- intervals

  abbrev between : K → K → Pair K → Bool
  between low high p = is_ge (order p.key low) && is_le (order p.key high)

  beyond : (low high : K) (ps : List (Pair K)) → High order high ps → within order low high ps ≡ []
  beyond low high ps h = kept_none (between low high) ps (all_map (λ p. order p.key high ≡ Greater) (λ p. between low high p ≡ false) ps (λ p g. ap (λ r. is_ge (order p.key low) && is_le r) g ∙ off (is_ge (order p.key low))) h)

  short_of : (low high : K) (ps : List (Pair K)) → Low order low ps → within order low high ps ≡ []
  short_of low high ps h = kept_none (between low high) ps (all_map (λ p. order p.key low ≡ Less) (λ p. between low high p ≡ false) ps (λ p g. ap (λ r. is_ge r && is_le (order p.key high)) g) h)

  -- the children up to the first that starts above high, where each of them is known to answer
  visited : (l : ℕ) (low high : K) → ((x : Item K (suc l)) → Fit K unit (suc l) x → Sorted order (pairs K (suc l) x) → within_down order l low high x ≡ within order low high (pairs K (suc l) x)) →
      (ys : List (Item K (suc l))) → AllByRecursion (Fit K unit (suc l)) ys → Sorted order (joined (pairs K (suc l)) ys) →
      joined (within_down order l low high) (while (starts order (suc l) high) ys) ≡ within order low high (joined (pairs K (suc l)) ys)
  visited l low high known [] f a = refl
  visited l low high known (y ∷ ys) f a = go (starts order (suc l) high y) refl (visited l low high known ys f.1 (sorted_back order (pairs K (suc l) y) (joined (pairs K (suc l)) ys) a))
    where
      go : (b : Bool) → starts order (suc l) high y ≡ b → joined (within_down order l low high) (while (starts order (suc l) high) ys) ≡ within order low high (joined (pairs K (suc l)) ys) →
          joined (within_down order l low high) (cond b (y ∷ while (starts order (suc l) high) ys) []) ≡ within order low high (joined (pairs K (suc l)) (y ∷ ys))
      go true e ih =
          (λ i. known y f.0 (sorted_front order (pairs K (suc l) y) (joined (pairs K (suc l)) ys) a) i ++ ih i)
          ∙ sym (kept_append (between low high) (pairs K (suc l) y) (joined (pairs K (suc l)) ys))
      go false e ih = sym (beyond low high (joined (pairs K (suc l)) (y ∷ ys)) (above o unit units (suc l) high (y ∷ ys) f e a))

  pub flat_within : (l : ℕ) (low high : K) (x : Item K (suc l)) → Kids K unit l x → AllByRecursion (Fit K unit l) x → Sorted order (pairs K (suc l) x) → within_down order l low high x ≡ within order low high (pairs K (suc l) x)
  flat_within zero low high x s f a = ap (within order low high) (sym (flat_leaf K x))
  flat_within (suc l) low high [] s f a = absurd (omega arith)
  flat_within (suc l) low high (c ∷ cs) s f a =
      let z = route order (suc l) low c cs in
      let P = pairs K (suc l) in
      let b = Front o unit units (suc l) z.before in
      let e = joined P z.after in
      let r = opened o unit units l low c cs f a in
      let known : (x : Item K (suc l)) → Fit K unit (suc l) x → Sorted order (P x) → within_down order l low high x ≡ within order low high (P x) = λ x fx ax. flat_within l low high x (kids K unit units l x fx) fx.2 ax in
      let a' : Sorted order (b ++ (P z.here ++ e)) = rw r.whole a in
      let later = sorted_back order (P z.here) e (sorted_back order b (P z.here ++ e) a') in
      (λ i. known z.here r.fit.1.0 r.parts.mid_asc i ++ visited l low high known z.after r.fit.1.1 later i)
      ∙ sym (kept_append (between low high) (P z.here) e)
      ∙ sym (ap (λ q. q ++ within order low high (P z.here ++ e)) (short_of low high b r.parts.low))
      ∙ sym (kept_append (between low high) b (P z.here ++ e))
      ∙ ap (within order low high) r.whole

  pub answers : (top : ℕ) (t : Tree K) → Rules order unit top t → Answers order t
  answers top t s =
      let l = t.level in
      let x = t.root in
      let two = s.weighed.two in
      let fits = s.weighed.fits in
      record {
        finds = λ k. flat_find o unit units l k x two fits s.ascending;
        floors = λ k. flat_floor l k x two fits s.ascending;
        ranks = λ k. flat_rank l k x two fits s.ascending;
        reports = λ low high. flat_within l low high x two fits s.ascending;
        counts = λ low high. omega (arith, flat_up_to l high x two fits s.ascending, flat_rank l low x two fits s.ascending, counted o low high (content K t) s.ascending);
        sizes = sym (count_pairs K (suc l) x);
      }
