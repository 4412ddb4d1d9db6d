-- Finding, floor and intervals in an ascending list.
use Rattle.std.proofs.Common.{◌≡◌, ℕ, ◌+◌, ◌-◌, Bool, true, false, cond, ◌&&◌, List, [], ◌∷◌, ◌++◌, length, Some, None, filter, Option, Ordering, Less, Equal, Greater, unwrap_or, sym, refl, ap, ◌∙◌, subst, arith}
use Rattle.std.proofs.lemmas.Bool.{both_ways}
use Rattle.std.specs.List.{last_or, AllByRecursion}
use Rattle.std.specs.Ordering.{is_lt, is_le, is_eq, is_ge}
use Rattle.keys.specs.Orders.{Orderly}
use Rattle.keys.specs.Totals.{greater_above}
use Rattle.plain.specs.Plain.{Sorted, find, floor, rank, up_to, within}
use Rattle.plain.specs.Laws.{HandleOf, Floor}
use Rattle.plain.specs.declared.pair.Pair.{Pair}
use Rattle.plain.proofs.Alls.{all_map, all_any, kept_none, how_many_none, last_some}
use Rattle.plain.proofs.Pairs.{High}

module _ {K : Type 0} {order : K → K → Ordering} (o : Orderly order) where
  -- a list that goes on above one above k is all above k
  pub highs : (k : K) (x : Pair K) (xs : List (Pair K)) → order x.key k ≡ Greater → AllByRecursion (λ p. order x.key p.key ≡ Less) xs → High order k xs
  highs k x xs g a = all_map (λ p. order x.key p.key ≡ Less) (λ p. order p.key k ≡ Greater) xs (λ p q. greater_above o x.key p.key k q g) a

  pub finds : (k : K) (ps : List (Pair K)) → HandleOf order k ps (find order k ps)
  finds k [] = tt
  finds k (p ∷ ps) = go (order p.key k) refl (find order k ps) (finds k ps)
    where
      apart : (r : Ordering) → is_eq r ≡ false → order p.key k ≡ r → p.key ≡ k → ⊥
      apart r n e s = both_ways (is_eq r) n (ap is_eq (sym e ∙ ap (order p.key) (sym s) ∙ o.same p.key))

      later : (r : Ordering) → is_eq r ≡ false → order p.key k ≡ r → (f : Option ℕ) → HandleOf order k ps f → HandleOf order k (p ∷ ps) f
      later r n e None h = (apart r n e, h)
      later r n e (Some z) h = (p ∷ h.0, h.1, ap (λ l. p ∷ l) h.2)

      go : (r : Ordering) → order p.key k ≡ r → (f : Option ℕ) → HandleOf order k ps f → HandleOf order k (p ∷ ps) (cond (is_eq r) (Some p.handle) f)
      go Less e f h = later Less refl e f h
      go Equal e f h = ([], ps, λ i. record { key = o.apart p.key k e i; handle = p.handle } ∷ ps)
      go Greater e f h = later Greater refl e f h

  pub floors : (k : K) (ps : List (Pair K)) → Sorted order ps → Floor order k ps (floor order k ps)
  floors k [] a = tt
  floors k (p ∷ ps) a = go (order p.key k) refl (floors k ps a.1)
    where
      kept : List (Pair K)
      kept = filter (λ q. is_le (order q.key k)) ps

      taken : is_le (order p.key k) ≡ true → (r : Option (Pair K)) → Floor order k ps r → Floor order k (p ∷ ps) (Some (unwrap_or r p))
      taken l None h = record { before = []; after = ps; is = refl; at_most = l; smaller = tt; above = h }
      taken l (Some r) h = record {
        before = p ∷ h.before;
        after = h.after;
        is = ap (λ l. p ∷ l) h.is;
        at_most = h.at_most;
        smaller = (first h.before h.after (subst (λ l. AllByRecursion (λ q. order p.key q.key ≡ Less) l) h.is a.0), h.smaller);
        above = h.above;
      }
        where
          first : (b c : List (Pair K)) → AllByRecursion (λ q. order p.key q.key ≡ Less) (b ++ (r ∷ c)) → order p.key r.key ≡ Less
          first [] c s = s.0
          first (x ∷ b) c s = first b c s.1

      low : is_le (order p.key k) ≡ true → Floor order k ps (floor order k ps) → Floor order k (p ∷ ps) (last_or (Some p) kept)
      low l ih = subst (Floor order k (p ∷ ps)) (sym (last_some p kept)) (taken l (last_or None kept) ih)

      go : (r : Ordering) → order p.key k ≡ r → Floor order k ps (floor order k ps) → Floor order k (p ∷ ps) (last_or None (cond (is_le r) (p ∷ kept) kept))
      go Less e ih = low (ap is_le e) ih
      go Equal e ih = low (ap is_le e) ih
      go Greater e ih =
          let up = highs k p ps e a.0 in
          let none = kept_none (λ q. is_le (order q.key k)) ps (all_map (λ q. order q.key k ≡ Greater) (λ q. is_le (order q.key k) ≡ false) ps (λ q g. ap is_le g) up) in
          subst (λ l. Floor order k (p ∷ ps) (last_or None l)) (sym none) (e, up)

  -- no key lies between where low exceeds high
  between_none : (low high x : K) → order low high ≡ Greater → (is_ge (order x low) && is_le (order x high)) ≡ false
  between_none low high x g = go (order x high) refl
    where
      below : is_le (order x high) ≡ true → (is_ge (order x low) && true) ≡ false
      below l = ap (λ r. is_ge r && true) (low_less l)
        where
          low_less : is_le (order x high) ≡ true → order x low ≡ Less
          low_less l = chained (order x high) refl l
            where
              chained : (r : Ordering) → order x high ≡ r → is_le r ≡ true → order x low ≡ Less
              chained Less e l = o.chain x high low e (o.flops low high g)
              chained Equal e l = ap (λ z. order z low) (o.apart x high e) ∙ o.flops low high g
              chained Greater e l = absurd (both_ways _ refl l)

      off : (b : Bool) → (b && false) ≡ false
      off true = refl
      off false = refl

      go : (r : Ordering) → order x high ≡ r → (is_ge (order x low) && is_le r) ≡ false
      go Less e = below (ap is_le e)
      go Equal e = below (ap is_le e)
      go Greater e = off (is_ge (order x low))

  pub within_none : (low high : K) (ps : List (Pair K)) → order low high ≡ Greater → within order low high ps ≡ []
  within_none low high ps g = kept_none (λ p. is_ge (order p.key low) && is_le (order p.key high)) ps (all_any (λ p. (is_ge (order p.key low) && is_le (order p.key high)) ≡ false) ps (λ p. between_none low high p.key g))

  -- from low on, nothing is below it
  rank_none : (low : K) (x : Pair K) (xs : List (Pair K)) → is_ge (order x.key low) ≡ true → AllByRecursion (λ p. order x.key p.key ≡ Less) xs → rank order low xs ≡ 0
  rank_none low x xs g a = how_many_none (λ p. is_lt (order p.key low)) xs (all_map (λ p. order x.key p.key ≡ Less) (λ p. is_lt (order p.key low) ≡ false) xs (λ p s. later p.key s (order p.key low) refl) a)
    where
      later : (y : K) → order x.key y ≡ Less → (r : Ordering) → order y low ≡ r → is_lt r ≡ false
      later y s Less e = absurd (both_ways _ (ap is_ge (o.chain x.key y low s e)) g)
      later y s Equal e = refl
      later y s Greater e = refl

  pub counted : (low high : K) (ps : List (Pair K)) → Sorted order ps → length (within order low high ps) ≡ up_to order high ps - rank order low ps
  counted low high [] a = omega arith
  counted low high (p ∷ ps) a = go (order p.key low) (order p.key high) refl refl (counted low high ps a.1)
    where
      none_up : order p.key high ≡ Greater → up_to order high ps ≡ 0
      none_up e = how_many_none (λ q. is_le (order q.key high)) ps (all_map (λ q. order q.key high ≡ Greater) (λ q. is_le (order q.key high) ≡ false) ps (λ q g. ap is_le g) (highs high p ps e a.0))

      go : (r s : Ordering) → order p.key low ≡ r → order p.key high ≡ s → length (within order low high ps) ≡ up_to order high ps - rank order low ps →
          length (cond (is_ge r && is_le s) (p ∷ within order low high ps) (within order low high ps)) ≡ (cond (is_le s) 1 0 + up_to order high ps) - (cond (is_lt r) 1 0 + rank order low ps)
      go Less Less e f ih = omega arith
      go Less Equal e f ih = omega arith
      go Less Greater e f ih = omega (arith, none_up f)
      go Equal Less e f ih = omega (arith, rank_none low p ps (ap is_ge e) a.0)
      go Equal Equal e f ih = omega (arith, rank_none low p ps (ap is_ge e) a.0)
      go Equal Greater e f ih = omega (arith, none_up f)
      go Greater Less e f ih = omega (arith, rank_none low p ps (ap is_ge e) a.0)
      go Greater Equal e f ih = omega (arith, rank_none low p ps (ap is_ge e) a.0)
      go Greater Greater e f ih = omega (arith, none_up f)
