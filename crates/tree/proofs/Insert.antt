-- An insertion, level by level.
use Rattle.std.proofs.Common.{◌≡◌, ℕ, zero, suc, ◌+◌, ◌≤◌, Bool, true, false, cond, eqb, ltb, List, [], ◌∷◌, ◌++◌, length, Ordering, sym, refl, ap, arith}
use Rattle.std.proofs.lemmas.Bool.{eqb-true}
use Rattle.std.proofs.lemmas.List.{length-append}
use Rattle.std.specs.List.{AllByRecursion}
use Rattle.std.specs.Ordering.{is_le}
use Rattle.plain.specs.Plain.{put}
use Rattle.plain.specs.declared.pair.Pair.{Pair}
use Rattle.plain.proofs.Alls.{all_append}
use Rattle.tree.specs.Lists.{total, onto}
use Rattle.tree.specs.Tree.{Item, weight, Fit, Kids, over, grown, route, starts, ins, ins_mark}
use Rattle.tree.specs.declared.mark.Mark.{Mark}
use Rattle.tree.specs.declared.mark.Mark.TheVariants.{Nothing, Split, Merge, MergeSplit}
use Rattle.tree.proofs.Lists.{total_append, total_onto, all_onto, all_of_onto, seek_back, length_onto, total_none, all_unit}
use Rattle.tree.proofs.Units.{Units}
use Rattle.tree.proofs.Strains.{price, here_strain, strains}
use Rattle.tree.proofs.Levels.{here_up, grows, kids}

-- what one level pays
price_le : (u : ℕ) (m : Mark) → price u m ≤ u + 1
price_le u Nothing = omega arith
price_le u Split = omega arith
price_le u Merge = omega arith
price_le u MergeSplit = omega arith

pub pay : (b o : Bool) (u v : ℕ) (m' m : Mark) (new here' here inside' inside lower upper : ℕ) →
    new + cond o (cond b (u + 1) 0) 0 ≤ here' + inside' →
    here' ≤ here + cond b 1 0 →
    inside' + price v m ≤ inside + lower →
    (b ≡ true → u ≡ v) →
    lower + cond b 1 0 ≤ upper →
    new + price v (cond b (cond o m' Nothing) m) ≤ here + inside + upper
pay true true u v m' m new here' here inside' inside lower upper p q r s t = omega (arith, s refl, price_le v m')
pay true false u v m' m new here' here inside' inside lower upper p q r s t = omega arith
pay false true u v m' m new here' here inside' inside lower upper p q r s t = omega arith
pay false false u v m' m new here' here inside' inside lower upper p q r s t = omega arith

pub below_suc : (j l : ℕ) → cond (ltb j l) 1 0 + cond (eqb j l) 1 0 ≤ cond (ltb j (suc l)) 1 0
below_suc j l = grind arith

put_weight : {K : Type 0} (order : K → K → Ordering) (k : K) (h : ℕ) (xs : List (Pair K)) → total (λ (x : Pair K). 1) (put order k h xs) ≡ suc (total (λ (x : Pair K). 1) xs)
put_weight order k h [] = refl
put_weight {K} order k h (q ∷ qs) = go (is_le (order q.key k)) (put_weight order k h qs)
  where
    go : (b : Bool) → total (λ (x : Pair K). 1) (put order k h qs) ≡ suc (total (λ (x : Pair K). 1) qs) →
        total (λ (x : Pair K). 1) (cond b (q ∷ put order k h qs) (record { key = k; handle = h } ∷ q ∷ qs)) ≡ suc (total (λ (x : Pair K). 1) (q ∷ qs))
    go true ih = omega arith
    go false ih = omega arith

two_more : {X : Type 0} (b : List X) (x : X) (a xs : List X) → 2 ≤ length (onto b (x ∷ a)) → 1 ≤ length xs → 2 ≤ length (onto b (xs ++ a))
two_more b x a xs t s = omega (arith, length_onto b (x ∷ a), length_onto b (xs ++ a), length-append xs a)

module _ {K : Type 0} (order : K → K → Ordering) (unit : ℕ → ℕ) (units : Units unit) where
  pub record Inserted (l : ℕ) (k : K) (h : ℕ) (x : Item K (suc l)) : Type 0 where
    pub sum : weight K (suc l) (ins order unit l k h x) ≡ suc (weight K (suc l) x)
    pub two : Kids K unit l (ins order unit l k h x)
    pub fits : AllByRecursion (Fit K unit l) (ins order unit l k h x)
    pub paid : (j : ℕ) → total (strains K unit j l) (ins order unit l k h x) + price (unit j) (ins_mark order unit j l k h x) ≤ total (strains K unit j l) x + cond (ltb j l) 1 0

  pub inserted : (l : ℕ) (k : K) (h : ℕ) (x : Item K (suc l)) → Kids K unit l x → AllByRecursion (Fit K unit l) x → Inserted l k h x
  inserted zero k h x s f = record {
    sum = put_weight order k h x;
    two = tt;
    fits = all_unit (put order k h x);
    paid = λ j. omega (arith, total_none (put order k h x));
  }
  inserted (suc l) k h [] s f = absurd (omega arith)
  inserted (suc l) k h (c ∷ cs) s f =
      let z = route order (suc l) k c cs in
      let back : onto z.before (z.here ∷ z.after) ≡ c ∷ cs = seek_back (starts order (suc l) k) [] c cs in
      let fit = all_of_onto (Fit K unit (suc l)) z.before (z.here ∷ z.after) (rw back f) in
      let x = z.here in
      let fx : Fit K unit (suc l) x = fit.1.0 in
      let ih = inserted l k h x (kids K unit units l x fx) fx.2 in
      let y = ins order unit l k h x in
      let g = grows K unit units l y ih.fits (omega (arith, ih.sum, fx.0)) (omega (arith, ih.sum, fx.1)) in
      record {
        sum = omega (
          arith,
          ih.sum,
          g.sum,
          total_onto (weight K (suc l)) z.before (grown K unit l y ++ z.after),
          total_append (weight K (suc l)) (grown K unit l y) z.after,
          ap (total (weight K (suc l))) back,
          total_onto (weight K (suc l)) z.before (x ∷ z.after),
        );
        two = two_more z.before x z.after (grown K unit l y) (rw back s) g.some;
        fits = all_onto (Fit K unit (suc l)) z.before (grown K unit l y ++ z.after) fit.0 (all_append (Fit K unit (suc l)) (grown K unit l y) z.after g.fits fit.1.1);
        paid = λ j.
            let f = strains K unit j (suc l) in
            omega (
              arith,
              pay (eqb j l) (over K unit l y) (unit l) (unit j) Split (ins_mark order unit j l k h x) (total f (grown K unit l y)) (here_strain K unit j l (weight K (suc l) y)) (here_strain K unit j l (weight K (suc l) x))
                  (total (strains K unit j l) y) (total (strains K unit j l) x) (cond (ltb j l) 1 0) (cond (ltb j (suc l)) 1 0)
                  (g.relieved j) (rw ih.sum (here_up K unit j l (weight K (suc l) x))) (ih.paid j) (λ e. ap unit (sym (eqb-true j l e))) (below_suc j l),
              total_onto f z.before (grown K unit l y ++ z.after),
              total_append f (grown K unit l y) z.after,
              ap (total f) back,
              total_onto f z.before (x ∷ z.after),
            );
      }
