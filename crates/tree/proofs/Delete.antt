-- A deletion, level by level.
use Rattle.std.proofs.Common.{◌≡◌, ℕ, zero, suc, ◌+◌, ◌*◌, ◌≤◌, Bool, true, false, cond, eqb, ltb, List, [], ◌∷◌, ◌++◌, length, is_some, Some, Ordering, sym, refl, ap, arith}
use Rattle.std.proofs.lemmas.Bool.{leb-true, leb-false, eqb-true, false≢true}
use Rattle.std.specs.Ordering.{is_eq}
use Rattle.std.specs.List.{AllByRecursion}
use Rattle.plain.specs.Plain.{find, present, cut}
use Rattle.plain.specs.declared.pair.Pair.{Pair}
use Rattle.plain.proofs.Alls.{all_append}
use Rattle.tree.specs.Lists.{total, onto}
use Rattle.tree.specs.Tree.{Item, weight, Fit, Kids, under, merged, fused, fused_mark, mended, route, starts, del, del_mark}
use Rattle.tree.specs.Queries.{find_down}
use Rattle.tree.proofs.Lists.{total_append, total_onto, all_onto, all_of_onto, seek_back, length_onto, total_none, all_unit}
use Rattle.tree.proofs.Units.{Units, unit_some}
use Rattle.tree.proofs.Strains.{price, here_strain, strains}
use Rattle.tree.proofs.Levels.{here_down, here_mid, here_under, relief, halved, kids}
use Rattle.tree.proofs.Insert.{pay, below_suc}

cut_weight : {K : Type 0} (order : K → K → Ordering) (k : K) (xs : List (Pair K)) → present order k xs ≡ true → suc (total (λ (x : Pair K). 1) (cut order k xs)) ≡ total (λ (x : Pair K). 1) xs
cut_weight order k [] e = absurd (false≢true e)
cut_weight {K} order k (q ∷ qs) e = go (is_eq (order q.key k)) e (cut_weight order k qs)
  where
    go : (b : Bool) → is_some (cond b (Some q.handle) (find order k qs)) ≡ true → (present order k qs ≡ true → suc (total (λ (x : Pair K). 1) (cut order k qs)) ≡ total (λ (x : Pair K). 1) qs) →
        suc (total (λ (x : Pair K). 1) (cond b qs (q ∷ cut order k qs))) ≡ total (λ (x : Pair K). 1) (q ∷ qs)
    go true e ih = omega arith
    go false e ih = omega (arith, ih e)

module _ (K : Type 0) (unit : ℕ → ℕ) (units : Units unit) where
  -- two nodes merged, of which one was too light
  pub record Merged (l : ℕ) (x : Item K (suc l)) : Type 0 where
    pub sum : total (weight K (suc l)) (merged K unit l x) ≡ weight K (suc l) x
    pub fits : AllByRecursion (Fit K unit (suc l)) (merged K unit l x)
    pub strained : (j : ℕ) → total (strains K unit j (suc l)) (merged K unit l x) ≤ total (strains K unit j l) x

  merges : (l : ℕ) (x : Item K (suc l)) → AllByRecursion (Fit K unit l) x → 4 * unit l ≤ suc (weight K (suc l) x) → weight K (suc l) x ≤ 10 * unit l → Merged l x
  merges l x f low high = go (ltb (7 * unit l) (weight K (suc l) x)) refl
    where
      go : (b : Bool) → ltb (7 * unit l) (weight K (suc l) x) ≡ b → Merged l x
      go true e =
          let big = leb-true _ _ e in
          let c = halved K unit units l x f (omega arith) high in
          record { sum = rw e c.sum; fits = rw e c.fits; strained = λ j. rw e (omega (arith, c.strained j)) }
      go false e =
          let small = leb-false _ _ e in
          let some = unit_some unit units l in
          record {
            sum = rw e (omega arith);
            fits = rw e ((omega arith, omega arith, f), tt);
            strained = λ j. rw e (omega (arith, here_mid K unit j l (weight K (suc l) x) (omega arith) (omega arith)));
          }

  -- a node x that is too light, between its siblings
  pub record Fused (l : ℕ) (b : List (Item K (suc l))) (x : Item K (suc l)) (a : List (Item K (suc l))) : Type 0 where
    pub sum : total (weight K (suc l)) (fused K unit l b x a) ≡ total (weight K (suc l)) (onto b (x ∷ a))
    pub fits : AllByRecursion (Fit K unit (suc l)) (fused K unit l b x a)
    pub relieved : (j : ℕ) → total (strains K unit j (suc l)) (fused K unit l b x a) + relief K unit j l ≤ total (strains K unit j (suc l)) (onto b (x ∷ a))

  fuses : (l : ℕ) (b : List (Item K (suc l))) (x : Item K (suc l)) (a : List (Item K (suc l))) →
      2 ≤ length (onto b (x ∷ a)) → AllByRecursion (Fit K unit (suc l)) b → AllByRecursion (Fit K unit (suc l)) a → AllByRecursion (Fit K unit l) x → suc (weight K (suc l) x) ≡ 2 * unit l → Fused l b x a
  fuses l (y ∷ b) x a two fb fa fx e =
      let w = total_append (weight K l) y x in
      let m = merges l (y ++ x) (all_append (Fit K unit l) y x fb.0.2 fx) (omega (arith, fb.0.0)) (omega (arith, fb.0.1)) in
      let new = merged K unit l (y ++ x) in
      record {
        sum = omega (arith, m.sum, total_onto (weight K (suc l)) b (new ++ a), total_append (weight K (suc l)) new a, total_onto (weight K (suc l)) b (y ∷ x ∷ a));
        fits = all_onto (Fit K unit (suc l)) b (new ++ a) fb.1 (all_append (Fit K unit (suc l)) new a m.fits fa);
        relieved = λ j.
            let f = strains K unit j (suc l) in
            omega (arith, m.strained j, here_under K unit j l (weight K (suc l) x) e, total_append (strains K unit j l) y x, total_onto f b (new ++ a), total_append f new a, total_onto f b (y ∷ x ∷ a));
      }
  fuses l [] x (y ∷ a) two fb fa fx e =
      let w = total_append (weight K l) x y in
      let m = merges l (x ++ y) (all_append (Fit K unit l) x y fx fa.0.2) (omega (arith, fa.0.0)) (omega (arith, fa.0.1)) in
      let new = merged K unit l (x ++ y) in
      record {
        sum = omega (arith, m.sum, total_append (weight K (suc l)) new a);
        fits = all_append (Fit K unit (suc l)) new a m.fits fa.1;
        relieved = λ j.
            let f = strains K unit j (suc l) in
            omega (arith, m.strained j, here_under K unit j l (weight K (suc l) x) e, total_append (strains K unit j l) x y, total_append f new a);
      }
  fuses l [] x [] two fb fa fx e = absurd (omega arith)

  pub record Mended (l : ℕ) (b : List (Item K (suc l))) (x : Item K (suc l)) (a : List (Item K (suc l))) : Type 0 where
    pub sum : total (weight K (suc l)) (mended K unit l b x a) ≡ total (weight K (suc l)) (onto b (x ∷ a))
    pub fits : AllByRecursion (Fit K unit (suc l)) (mended K unit l b x a)
    pub relieved : (j : ℕ) → total (strains K unit j (suc l)) (mended K unit l b x a) + cond (under K unit l x) (relief K unit j l) 0 ≤ total (strains K unit j (suc l)) (onto b (x ∷ a))

  pub mends : (l : ℕ) (b : List (Item K (suc l))) (x : Item K (suc l)) (a : List (Item K (suc l))) →
      2 ≤ length (onto b (x ∷ a)) → AllByRecursion (Fit K unit (suc l)) b → AllByRecursion (Fit K unit (suc l)) a → AllByRecursion (Fit K unit l) x → 2 * unit l ≤ suc (weight K (suc l) x) → weight K (suc l) x ≤ 8 * unit l → Mended l b x a
  mends l b x a two fb fa fx low high = go (under K unit l x) refl
    where
      go : (o : Bool) → under K unit l x ≡ o → Mended l b x a
      go true e =
          let small = leb-true _ _ e in
          let g = fuses l b x a two fb fa fx (omega arith) in
          record { sum = rw e g.sum; fits = rw e g.fits; relieved = λ j. rw e (g.relieved j) }
      go false e =
          let big = leb-false _ _ e in
          record { sum = rw e refl; fits = rw e (all_onto (Fit K unit (suc l)) b (x ∷ a) fb ((omega arith, high, fx), fa)); relieved = λ j. rw e (omega arith) }

two_onto : {X : Type 0} (b : List X) (x y : X) (a : List X) → 2 ≤ length (onto b (x ∷ a)) → 2 ≤ length (onto b (y ∷ a))
two_onto b x y a t = omega (arith, length_onto b (x ∷ a), length_onto b (y ∷ a))

module _ {K : Type 0} (order : K → K → Ordering) (unit : ℕ → ℕ) (units : Units unit) where
  pub record Deleted (l : ℕ) (k : K) (x : Item K (suc l)) : Type 0 where
    pub sum : suc (weight K (suc l) (del order unit l k x)) ≡ weight K (suc l) x
    pub fits : AllByRecursion (Fit K unit l) (del order unit l k x)
    pub paid : (j : ℕ) → total (strains K unit j l) (del order unit l k x) + price (unit j) (del_mark order unit j l k x) ≤ total (strains K unit j l) x + cond (ltb j l) 1 0

  pub deleted : (l : ℕ) (k : K) (x : Item K (suc l)) → Kids K unit l x → AllByRecursion (Fit K unit l) x → is_some (find_down order l k x) ≡ true → Deleted l k x
  deleted zero k x s f e = record {
    sum = cut_weight order k x e;
    fits = all_unit (cut order k x);
    paid = λ j. omega (arith, total_none (cut order k x));
  }
  deleted (suc l) k [] s f e = absurd (omega arith)
  deleted (suc l) k (c ∷ cs) s f e =
      let z = route order (suc l) k c cs in
      let b = z.before in
      let a = z.after in
      let x = z.here in
      let back : onto b (x ∷ a) ≡ c ∷ cs = seek_back (starts order (suc l) k) [] c cs in
      let fit = all_of_onto (Fit K unit (suc l)) b (x ∷ a) (rw back f) in
      let two : 2 ≤ length (onto b (x ∷ a)) = rw back s in
      let fx : Fit K unit (suc l) x = fit.1.0 in
      let ih = deleted l k x (kids K unit units l x fx) fx.2 e in
      let y = del order unit l k x in
      let g = mends K unit units l b y a (two_onto b x y a two) fit.0 fit.1.1 ih.fits (omega (arith, ih.sum, fx.0)) (omega (arith, ih.sum, fx.1)) in
      record {
        sum = omega (arith, ih.sum, g.sum, total_onto (weight K (suc l)) b (y ∷ a), ap (total (weight K (suc l))) back, total_onto (weight K (suc l)) b (x ∷ a));
        fits = g.fits;
        paid = λ j.
            let f = strains K unit j (suc l) in
            let rest : ℕ = total f b + total f a in
            let new = mended K unit l b y a in
            let e₁ = total_onto f b (y ∷ a) in
            let e₂ = total_onto f b (x ∷ a) in
            let e₃ = ap (total f) back in
            omega (
              arith,
              e₂,
              e₃,
              pay (eqb j l) (under K unit l y) (unit l) (unit j) (fused_mark K unit l b y a) (del_mark order unit j l k x) (total f new) (here_strain K unit j l (weight K (suc l) y)) (here_strain K unit j l (weight K (suc l) x))
                  (total (strains K unit j l) y + rest) (total (strains K unit j l) x + rest) (cond (ltb j l) 1 0) (cond (ltb j (suc l)) 1 0)
                  (omega (arith, g.relieved j, e₁)) (rw (← ih.sum) (here_down K unit j l (weight K (suc l) y))) (omega (arith, ih.paid j)) (λ t. ap unit (sym (eqb-true j l t))) (below_suc j l),
            );
      }
