-- One level: what a Split does to weights and strains.
use Rattle.std.proofs.Common.{◌≡◌, ℕ, zero, suc, ◌+◌, ◌*◌, ◌≤◌, Bool, true, false, cond, eqb, List, [], ◌∷◌, ◌++◌, length, sym, refl, ap, ◌∙◌, arith}
use Rattle.std.proofs.lemmas.Bool.{leb-true, leb-false}
use Rattle.std.specs.List.{AllByRecursion}
use Rattle.plain.proofs.Alls.{all_front, all_back}
use Rattle.tree.specs.Lists.{total}
use Rattle.tree.specs.Tree.{Item, weight, Fit, Kids, left, right, over, grown}
use Rattle.tree.proofs.Lists.{total_append, halves, half_low, half_high}
use Rattle.tree.proofs.Units.{Units, unit_some}
use Rattle.tree.proofs.Strains.{strain, here_strain, strains}

strain_mid : (u w : ℕ) → 3 * u ≤ w → w ≤ 7 * u → strain u w ≡ 0
unfolding strain
strain_mid u w a b = omega arith

strain_up : (u w : ℕ) → strain u (suc w) ≤ suc (strain u w)
unfolding strain
strain_up u w = omega arith

strain_down : (u w : ℕ) → strain u w ≤ suc (strain u (suc w))
unfolding strain
strain_down u w = omega arith

strain_over : (u w : ℕ) → w ≡ suc (8 * u) → strain u w ≡ u + 1
unfolding strain
strain_over u w e = omega arith

strain_under : (u w : ℕ) → suc w ≡ 2 * u → strain u w ≡ u + 1
unfolding strain
strain_under u w e = omega arith

module _ (K : Type 0) (unit : ℕ → ℕ) where
  -- strains of level j at a node of level l, by its weight
  pub here_mid : (j l w : ℕ) → 3 * unit l ≤ w → w ≤ 7 * unit l → here_strain K unit j l w ≡ 0
  here_mid j l w a b = let z = strain_mid (unit l) w a b in grind arith

  pub here_up : (j l w : ℕ) → here_strain K unit j l (suc w) ≤ here_strain K unit j l w + cond (eqb j l) 1 0
  here_up j l w = let z = strain_up (unit l) w in grind arith

  pub here_down : (j l w : ℕ) → here_strain K unit j l w ≤ here_strain K unit j l (suc w) + cond (eqb j l) 1 0
  here_down j l w = let z = strain_down (unit l) w in grind arith

  -- what a rebalancing of level l relieves the strains of level j by
  abbrev pub relief : ℕ → ℕ → ℕ
  relief j l = cond (eqb j l) (unit l + 1) 0

  pub here_over : (j l w : ℕ) → w ≡ suc (8 * unit l) → here_strain K unit j l w ≡ relief j l
  here_over j l w e = let z = strain_over (unit l) w e in grind arith

  pub here_under : (j l w : ℕ) → suc w ≡ 2 * unit l → here_strain K unit j l w ≡ relief j l
  here_under j l w e = let z = strain_under (unit l) w e in grind arith

module _ (K : Type 0) (unit : ℕ → ℕ) (units : Units unit) where
  light : (l : ℕ) (x : Item K l) → Fit K unit l x → 2 * weight K l x ≤ unit l
  light zero x f = units.some
  light (suc l) x f = omega (arith, units.grows l, f.1)

  lights : (l : ℕ) (xs : List (Item K l)) → AllByRecursion (Fit K unit l) xs → AllByRecursion (λ x. 2 * weight K l x ≤ unit l) xs
  lights l [] f = tt
  lights l (x ∷ xs) f = (light l x f.0, lights l xs f.1)

  pub record Cut (l : ℕ) (x : Item K (suc l)) : Type 0 where
    pub whole : left K unit l x ++ right K unit l x ≡ x
    pub sum : weight K (suc l) (left K unit l x) + weight K (suc l) (right K unit l x) ≡ weight K (suc l) x
    pub left_low : 3 * unit l ≤ weight K (suc l) (left K unit l x)
    pub left_high : weight K (suc l) (left K unit l x) ≤ 7 * unit l
    pub right_low : 3 * unit l ≤ weight K (suc l) (right K unit l x)
    pub right_high : weight K (suc l) (right K unit l x) ≤ 7 * unit l
    pub left_fits : AllByRecursion (Fit K unit l) (left K unit l x)
    pub right_fits : AllByRecursion (Fit K unit l) (right K unit l x)

  pub cut : (l : ℕ) (x : Item K (suc l)) → AllByRecursion (Fit K unit l) x → 7 * unit l ≤ weight K (suc l) x → weight K (suc l) x ≤ 10 * unit l → Cut l x
  cut l x f low high =
      let t : ℕ = weight K (suc l) x in
      let both = halves (weight K l) t 0 x in
      let f' : AllByRecursion (Fit K unit l) (left K unit l x ++ right K unit l x) = rw both f in
      let sums = total_append (weight K l) (left K unit l x) (right K unit l x) in
      let sum' : weight K (suc l) (left K unit l x) + weight K (suc l) (right K unit l x) ≡ t = sym sums ∙ ap (total (weight K l)) both in
      let lo = half_low (weight K l) t 0 x (omega arith) in
      let hi = half_high (weight K l) (unit l) t 0 x (lights l x f) (omega arith) in
      record {
        whole = both;
        sum = sum';
        left_low = omega arith;
        left_high = omega arith;
        right_low = omega arith;
        right_high = omega arith;
        left_fits = all_front (Fit K unit l) (left K unit l x) (right K unit l x) f';
        right_fits = all_back (Fit K unit l) (left K unit l x) (right K unit l x) f';
      }

  -- what the two halves are, together
  pub record Halved (l : ℕ) (x : Item K (suc l)) : Type 0 where
    pub whole : left K unit l x ++ right K unit l x ≡ x
    pub sum : weight K (suc l) (left K unit l x) + (weight K (suc l) (right K unit l x) + 0) ≡ weight K (suc l) x
    pub fits : AllByRecursion (Fit K unit (suc l)) (left K unit l x ∷ right K unit l x ∷ [])
    pub strained : (j : ℕ) → strains K unit j (suc l) (left K unit l x) + (strains K unit j (suc l) (right K unit l x) + 0) ≡ total (strains K unit j l) x

  pub halved : (l : ℕ) (x : Item K (suc l)) → AllByRecursion (Fit K unit l) x → 7 * unit l ≤ weight K (suc l) x → weight K (suc l) x ≤ 10 * unit l → Halved l x
  halved l x f low high =
      let c = cut l x f low high in
      let some = unit_some unit units l in
      record {
        whole = c.whole;
        sum = omega arith;
        fits = ((omega arith, omega arith, c.left_fits), ((omega arith, omega arith, c.right_fits), tt));
        strained = λ j.
            let a = here_mid K unit j l _ c.left_low c.left_high in
            let b = here_mid K unit j l _ c.right_low c.right_high in
            let t = total_append (strains K unit j l) (left K unit l x) (right K unit l x) in
            let w = ap (total (strains K unit j l)) c.whole in
            omega arith;
      }

  -- what stands in the place of a node after an insertion
  pub record Grown (l : ℕ) (x : Item K (suc l)) : Type 0 where
    pub sum : total (weight K (suc l)) (grown K unit l x) ≡ weight K (suc l) x
    pub fits : AllByRecursion (Fit K unit (suc l)) (grown K unit l x)
    pub some : 1 ≤ length (grown K unit l x)
    pub relieved : (j : ℕ) → total (strains K unit j (suc l)) (grown K unit l x) + cond (over K unit l x) (relief K unit j l) 0 ≤ strains K unit j (suc l) x

  pub grows : (l : ℕ) (x : Item K (suc l)) → AllByRecursion (Fit K unit l) x → 2 * unit l ≤ weight K (suc l) x → weight K (suc l) x ≤ suc (8 * unit l) → Grown l x
  grows l x f low high = go (over K unit l x) refl
    where
      go : (b : Bool) → over K unit l x ≡ b → Grown l x
      go true e =
          let big = leb-true _ _ e in
          let c = halved l x f (omega arith) (omega (arith, unit_some unit units l)) in
          record {
            sum = rw e c.sum;
            fits = rw e c.fits;
            some = rw e (omega arith);
            relieved = λ j. rw e (omega (arith, c.strained j, here_over K unit j l (weight K (suc l) x) (omega arith)));
          }
      go false e =
          let small = leb-false _ _ e in
          record { sum = rw e (omega arith); fits = rw e ((low, omega arith, f), tt); some = rw e (omega arith); relieved = λ j. rw e (omega arith) }

  -- a node below a root has two children or more, if it has children
  pub kids : (l : ℕ) (x : Item K (suc l)) → Fit K unit (suc l) x → Kids K unit l x
  kids zero x f = tt
  kids (suc l) [] f = absurd (omega (arith, f.0, unit_some unit units (suc l)))
  kids (suc l) (x ∷ []) f = absurd (omega (arith, f.0, f.2.0.1, unit_some unit units l, units.grows l))
  kids (suc l) (x ∷ y ∷ xs) f = omega arith
