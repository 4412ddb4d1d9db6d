-- An update of a whole tree keeps the rules of weight, and pays for its rebalancings.
use Rattle.std.proofs.Common.{◌≡◌, ℕ, zero, suc, ◌+◌, ◌*◌, ◌<◌, ◌≤◌, Bool, true, false, cond, eqb, ltb, [], ◌∷◌, is_some, Ordering, sym, refl, ap, inl, inr, arith}
use Rattle.std.proofs.lemmas.Bool.{leb-true, leb-false, eqb-true, cases_lt}
use Rattle.std.specs.List.{AllByRecursion}
use Rattle.tree.specs.Lists.{total}
use Rattle.tree.specs.Tree.{Item, Tree, Weighed, adds, drops, weight, size, Fit, Kids, left, right, over, ins, ins_mark, del, lowered, raised, updated, mark}
use Rattle.tree.specs.Queries.{find_down}
use Rattle.tree.specs.declared.mark.Mark.{Mark}
use Rattle.tree.specs.declared.mark.Mark.TheVariants.{Nothing, Split}
use Rattle.tree.proofs.Units.{Units, unit_some}
use Rattle.tree.proofs.Strains.{price, strain, root_strain, here_strain, strains, tree_strain}
use Rattle.tree.proofs.Levels.{halved, kids}
use Rattle.tree.proofs.Insert.{inserted}
use Rattle.tree.proofs.Delete.{deleted}

root_up : (u w : ℕ) → root_strain u (suc w) ≤ suc (root_strain u w)
unfolding root_strain
root_up u w = omega arith

root_down : (u w : ℕ) → root_strain u w ≤ root_strain u (suc w)
unfolding root_strain
root_down u w = omega arith

root_full : (u w : ℕ) → w ≡ 8 * u → root_strain u w ≡ u
unfolding root_strain
root_full u w e = omega arith

root_low : (u w : ℕ) → w ≤ 7 * u → root_strain u w ≡ 0
unfolding root_strain
root_low u w e = omega arith

root_le : (u w : ℕ) → root_strain u w ≤ strain u w
unfolding root_strain strain
root_le u w = omega arith

below : (j l : ℕ) → cond (ltb j l) 1 0 + cond (eqb j l) 1 0 ≤ 1
below j l = grind arith

-- the root splits
pay_split : (b c : Bool) (u v r s : ℕ) (m : Mark) (inside' inside lower : ℕ) →
    r ≡ u → s ≡ 0 → inside' + price v m ≤ inside + lower → (b ≡ true → u ≡ v) → lower + cond b 1 0 ≤ 1 →
    cond c s 0 + inside' + price v (cond b Split m) ≤ cond b r 0 + inside + 1
pay_split true true u v r s m inside' inside lower p q t e f = omega (arith, e refl)
pay_split true false u v r s m inside' inside lower p q t e f = omega (arith, e refl)
pay_split false true u v r s m inside' inside lower p q t e f = omega arith
pay_split false false u v r s m inside' inside lower p q t e f = omega arith

-- and it does not
pay_stay : (b : Bool) (v r s : ℕ) (m : Mark) (inside' inside lower : ℕ) →
    s ≤ suc r → inside' + price v m ≤ inside + lower → lower + cond b 1 0 ≤ 1 →
    cond b s 0 + inside' + price v (cond b Nothing m) ≤ cond b r 0 + inside + 1
pay_stay true v r s m inside' inside lower p t f = omega arith
pay_stay false v r s m inside' inside lower p t f = omega arith

module _ {K : Type 0} (order : K → K → Ordering) (unit : ℕ → ℕ) (units : Units unit) where
  pub record Inserts (k : K) (h : ℕ) (t : Tree K) : Type 0 where
    pub weighed : Weighed K unit (updated order unit t (adds k h))
    pub paid : (j : ℕ) → tree_strain K unit j (updated order unit t (adds k h)) + price (unit j) (mark order unit j t (adds k h)) ≤ tree_strain K unit j t + 1

  pub inserts : (k : K) (h : ℕ) (t : Tree K) → Weighed K unit t → Inserts k h t
  inserts k h t g = go (over K unit t.level (ins order unit t.level k h t.root)) refl
    where
      go : (b : Bool) → over K unit t.level (ins order unit t.level k h t.root) ≡ b → Inserts k h t
      go true e =
          let l = t.level in
          let x = t.root in
          let y = ins order unit l k h x in
          let i = inserted order unit units l k h x g.two g.fits in
          let big = leb-true _ _ e in
          let some = unit_some unit units l in
          let more = units.grows l in
          let full : weight K (suc l) x ≡ 8 * unit l = omega (arith, i.sum, g.limit) in
          let c = halved K unit units l y i.fits (omega arith) (omega (arith, i.sum, g.limit)) in
          record {
            weighed = rw e (record { limit = omega (arith, c.sum, i.sum); two = omega arith; fits = c.fits });
            paid = λ j. rw e (omega (
              arith,
              c.strained j,
              pay_split (eqb j l) (eqb j (suc l)) (unit l) (unit j) (root_strain (unit l) (weight K (suc l) x)) (root_strain (unit (suc l)) (weight K (suc (suc l)) (left K unit l y ∷ right K unit l y ∷ []))) (ins_mark order unit j l k h x)
                  (total (strains K unit j l) y) (total (strains K unit j l) x) (cond (ltb j l) 1 0)
                  (root_full (unit l) _ full) (root_low (unit (suc l)) _ (omega (arith, c.sum, i.sum))) (i.paid j) (λ z. ap unit (sym (eqb-true j l z))) (below j l),
            ));
          }
      go false e =
          let l = t.level in
          let x = t.root in
          let y = ins order unit l k h x in
          let i = inserted order unit units l k h x g.two g.fits in
          let small = leb-false _ _ e in
          record {
            weighed = rw e (record { limit = omega arith; two = i.two; fits = i.fits });
            paid = λ j. rw e (pay_stay (eqb j l) (unit j) (root_strain (unit l) (weight K (suc l) x)) (root_strain (unit l) (weight K (suc l) y)) (ins_mark order unit j l k h x)
                (total (strains K unit j l) y) (total (strains K unit j l) x) (cond (ltb j l) 1 0) (rw i.sum (root_up (unit l) (weight K (suc l) x))) (i.paid j) (below j l));
          }

  heavy : (l : ℕ) (x : Item K (suc (suc l))) → Kids K unit (suc l) x → AllByRecursion (Fit K unit (suc l)) x → 2 ≤ weight K (suc (suc l)) x
  heavy l [] two f = absurd (omega arith)
  heavy l (c ∷ cs) two f = omega (arith, f.0.0, unit_some unit units l)

  record Lowered (l : ℕ) (y : Item K (suc l)) : Type 0 where
    weighed : Weighed K unit (lowered K l y)
    strained : (j : ℕ) → tree_strain K unit j (lowered K l y) ≤ cond (eqb j l) (root_strain (unit l) (weight K (suc l) y)) 0 + total (strains K unit j l) y

  lowers : (l : ℕ) (x y : Item K (suc l)) → Kids K unit l x → AllByRecursion (Fit K unit l) x → suc (weight K (suc l) y) ≡ weight K (suc l) x →
      weight K (suc l) y ≤ 8 * unit l → AllByRecursion (Fit K unit l) y → Lowered l y
  lowers zero x y two fx e high f = record { weighed = record { limit = high; two = tt; fits = f }; strained = λ j. omega arith }
  lowers (suc l) x [] two fx e high f = absurd (omega (arith, heavy l x two fx))
  lowers (suc l) x (c ∷ []) two fx e high f = record {
    weighed = record { limit = f.0.1; two = kids K unit units l c f.0; fits = f.0.2 };
    strained = λ j. omega (arith, root_here j l (weight K (suc l) c));
  }
    where
      root_here : (j l w : ℕ) → cond (eqb j l) (root_strain (unit l) w) 0 ≤ here_strain K unit j l w
      root_here j l w = go (eqb j l)
        where
          go : (b : Bool) → cond b (root_strain (unit l) w) 0 ≤ cond b (strain (unit l) w) 0
          go true = root_le (unit l) w
          go false = omega arith
  lowers (suc l) x (c ∷ d ∷ cs) two fx e high f = record { weighed = record { limit = high; two = omega arith; fits = f }; strained = λ j. omega arith }

  pub record Deletes (k : K) (t : Tree K) : Type 0 where
    pub weighed : Weighed K unit (updated order unit t (drops k))
    pub paid : (j : ℕ) → tree_strain K unit j (updated order unit t (drops k)) + price (unit j) (mark order unit j t (drops k)) ≤ tree_strain K unit j t + 1

  pub deletes : (k : K) (t : Tree K) → Weighed K unit t → is_some (find_down order t.level k t.root) ≡ true → Deletes k t
  deletes k t g e =
      let l = t.level in
      let x = t.root in
      let y = del order unit l k x in
      let d = deleted order unit units l k x g.two g.fits e in
      let w = lowers l x y g.two g.fits d.sum (omega (arith, d.sum, g.limit)) d.fits in
      record {
        weighed = w.weighed;
        paid = λ j. omega (arith, w.strained j, d.paid j, below j l, falls (eqb j l) (root_strain (unit l) (weight K (suc l) y)) (root_strain (unit l) (weight K (suc l) x)) (rw (← d.sum) (root_down (unit l) (weight K (suc l) y))));
      }
    where
      falls : (b : Bool) (r s : ℕ) → r ≤ s → cond b r 0 ≤ cond b s 0
      falls true r s p = p
      falls false r s p = omega arith

  lowered_level : (l : ℕ) (x : Item K (suc l)) → (lowered K l x).level ≤ l
  lowered_level zero x = omega arith
  lowered_level (suc l) [] = omega arith
  lowered_level (suc l) (c ∷ []) = omega arith
  lowered_level (suc l) (c ∷ d ∷ cs) = omega arith

  raised_level : (m l : ℕ) (x : Item K (suc l)) → l ≤ m → weight K (suc l) x ≤ 8 * unit m → (raised K unit l x).level ≤ m
  raised_level m l x h w = go (over K unit l x) refl
    where
      same : (l ≡ m) → 8 * unit l < weight K (suc l) x → ⊥
      same e big = omega (arith, ap unit e)

      go : (b : Bool) → over K unit l x ≡ b → (cond {A = Tree K} b (record { level = suc l; root = left K unit l x ∷ right K unit l x ∷ [] }) (record { level = l; root = x })).level ≤ m
      go true e = elim (cases_lt l m) [ inl p ↦ p | inr q ↦ absurd (same (omega arith) (leb-true _ _ e)) ]
      go false e = h

  -- no tree rises above level m while its keys fit W(m)
  pub stays_low : (m : ℕ) (k : K) (h : ℕ) (t : Tree K) → Weighed K unit t → t.level ≤ m → size K t < 8 * unit m → (updated order unit t (adds k h)).level ≤ m
  stays_low m k h t g low fits = raised_level m t.level (ins order unit t.level k h t.root) low (omega (arith, (inserted order unit units t.level k h t.root g.two g.fits).sum))

  pub falls_low : (k : K) (t : Tree K) → (updated order unit t (drops k)).level ≤ t.level
  falls_low k t = lowered_level t.level (del order unit t.level k t.root)
