-- Resume finds the last step of a case.
use Rattle.std.proofs.Common.{◌≡◌, ℕ, ◌^◌, ◌<◌, ◌≤◌, Bool, true, false, cond, eqb, List, ◌∷◌, Some, None, Option, Ordering, Less, Equal, Greater, sym, refl, ap, ◌∙◌, subst, arith}
use Rattle.std.proofs.lemmas.Bool.{both_ways, eqb-true, eqb-false}
use Rattle.std.specs.Cmp.{ranks}
use Rattle.std.specs.Ordering.{ordering_then, MatchOrdering, is_le, nat_cmp}
use Rattle.std.specs.List.{AllByRecursion}
use Rattle.keys.specs.Checkpoints.{order}
use Rattle.keys.specs.Orders.{Orderly}
use Rattle.keys.specs.declared.checkpoint.Checkpoint.{Checkpoint}
use Rattle.plain.specs.Plain.{Sorted, floor}
use Rattle.plain.specs.Resume.{of_case, last_of, resume}
use Rattle.plain.specs.Laws.{LargestAt, Floor, LastStep}
use Rattle.plain.specs.declared.pair.Pair.{Pair}
use Rattle.plain.proofs.Alls.{all_map, all_append}
use Rattle.plain.proofs.Floors.{floors}

-- what a comparison of two checkpoints says of their parts
abbrev Told : Checkpoint → Checkpoint → Ordering → Type 0
Told x y Less = (x.case ≤ y.case) × (x.case ≡ y.case → x.step < y.step)
Told x y Equal = (x.case ≡ y.case) × (x.step ≡ y.step)
Told x y Greater = (y.case ≤ x.case) × (x.case ≡ y.case → y.step < x.step)

told : (x y : Checkpoint) → Told x y (order x y)
told x y = go (nat_cmp x.case y.case) (nat_cmp x.step y.step) (ranks x.case y.case) (ranks x.step y.step)
  where
    go : (p q : Ordering) → MatchOrdering p (x.case < y.case) (x.case ≡ y.case) (y.case < x.case) → MatchOrdering q (x.step < y.step) (x.step ≡ y.step) (y.step < x.step) → Told x y (ordering_then p q)
    go Less q c s = (omega arith, λ e. absurd (omega arith))
    go Equal Less c s = (omega arith, λ e. s)
    go Equal Equal c s = (c, s)
    go Equal Greater c s = (omega arith, λ e. s)
    go Greater q c s = (omega arith, λ e. absurd (omega arith))

says : (x y : Checkpoint) (r : Ordering) → order x y ≡ r → Told x y r
says x y r e = subst (Told x y) e (told x y)

module _ (o : Orderly order) (case : ℕ) (fits : case < 2 ^ 32) where
  same : (last_of case).case ≡ case
  same = omega arith

  -- above the case's largest checkpoint is no step of the case
  beyond : (x : Checkpoint) → order x (last_of case) ≡ Greater → x.case ≡ case → ⊥
  beyond x g e = let t = says x (last_of case) Greater g in omega (arith, t.1 (e ∙ sym same), x.fits)

  at_last : (x : Checkpoint) → is_le (order x (last_of case)) ≡ true → x.case ≤ case
  at_last x l = go (order x (last_of case)) refl l
    where
      go : (r : Ordering) → order x (last_of case) ≡ r → is_le r ≡ true → x.case ≤ case
      go Less e l = omega (arith, (says x (last_of case) Less e).0)
      go Equal e l = omega (arith, (says x (last_of case) Equal e).0)
      go Greater e l = absurd (both_ways _ refl l)

  pub last_step : (ps : List (Pair Checkpoint)) → Sorted order ps → LastStep case ps (resume case ps)
  last_step ps a = go (floor order (last_of case) ps) (floors o (last_of case) ps a)
    where
      found : (r : Pair Checkpoint) → LargestAt order (last_of case) ps r → (b : Bool) → eqb r.key.case case ≡ b → LastStep case ps (cond b (Some r) None)
      found r f true e =
          let c = eqb-true _ _ e in (
            c,
            record {
              before = f.before;
              after = f.after;
              is = f.is;
              at_most = ap is_le (o.same r.key);
              smaller = f.smaller;
              above = all_map (λ p. order p.key (last_of case) ≡ Greater) (λ p. order p.key r.key ≡ Greater) f.after
                  (λ p g. let b : order (last_of case) p.key ≡ Less = o.flops p.key (last_of case) g in o.flips r.key p.key (under r.key p.key f.at_most b))
                  f.above;
            },
            subst (AllByRecursion (λ p. p.key.case ≡ case → p.key.step ≤ r.key.step)) (sym f.is) (all_append (λ p. p.key.case ≡ case → p.key.step ≤ r.key.step) f.before (r ∷ f.after)
                (all_map (λ p. order p.key r.key ≡ Less) (λ p. p.key.case ≡ case → p.key.step ≤ r.key.step) f.before (λ p s z. omega (arith, (says p.key r.key Less s).1 (z ∙ sym c))) f.smaller)
                (λ z. omega arith, all_map (λ p. order p.key (last_of case) ≡ Greater) (λ p. p.key.case ≡ case → p.key.step ≤ r.key.step) f.after (λ p g z. absurd (beyond p.key g z)) f.above)),
          )
        where
          under : (x y : Checkpoint) → is_le (order x (last_of case)) ≡ true → order (last_of case) y ≡ Less → order x y ≡ Less
          under x y l s = go (order x (last_of case)) refl l
            where
              go : (q : Ordering) → order x (last_of case) ≡ q → is_le q ≡ true → order x y ≡ Less
              go Less e l = o.chain x (last_of case) y e s
              go Equal e l = ap (λ z. order z y) (o.apart x (last_of case) e) ∙ s
              go Greater e l = absurd (both_ways _ refl l)
      found r f false e =
          let n = eqb-false _ _ e in
          subst (AllByRecursion (λ p. p.key.case ≡ case → ⊥)) (sym f.is) (all_append (λ p. p.key.case ≡ case → ⊥) f.before (r ∷ f.after)
          (all_map (λ p. order p.key r.key ≡ Less) (λ p. p.key.case ≡ case → ⊥) f.before (λ p s z. n (omega (arith, (says p.key r.key Less s).0, at_last r.key f.at_most))) f.smaller)
          (n, all_map (λ p. order p.key (last_of case) ≡ Greater) (λ p. p.key.case ≡ case → ⊥) f.after (λ p g. beyond p.key g) f.above))

      go : (r : Option (Pair Checkpoint)) → Floor order (last_of case) ps r → LastStep case ps (of_case case r)
      go None f = all_map (λ p. order p.key (last_of case) ≡ Greater) (λ p. p.key.case ≡ case → ⊥) ps (λ p g. beyond p.key g) f
      go (Some r) f = found r f (eqb r.key.case case) refl
