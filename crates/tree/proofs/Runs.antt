-- Lists of updates: the induction.
use Rattle.std.proofs.Common.{◌≡◌, ℕ, zero, suc, ◌+◌, ◌*◌, ◌≤◌, Bool, true, false, cond, not, leb, List, [], ◌∷◌, ◌++◌, length, is_some, Some, None, Ordering, sym, refl, ap, ◌∙◌, append-nil, arith}
use Rattle.std.proofs.lemmas.Bool.{false≢true, leb-false}
use Rattle.keys.specs.Orders.{Orderly}
use Rattle.plain.specs.Plain.{present, put, cut}
use Rattle.plain.proofs.Pairs.{sorted_put, sorted_cut}
use Rattle.tree.specs.Lists.{joined}
use Rattle.tree.specs.Tree.{Item, Tree, Update, adds, drops, Rules, pairs, content, empty, over, left, right, ins, del, raised, lowered, updated, mark}
use Rattle.tree.specs.Queries.{find_down}
use Rattle.tree.specs.Runs.{counts, listed, plain, accepted, takes_up, next, grown_by, rebalancings}
use Rattle.tree.specs.declared.mark.Mark.{Mark}
use Rattle.tree.specs.declared.mark.Mark.TheVariants.{Nothing, Split, Merge, MergeSplit}
use Rattle.tree.proofs.Units.{Units}
use Rattle.tree.proofs.Strains.{price, root_strain, tree_strain}
use Rattle.tree.proofs.Flat.{flat_split, flat_ins, flat_find, flat_del, count_pairs}
use Rattle.tree.proofs.Root.{inserts, deletes, stays_low, falls_low}

price_counts : (u : ℕ) (m : Mark) → counts m * (u + 1) ≡ price u m
price_counts u Nothing = omega arith
price_counts u Split = omega arith
price_counts u Merge = omega arith
price_counts u MergeSplit = omega arith

pub raised_content : (K : Type 0) (unit : ℕ → ℕ) (l : ℕ) (x : Item K (suc l)) → content K (raised K unit l x) ≡ pairs K (suc l) x
raised_content K unit l x = go (over K unit l x) (flat_split K unit l (8 * unit l) x)
  where
    go : (b : Bool) → joined (pairs K (suc l)) (cond b (left K unit l x ∷ right K unit l x ∷ []) (x ∷ [])) ≡ pairs K (suc l) x →
        content K (cond b (record { level = suc l; root = left K unit l x ∷ right K unit l x ∷ [] }) (record { level = l; root = x })) ≡ pairs K (suc l) x
    go true e = e
    go false e = refl

pub lowered_content : (K : Type 0) (l : ℕ) (x : Item K (suc l)) → content K (lowered K l x) ≡ pairs K (suc l) x
lowered_content K zero x = refl
lowered_content K (suc l) [] = refl
lowered_content K (suc l) (c ∷ []) = sym (append-nil (pairs K (suc l) c))
lowered_content K (suc l) (c ∷ d ∷ cs) = refl

-- what is accepted
added : (b c : Bool) → not (is_some {T = ℕ} (cond b (Some 3) (cond c (Some 5) None))) ≡ true → (b ≡ false) × (c ≡ false)
added true c e = absurd (false≢true e)
added false true e = absurd (false≢true e)
added false false e = (refl, refl)

dropped : (b : Bool) → not (is_some {T = ℕ} (cond b None (Some 4))) ≡ true → b ≡ true
dropped true e = refl
dropped false e = absurd (false≢true e)

module _ {K : Type 0} {order : K → K → Ordering} (o : Orderly order) (unit : ℕ → ℕ) (units : Units unit) (top : ℕ) where
  -- an accepted update
  pub record Made (t : Tree K) (u : Update K) : Type 0 where
    pub rules : Rules order unit top (updated order unit t u)
    pub holds : content K (updated order unit t u) ≡ listed order (content K t) u
    pub paid : (j : ℕ) → tree_strain K unit j (updated order unit t u) + price (unit j) (mark order unit j t u) ≤ tree_strain K unit j t + 1

  pub makes : (t : Tree K) (u : Update K) → Rules order unit top t → takes_up order unit top t u ≡ true → Made t u
  makes t (adds k h) s e =
      let i = inserts order unit units k h t s.weighed in
      let yes = added (present order k (content K t)) (leb (8 * unit top) (length (content K t))) e in
      let few = leb-false _ _ yes.1 in
      let same : content K (updated order unit t (adds k h)) ≡ put order k h (content K t) =
      raised_content K unit t.level (ins order unit t.level k h t.root) ∙ flat_ins o unit units t.level k h t.root s.weighed.two s.weighed.fits s.ascending in
      record {
        rules = record {
          weighed = i.weighed;
          ascending = rw same (sorted_put o k h (content K t) s.ascending yes.0);
          low = stays_low order unit units top k h t s.weighed s.low (omega (arith, count_pairs K (suc t.level) t.root));
        };
        holds = same;
        paid = i.paid;
      }
  makes t (drops k) s e =
      let at : is_some (find_down order t.level k t.root) ≡ true = ap is_some (flat_find o unit units t.level k t.root s.weighed.two s.weighed.fits s.ascending) ∙ dropped (present order k (content K t)) e in
      let d = deletes order unit units k t s.weighed at in
      let same : content K (updated order unit t (drops k)) ≡ cut order k (content K t) =
      lowered_content K t.level (del order unit t.level k t.root) ∙ flat_del o unit units t.level k t.root s.weighed.two s.weighed.fits s.ascending at in
      record {
        rules = record { weighed = d.weighed; ascending = rw same (sorted_cut order k (content K t) s.ascending); low = omega (arith, falls_low order unit units k t, s.low) };
        holds = same;
        paid = d.paid;
      }

  -- and any, accepted or not
  pub record Next (t : Tree K) (u : Update K) : Type 0 where
    pub rules : Rules order unit top (next order unit top t u)
    pub holds : content K (next order unit top t u) ≡ cond (takes_up order unit top t u) (listed order (content K t) u) (content K t)
    pub paid : (j : ℕ) → tree_strain K unit j (next order unit top t u) + cond (takes_up order unit top t u) (counts (mark order unit j t u)) 0 * (unit j + 1) ≤ tree_strain K unit j t + cond (takes_up order unit top t u) 1 0

  pub nexts : (t : Tree K) (u : Update K) → Rules order unit top t → Next t u
  nexts t u s = go (takes_up order unit top t u) refl
    where
      go : (b : Bool) → takes_up order unit top t u ≡ b → Next t u
      go true e = let m = makes t u s e in record { rules = rw e m.rules; holds = rw e m.holds; paid = λ j. rw (e, price_counts (unit j) (mark order unit j t u)) (m.paid j) }
      go false e = record { rules = rw e s; holds = rw e refl; paid = λ j. rw e (omega arith) }

  pub record Ran (t : Tree K) (us : List (Update K)) : Type 0 where
    pub rules : Rules order unit top (grown_by order unit top t us)
    pub holds : content K (grown_by order unit top t us) ≡ plain order (8 * unit top) (content K t) us
    pub paid : (j : ℕ) → rebalancings order unit top j t us * (unit j + 1) + tree_strain K unit j (grown_by order unit top t us) ≤ tree_strain K unit j t + accepted order (8 * unit top) (content K t) us

  pub runs : (t : Tree K) (us : List (Update K)) → Rules order unit top t → Ran t us
  runs t [] s = record { rules = s; holds = refl; paid = λ j. omega arith }
  runs t (u ∷ us) s =
      let n = nexts t u s in
      let r = runs (next order unit top t u) us n.rules in
      record {
        rules = r.rules;
        holds = r.holds ∙ ap (λ qs. plain order (8 * unit top) qs us) n.holds;
        paid = λ j. omega (arith, r.paid j, n.paid j, ap (λ qs. accepted order (8 * unit top) qs us) n.holds);
      }

  pub empty_rules : Rules order unit top (empty K)
  empty_rules = record { weighed = record { limit = omega arith; two = tt; fits = tt }; ascending = tt; low = omega arith }

pub empty_strain : (K : Type 0) (unit : ℕ → ℕ) (j : ℕ) → tree_strain K unit j (empty K) ≡ 0
unfolding root_strain
empty_strain K unit j = grind arith

-- updates one after the other
pub grown_append : {K : Type 0} (order : K → K → Ordering) (unit : ℕ → ℕ) (top : ℕ) (t : Tree K) (us vs : List (Update K)) →
    grown_by order unit top t (us ++ vs) ≡ grown_by order unit top (grown_by order unit top t us) vs
grown_append order unit top t [] vs = refl
grown_append order unit top t (u ∷ us) vs = grown_append order unit top (next order unit top t u) us vs
