-- The smallest key of a node that a pair was put into.
use Rattle.std.proofs.Common.{◌≡◌, ℕ, suc, ◌≤◌, Bool, true, false, cond, List, [], ◌∷◌, ◌++◌, get_or, Some, Ordering, Less, Equal, Greater, sym, refl, ap, ◌∙◌, arith}
use Rattle.std.specs.Ordering.{is_le, ord_min}
use Rattle.std.specs.List.{AllByRecursion}
use Rattle.keys.specs.Orders.{Orderly}
use Rattle.plain.specs.Plain.{Sorted, put}
use Rattle.plain.specs.declared.pair.Pair.{Pair}
use Rattle.tree.specs.Lists.{joined}
use Rattle.tree.specs.Tree.{Item, Fit, Kids, index_unit, ins, pairs, smallest, weight}
use Rattle.tree.proofs.Flat.{first, flat_ins}
use Rattle.tree.proofs.Insert.{inserted}
use Rattle.balance.proofs.Levels.{index_units}
use Rattle.held.specs.Held.{Kind, Lawful, smallest_words, words_of}

-- the smaller of two keys is the one that a list would have first
min_is : {K : Type 0} {order : K → K → Ordering} (o : Orderly order) (q k : K) → cond (is_le (order q k)) q k ≡ ord_min order q k
min_is {K} {order} o q k = go (order q k) refl
  where
    go : (r : Ordering) → order q k ≡ r → cond (is_le r) q k ≡ ord_min order q k
    go Less e = rw (o.flips q k e) refl
    go Equal e = rw (ap (λ z. order k z) (o.apart q k e) ∙ o.same k) refl
    go Greater e = rw (o.flops q k e) refl

module _ {K : Type 0} {order : K → K → Ordering} (o : Orderly order) where
  -- the first pair of a node that isn't empty
  pub record Begins (l : ℕ) (x : Item K (suc l)) : Type 0 where
    pub q : Pair K
    pub rest : List (Pair K)
    pub is : pairs K (suc l) x ≡ q ∷ rest
    pub least : smallest K (suc l) x ≡ Some q.key

  pub begins : (l : ℕ) (x : Item K (suc l)) → AllByRecursion (Fit K index_unit l) x → 1 ≤ weight K (suc l) x → Begins l x
  begins l [] f h = absurd (omega arith)
  begins l (c ∷ cs) f h =
      let a = first o index_unit index_units l c f.0 in
      record { q = a.q; rest = a.rest ++ joined (pairs K l) cs; is = ap (λ z. z ++ joined (pairs K l) cs) a.is; least = a.least }

-- the key of the first pair, where the list is one of two
head_is : {K : Type 0} (q' q p : Pair K) (rest xs ys : List (Pair K)) (b : Bool) → q' ∷ rest ≡ cond b (q ∷ xs) (p ∷ ys) → q'.key ≡ cond b q.key p.key
head_is q' q p rest xs ys true e = ap (λ z. (get_or z 0 q').key) e
head_is q' q p rest xs ys false e = ap (λ z. (get_or z 0 q').key) e

module _ {K : Type 0} (κ : Kind K) (law : Lawful κ) where
  -- it is the old one or the new key
  pub smallest_ins : (l : ℕ) (k : K) (h : ℕ) (x : Item K (suc l)) (key : List ℕ) → Kids K index_unit l x → AllByRecursion (Fit K index_unit l) x → Sorted κ.order (pairs K (suc l) x) → 1 ≤ weight K (suc l) x → key ≡ smallest_words κ (suc l) x →
      smallest_words κ (suc l) (ins κ.order index_unit l k h x) ≡ κ.packed (ord_min κ.order (κ.unpacked key) k)
  smallest_ins l k h x key two fits asc some e =
      let y = ins κ.order index_unit l k h x in
      let more = inserted κ.order index_unit index_units l k h x two fits in
      let a = begins law.ordered l x fits some in
      let b = begins law.ordered l y more.fits (omega (arith, more.sum)) in
      let p : Pair K = record { key = k; handle = h } in
      let list = sym b.is ∙ flat_ins law.ordered index_unit index_units l k h x two fits asc ∙ ap (λ z. put κ.order k h z) a.is in
      let old : κ.unpacked key ≡ a.q.key = ap κ.unpacked (e ∙ ap (words_of κ) a.least) ∙ law.packing.back a.q.key in
      ap (words_of κ) b.least ∙ ap κ.packed (head_is b.q a.q p b.rest _ _ (is_le (κ.order a.q.key k)) list ∙ min_is law.ordered a.q.key k ∙ ap (λ z. ord_min κ.order z k) (sym old))
