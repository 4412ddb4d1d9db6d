-- A child that became too light, merged with a sibling in one way or the other.
use Rattle.std.proofs.Common.{◌≡◌, ℕ, suc, ◌*◌, ◌/◌, ◌<◌, ◌≤◌, true, false, ltb, List, [], ◌∷◌, sym, ap, ◌∙◌, subst, arith}
use Rattle.std.proofs.lemmas.Bool.{lt-ltb, le-ltb, cond-true, cond-false}
use Rattle.store.specs.Meaning.{Meaning}
use Rattle.tree.specs.declared.mark.Mark.TheVariants.{Merge, MergeSplit}
use Rattle.tree.specs.Tree.{Item, index_unit, weight, left, right}
use Rattle.balance.specs.Limits.{limit_of}
use Rattle.balance.proofs.Levels.{limit_unit}
use Rattle.held.specs.Held.{Kind}
use Rattle.shrink.specs.declared.merge.Siblings.{Siblings}
use Rattle.shrink.specs.Merges.{Neighbours, Paired, Looked, Mergeable, Shareable, Merged, Shared, Rejoined, Fused, pooled}
use Rattle.shrink.proofs.Pairing.{pooled_weight}

module _ {K : Type 0} (κ : Kind K) where
  -- what was read is a pair that can be merged
  pub mergeable_of : (p i l : ℕ) (m n : Meaning) (s : Siblings K) → Neighbours κ p i l m → Looked κ p i l m s n → Mergeable κ s n
  mergeable_of p i l m n s near k =
      let pair = k.pair in
      let lv : s.left.child.level ≡ l = ap (λ z. z.level) pair.left_child in
      let back : (P : ℕ → ℕ → ℕ → Type 0) → P p i l → P s.left.parent s.left.place s.left.child.level = λ P h.
      subst (λ z. P z s.left.place s.left.child.level) (sym pair.left_parent) (subst (λ z. P p z s.left.child.level) (sym pair.left_place) (subst (λ z. P p i z) (sym lv) h)) in
      subst (Mergeable κ s) (sym k.same) (record { near = back (λ x y z. Neighbours κ x y z m) near; pair = back (λ x y z. Paired κ x y z m s) pair })

  weighs : (p i l : ℕ) (m n : Meaning) (s : Siblings K) → Neighbours κ p i l m → Looked κ p i l m s n → s.weight ≡ weight K (suc l) (pooled κ p i l m)
  weighs p i l m n s near k = k.pair.weight ∙ pooled_weight κ p i l m near

  -- from 7/8 of the limit on it can be shared out
  pub shareable_of : (p i l : ℕ) (m n : Meaning) (s : Siblings K) → Neighbours κ p i l m → Looked κ p i l m s n → limit_of l / 8 * 7 < s.weight → Shareable κ s n
  shareable_of p i l m n s near k h =
      let d = mergeable_of p i l m n s near k in
      let lv : s.left.child.level ≡ l = ap (λ z. z.level) k.pair.left_child in
      let w = weighs p i l m n s near k in
      let w' : s.weight ≡ weight K (suc s.left.child.level) (pooled κ s.left.parent s.left.place s.left.child.level n) = d.pair.weight ∙ pooled_weight κ s.left.parent s.left.place s.left.child.level n d.near in
      record { pair = d; heavy = omega (arith, limit_unit l near.low, ap index_unit lv, h, w') }

  rejoined_at : (p i l : ℕ) (m n : Meaning) (s : Siblings K) → Paired κ p i l m s → (xs : (x y z : ℕ) → List (Item K (suc z))) (t : Meaning) → Rejoined κ s.left.parent s.left.place s.left.child.level (xs s.left.parent s.left.place s.left.child.level) m t → Rejoined κ p i l (xs p i l) m t
  rejoined_at p i l m n s pair xs t h =
      let lv : s.left.child.level ≡ l = ap (λ z. z.level) pair.left_child in
      subst (λ z. Rejoined κ p i z (xs p i z) m t) lv (subst (λ z. Rejoined κ p z s.left.child.level (xs p z s.left.child.level) m t) pair.left_place (subst (λ z. Rejoined κ z s.left.place s.left.child.level (xs z s.left.place s.left.child.level) m t) pair.left_parent h))

  pub fused_shared : (p i l : ℕ) (m n t : Meaning) (s : Siblings K) → Neighbours κ p i l m → Looked κ p i l m s n → limit_of l / 8 * 7 < s.weight → Shared κ s n tt t → Fused κ p i l m MergeSplit t
  fused_shared p i l m n t s near k h done =
      let w = weighs p i l m n s near k in
      let e : ltb (7 * index_unit l) (weight K (suc l) (pooled κ p i l m)) ≡ true = lt-ltb _ _ (omega (arith, limit_unit l near.low, h, w)) in
      let two : (x y z : ℕ) → List (Item K (suc z)) = λ x y z. left K index_unit z (pooled κ x y z m) ∷ right K index_unit z (pooled κ x y z m) ∷ [] in
      let r = rejoined_at p i l m n s k.pair two t (subst (λ z. Shared κ s z tt t) k.same done) in
      record { entry = subst (λ z. Rejoined κ p i l z m t) (sym (cond-true _ _ _ e)) r; marked = sym (cond-true _ _ _ e) }

  pub fused_merged : (p i l : ℕ) (m n t : Meaning) (s : Siblings K) → Neighbours κ p i l m → Looked κ p i l m s n → s.weight ≤ limit_of l / 8 * 7 → Merged κ s n tt t → Fused κ p i l m Merge t
  fused_merged p i l m n t s near k h done =
      let w = weighs p i l m n s near k in
      let e : ltb (7 * index_unit l) (weight K (suc l) (pooled κ p i l m)) ≡ false = le-ltb _ _ (omega (arith, limit_unit l near.low, h, w)) in
      let one : (x y z : ℕ) → List (Item K (suc z)) = λ x y z. pooled κ x y z m ∷ [] in
      let r = rejoined_at p i l m n s k.pair one t (subst (λ z. Merged κ s z tt t) k.same done) in
      record { entry = subst (λ z. Rejoined κ p i l z m t) (sym (cond-false _ _ _ e)) r; marked = sym (cond-false _ _ _ e) }
