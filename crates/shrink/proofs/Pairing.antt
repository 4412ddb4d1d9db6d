-- Two neighbours, read from their parent.
use Rattle.std.proofs.Common.{◌≡◌, ℕ, suc, ◌+◌, ◌-◌, ◌^◌, ◌≤◌, min, sym, ap, ◌∙◌, subst, arith}
use Rattle.store.specs.Meaning.{Meaning}
use Rattle.copies.specs.Blocks.{Word}
use Rattle.nodes.specs.Places.{weight_at, block_number}
use Rattle.nodes.specs.Nodes.{Room, Weighs, Keyed, LeadsTo, entry_at}
use Rattle.nodes.proofs.Rooms.{room_place}
use Rattle.tree.specs.Tree.{weight}
use Rattle.tree.proofs.Lists.{total_append}
use Rattle.held.specs.Held.{Kind, item}
use Rattle.held.proofs.Child.{block_number_is}
use Rattle.held.proofs.Halving.{limit_small}
use Rattle.shrink.specs.declared.merge.Siblings.{Siblings}
use Rattle.shrink.specs.Merges.{Neighbours, Looked, pooled}

module _ {K : Type 0} (κ : Kind K) where
  -- the word of an entry's weight is there
  pub near_word : (p i j l : ℕ) (m n : Meaning) → Neighbours κ p i l m → n ≡ m → j ≤ i + 1 → Word p (weight_at j) n
  near_word p i j l m n near e h = rw e (room_place κ.form p (weight_at j) m (omega (arith, h, near.within, near.parent.few)) near.parent.room)

  pub near_room : (p i l : ℕ) (m n : Meaning) → Neighbours κ p i l m → n ≡ m → Room κ.form p n
  near_room p i l m n near e = rw e near.parent.room

  -- what both entries add is what both nodes weigh
  pub pooled_weight : (p i l : ℕ) (m : Meaning) → Neighbours κ p i l m → (entry_at κ.form (m.words p) i).weight + (entry_at κ.form (m.words p) (i + 1)).weight ≡ weight K (suc l) (pooled κ p i l m)
  pooled_weight p i l m near =
      omega (arith, near.left.0, near.right.0, total_append (weight K l) (item κ m.words (suc l) (entry_at κ.form (m.words p) i)) (item κ m.words (suc l) (entry_at κ.form (m.words p) (i + 1))))

  -- at a place known by its value
  pub near_at : (p i l : ℕ) (m : Meaning) {q : ℕ} → q ≡ i → Neighbours κ p i l m → Neighbours κ p q l m
  near_at p i l m e near = subst (λ z. Neighbours κ p z l m) (sym e) near

  pub looked_at : (p i l : ℕ) (m n : Meaning) (s : Siblings K) {q : ℕ} → q ≡ i → Looked κ p q l m s n → Looked κ p i l m s n
  looked_at p i l m n s e k = subst (λ z. Looked κ p z l m s n) e k

  pub looked : (p i l : ℕ) (m a b c d x n : Meaning) (s : Siblings K) (k : K) (f g v w : ℕ) → Neighbours κ p i l m → a ≡ m → Keyed κ.form κ.unpacked p i a k b → LeadsTo κ.form p i b f c → LeadsTo κ.form p (i + 1) c g d → Weighs p i d v x → Weighs p (i + 1) x w n →
      s.left.parent ≡ p → s.left.place ≡ i → s.left.child ≡ record { block = f; level = l } → s.right.parent ≡ p → s.right.place ≡ i + 1 → s.right.child ≡ record { block = g; level = l } → s.low ≡ k → s.weight ≡ min (v + w) (2 ^ 64 - 1) → Looked κ p i l m s n
  looked p i l m a b c d x n s k f g v w near ea key one two light more lp ll lc rp rl rc low weighs =
      let eb = key.same ∙ ea in
      let ec = one.same ∙ eb in
      let ed = two.same ∙ ec in
      let ex = light.same ∙ ed in
      let v_is = light.value κ.form ∙ ap (λ z. (entry_at κ.form (z.words p) i).weight) ed in
      let w_is = more.value κ.form ∙ ap (λ z. (entry_at κ.form (z.words p) (i + 1)).weight) ex in
      record {
        pair = record {
          left_parent = lp;
          left_place = ll;
          left_child = lc ∙ ap (λ z. record { block = z; level = l }) (one.value ∙ ap (λ z. block_number (entry_at κ.form (z.words p) i).child) eb ∙ block_number_is _ near.left.2);
          right_parent = rp;
          right_place = rl;
          right_child = rc ∙ ap (λ z. record { block = z; level = l }) (two.value ∙ ap (λ z. block_number (entry_at κ.form (z.words p) (i + 1)).child) ec ∙ block_number_is _ near.right.2);
          low = low ∙ key.value ∙ ap (λ z. κ.unpacked (entry_at κ.form (z.words p) i).key) ea;
          weight = omega (arith, weighs, v_is, w_is, pooled_weight p i l m near, near.light, limit_small l near.low);
        };
        same = more.same ∙ ex;
      }
