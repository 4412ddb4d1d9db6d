-- Entries copied: three runs of words.
use Rattle.std.proofs.Common.{◌≡◌, ℕ, ◌+◌, ◌*◌, ◌≤◌, sym, ◌∙◌, subst, inr, arith}
use Rattle.store.specs.Meaning.{Meaning}
use Rattle.copies.specs.declared.copy.Spot.{Spot}
use Rattle.copies.specs.Blocks.{Copyable, Pasted, edit, pasted, spot}
use Rattle.copies.proofs.Edits.{paste_then, pasted_out}
use Rattle.nodes.specs.Places.{Form, weight_at, key_at, child_at, breadth}
use Rattle.nodes.specs.Nodes.{Rooms, carried}
use Rattle.nodes.proofs.Rooms.{keys_within, rooms_copy}

module _ (φ : Form) (f t i j n : ℕ) (k : i + n ≤ φ.places) (l : j + n ≤ φ.places) where
  -- the runs have room where both nodes do
  fit : {x y : Spot} (a b len : ℕ) (m : Meaning) → x ≡ spot f a → y ≡ spot t b → a + len ≤ breadth φ → b + len ≤ breadth φ → Rooms φ f t m → Copyable x y len m
  fit {x} {y} a b len m d e p q h = subst (λ z. Copyable z y len m) (sym d) (subst (λ z. Copyable (spot f a) z len m) (sym e) (rooms_copy φ f t a b len m p q h))

  pub weights_fit : {x y : Spot} (m : Meaning) → x ≡ spot f (weight_at i) → y ≡ spot t (weight_at j) → Rooms φ f t m → Copyable x y n m
  weights_fit m d e h = fit _ _ n m d e (omega arith) (omega arith) h

  pub keys_fit : {x y : Spot} (len : ℕ) (m : Meaning) → x ≡ spot f (key_at φ i) → y ≡ spot t (key_at φ j) → len ≡ φ.words * n → Rooms φ f t m → Copyable x y len m
  keys_fit len m d e w h =
      let a = keys_within φ i n k in
      let b = keys_within φ j n l in
      fit _ _ len m d e (omega arith) (omega arith) h

  pub children_fit : {x y : Spot} (m : Meaning) → x ≡ spot f (child_at φ i) → y ≡ spot t (child_at φ j) → Rooms φ f t m → Copyable x y n m
  children_fit m d e h = fit _ _ n m d e (omega arith) (omega arith) h

  -- a run copied, by its places
  pub run_copied : {x y : Spot} (a b len : ℕ) (m u : Meaning) → x ≡ spot f a → y ≡ spot t b → Pasted x y len m tt u → u ≡ edit m t (pasted (m.words f) a b len)
  run_copied {x} {y} a b len m u d e h = subst (λ z. Pasted (spot f a) z len m tt u) e (subst (λ z. Pasted z y len m tt u) d h)

  -- the first two runs
  pub carry_two : (m u v : Meaning) (len : ℕ) → len ≡ φ.words * n → u ≡ edit m t (pasted (m.words f) (weight_at i) (weight_at j) n) → v ≡ edit u t (pasted (u.words f) (key_at φ i) (key_at φ j) len) → v ≡ edit m t (λ β. pasted (m.words f) (key_at φ i) (key_at φ j) len (pasted (m.words f) (weight_at i) (weight_at j) n β))
  carry_two m u v len w one two =
      paste_then m u v f t (key_at φ i) (key_at φ j) len (pasted (m.words f) (weight_at i) (weight_at j) n) one (λ q x y. pasted_out _ _ _ _ _ _ (inr (omega arith))) two

  -- all three
  pub carry_all : (m v o : Meaning) (len : ℕ) → len ≡ φ.words * n → v ≡ edit m t (λ β. pasted (m.words f) (key_at φ i) (key_at φ j) len (pasted (m.words f) (weight_at i) (weight_at j) n β)) → o ≡ edit v t (pasted (v.words f) (child_at φ i) (child_at φ j) n) → o ≡ edit m t (carried φ (m.words f) i j n)
  unfolding carried
  carry_all m v o len w two three =
      let α = m.words f in
      let y = keys_within φ j n l in
      paste_then m v o f t (child_at φ i) (child_at φ j) n (λ β. pasted α (key_at φ i) (key_at φ j) len (pasted α (weight_at i) (weight_at j) n β)) two (λ q x z. pasted_out _ _ _ _ _ _ (inr (omega arith)) ∙ pasted_out _ _ _ _ _ _ (inr (omega arith))) three
      ∙ (λ z. edit m t (λ β. pasted α (child_at φ i) (child_at φ j) n (pasted α (key_at φ i) (key_at φ j) (w z) (pasted α (weight_at i) (weight_at j) n β))))
