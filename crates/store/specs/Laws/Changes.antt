-- The laws of a change at one place, and of a block's words.
use Rattle.std.specs.Prelude.{◌≡◌, ℕ, Bool, true, false, cond, ◌==◌, ◌≢◌, refl}
use Rattle.std.proofs.Math.Path.{sym, ap, fun_ext}
use Rattle.std.proofs.Common.{◌∙◌}
use Rattle.std.proofs.lemmas.Bool.{eq-eqb, ne_eqb, eqb-true, eqb-false, cond-true, cond-false, cond_both}
use Rattle.store.specs.Meaning.{Meaning, with_at, with_blocks, with_block, written}

cond_twice : {X : Type 0} (t : Bool) (u v w : X) → cond t u (cond t v w) ≡ cond t u w
cond_twice true u v w = refl
cond_twice false u v w = refl

module _ {X : Type 0} (f : ℕ → X) (x : ℕ) where
  -- the changed place
  pub with_at_here : (v : X) → with_at f x v x ≡ v
  unfolding with_at
  with_at_here v = cond-true _ _ _ (eq-eqb x x refl)

  -- any other place
  pub with_at_other : (v : X) (y : ℕ) → (y ≢ x) → with_at f x v y ≡ f y
  unfolding with_at
  with_at_other v y ne = cond-false _ _ _ (ne_eqb y x ne)

  -- of two changes at one place the later counts
  pub with_at_twice : (v u : X) → with_at (with_at f x v) x u ≡ with_at f x u
  unfolding with_at
  with_at_twice v u = fun_ext (λ y. cond_twice (y == x) u v (f y))

  -- a change to what is there changes nothing
  pub with_at_same : (v : X) → v ≡ f x → with_at f x v ≡ f
  unfolding with_at
  with_at_same v e = fun_ext (λ y. cond_both (y == x) v (f y) (λ u. u ≡ f y) (λ q. e ∙ ap f (sym (eqb-true y x q))) (λ q. refl))

  -- what has v at x, and is f elsewhere
  pub with_at_from : (g : ℕ → X) (v : X) → g x ≡ v → ((y : ℕ) → (y ≢ x) → g y ≡ f y) → g ≡ with_at f x v
  unfolding with_at
  with_at_from g v e h =
      fun_ext (λ y. sym (cond_both (y == x) v (f y) (λ u. u ≡ g y) (λ q. sym e ∙ ap g (sym (eqb-true y x q))) (λ q. sym (h y (eqb-false y x q)))))

module _ (m : Meaning) (b : ℕ) where
  -- the words that a block was given
  pub block_here : (β : ℕ → ℕ) → (with_block m b β).words b ≡ β
  block_here β = with_at_here m.words b β

  -- the words of any other block
  pub block_other : (β : ℕ → ℕ) (a : ℕ) → (a ≢ b) → (with_block m b β).words a ≡ m.words a
  block_other β a ne = with_at_other m.words b β a ne

  -- of two changes of a block the later counts
  pub block_twice : (β γ : ℕ → ℕ) → with_block (with_block m b β) b γ ≡ with_block m b γ
  block_twice β γ = ap (with_blocks m m.granted) (with_at_twice m.words b β γ)

  -- a block given the words that it has
  pub block_same : with_block m b (m.words b) ≡ m
  block_same = ap (with_blocks m m.granted) (with_at_same m.words b (m.words b) refl)

  -- a word written after a block was changed
  pub block_written : (β : ℕ → ℕ) (place v : ℕ) → written (with_block m b β) b place v ≡ with_block m b (with_at β place v)
  block_written β place v =
      block_twice β (with_at ((with_block m b β).words b) place v) ∙ ap (λ γ. with_block m b (with_at γ place v)) (block_here β)
