-- A function changed at one number, and a store's meaning changed at one block.
use Rattle.std.proofs.Common.{◌≡◌, ℕ, ◌+◌, ◌<◌, ◌≤◌, ap, ◌∙◌, arith}
use mathlib.Core.Path.{fun_ext}
use Rattle.std.proofs.lemmas.Bool.Decides.{nat_tests}
use Rattle.store.specs.Meaning.{Meaning, with_at, with_block, with_blocks}
use Rattle.copies.specs.Blocks.{splice}

pub with_at_here : {X : Type 0} (f : ℕ → X) (x : ℕ) (v : X) → with_at f x v x ≡ v
unfolding with_at
with_at_here f x v = grind (arith, nat_tests)

pub with_at_other : {X : Type 0} (f : ℕ → X) (x : ℕ) (v : X) (y : ℕ) → (y ≡ x → ⊥) → with_at f x v y ≡ f y
unfolding with_at
with_at_other f x v y ne = grind (arith, nat_tests)

pub with_at_twice : {X : Type 0} (f : ℕ → X) (x : ℕ) (v w : X) → with_at (with_at f x v) x w ≡ with_at f x w
unfolding with_at
with_at_twice f x v w = fun_ext (λ y. grind (arith, nat_tests))

pub with_at_self : {X : Type 0} (f : ℕ → X) (x : ℕ) → with_at f x (f x) ≡ f
unfolding with_at
with_at_self f x = fun_ext (λ y. grind (arith, nat_tests))

pub splice_none : (β : ℕ → ℕ) (a : ℕ) (f : ℕ → ℕ) → splice β a a f ≡ β
unfolding splice
splice_none β a f = fun_ext (λ p. grind (arith, nat_tests))

pub splice_up : (β : ℕ → ℕ) (lo hi : ℕ) (f : ℕ → ℕ) → lo ≤ hi → with_at (splice β lo hi f) hi (f hi) ≡ splice β lo (hi + 1) f
unfolding splice with_at
splice_up β lo hi f l = fun_ext (λ p. grind (arith, nat_tests))

pub splice_down : (β : ℕ → ℕ) (lo hi : ℕ) (f : ℕ → ℕ) → lo < hi → with_at (splice β (lo + 1) hi f) lo (f lo) ≡ splice β lo hi f
unfolding splice with_at
splice_down β lo hi f l = fun_ext (λ p. grind (arith, nat_tests))

-- a block changed again
pub block_over : (m u n : Meaning) (b : ℕ) (β γ : ℕ → ℕ) → u ≡ with_block m b β → n ≡ with_block u b γ → n ≡ with_block m b γ
block_over m u n b β γ e h = h ∙ ap (λ z. with_block z b γ) e ∙ ap (with_blocks m m.granted) (with_at_twice m.words b β γ)

pub block_self : (m : Meaning) (b : ℕ) → with_block m b (m.words b) ≡ m
block_self m b = ap (with_blocks m m.granted) (with_at_self m.words b)

-- one word of a block changed again
pub word_over : (m u n : Meaning) (b p x : ℕ) (β : ℕ → ℕ) → u ≡ with_block m b β → n ≡ with_block u b (with_at (u.words b) p x) → n ≡ with_block m b (with_at β p x)
word_over m u n b p x β e h =
    let at_b : u.words b ≡ β = ap (λ z. z.words b) e ∙ with_at_here m.words b β in
    block_over m u n b β (with_at β p x) e (h ∙ ap (λ z. with_block u b (with_at z p x)) at_b)
