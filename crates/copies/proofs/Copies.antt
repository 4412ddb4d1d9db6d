-- Words copied one by one.
use Rattle.std.proofs.Common.{◌≡◌, ℕ, ◌+◌, ◌-◌, ◌<◌, ◌≤◌, ◌⊎◌, sym, ap, ◌∙◌, subst, inl, inr, arith}
use Rattle.std.proofs.lemmas.Bool.Decides.{nat_tests}
use Rattle.store.specs.Meaning.{Meaning, with_at, with_block}
use Rattle.store.specs.Calls.{GetDone}
use Rattle.copies.specs.declared.copy.Spot.{Spot}
use Rattle.copies.specs.Blocks.{Copyable, Pasted, Word, edit, splice, pasted, spot}
use Rattle.copies.proofs.Changes.{splice_none, splice_up, splice_down, block_self, word_over}

-- one word copied is one word changed
paste_one : (α β : ℕ → ℕ) (q p : ℕ) → with_at β p (α q) ≡ pasted α q p 1 β
unfolding pasted
paste_one α β q p =
    let f : ℕ → ℕ = λ x. α ((q + x) - p) in
    let read : q ≡ (q + p) - p = omega arith in
    (λ z. with_at (sym (splice_none β p f) z) p (α (read z))) ∙ splice_up β p p f (omega arith)

-- the word that a copy writes
pub to_word : (from to : Spot) (m n : Meaning) → n ≡ m → Copyable from to 1 m → Word to.block to.at n
to_word from to m n e h = record { granted = ap (λ z. z.granted to.block) e ∙ h.to_granted; within = omega (arith, h.to_wide, ap (λ z. z.shape.width) e) }

-- a word read and written
pub word_copied : (from to : Spot) (m u n : Meaning) (x : ℕ) → GetDone m from.block from.at x u → n ≡ edit u to.block (λ β. with_at β to.at x) → Pasted from to 1 m tt n
unfolding edit
word_copied from to m u n x get put =
    put
    ∙ ap (λ z. with_block z to.block (with_at (z.words to.block) to.at x)) get.same
    ∙ ap (λ z. with_block m to.block (with_at (m.words to.block) to.at z)) get.value
    ∙ ap (with_block m to.block) (paste_one (m.words from.block) (m.words to.block) from.at to.at)

-- m with the places of block t from lo on, below hi, copied from block f, where a is copied to b
abbrev pub run : Meaning → Spot → Spot → ℕ → ℕ → Meaning
run m from to lo hi = with_block m to.block (splice (m.words to.block) lo hi (λ p. m.words from.block ((from.at + p) - to.at)))

module _ (m : Meaning) (from to : Spot) where
  pub run_none : (lo hi : ℕ) → lo ≡ hi → m ≡ run m from to lo hi
  run_none lo hi e = sym (ap (with_block m to.block) (splice_none (m.words to.block) lo _) ∙ block_self m to.block) ∙ ap (run m from to lo) e

  pub run_all : (n : Meaning) (lo hi len : ℕ) → lo ≡ to.at → hi ≡ to.at + len → n ≡ run m from to lo hi → Pasted from to len m tt n
  unfolding edit pasted
  run_all n lo hi len e h inv = inv ∙ ap (λ z. run m from to z hi) e ∙ ap (run m from to to.at) h

  -- a word that the copy has not come to yet
  run_read : (lo hi q : ℕ) → (from.block ≡ to.block → (q < lo) ⊎ (hi ≤ q)) → (run m from to lo hi).words from.block q ≡ m.words from.block q
  unfolding with_at splice
  run_read lo hi q apart = grind (arith, nat_tests)

  -- word i more
  run_put : (lo hi i : ℕ) (u w : Meaning) → (from.block ≡ to.block → (from.at + i < lo) ⊎ (hi ≤ from.at + i)) → u ≡ run m from to lo hi → Pasted (spot from.block (from.at + i)) (spot to.block (to.at + i)) 1 u tt w → w ≡ with_block m to.block (with_at (splice (m.words to.block) lo hi (λ p. m.words from.block ((from.at + p) - to.at))) (to.at + i) (m.words from.block ((from.at + (to.at + i)) - to.at)))
  unfolding edit
  run_put lo hi i u w apart inv put =
      let value : u.words from.block (from.at + i) ≡ m.words from.block ((from.at + (to.at + i)) - to.at) = ap (λ z. z.words from.block (from.at + i)) inv ∙ run_read lo hi (from.at + i) apart ∙ ap (m.words from.block) (omega arith) in
      word_over m u w to.block (to.at + i) (m.words from.block ((from.at + (to.at + i)) - to.at)) _ inv (put ∙ ap (with_block u to.block) (sym (paste_one (u.words from.block) (u.words to.block) (from.at + i) (to.at + i)) ∙ ap (with_at (u.words to.block) (to.at + i)) value))

  -- the copy of word i can be made
  run_next : (len lo hi i : ℕ) (u : Meaning) → Copyable from to len m → i < len → u ≡ run m from to lo hi → Copyable (spot from.block (from.at + i)) (spot to.block (to.at + i)) 1 u
  run_next len lo hi i u h l inv =
      let wide : u.shape.width ≡ m.shape.width = ap (λ z. z.shape.width) inv in
      record {
        from_granted = ap (λ z. z.granted from.block) inv ∙ h.from_granted;
        to_granted = ap (λ z. z.granted to.block) inv ∙ h.to_granted;
        from_wide = omega (arith, h.from_wide);
        to_wide = omega (arith, h.to_wide);
      }

  -- it was made
  run_word : (len lo hi i : ℕ) (f' t' : Spot) (u w : Meaning) → f' ≡ spot from.block (from.at + i) → t' ≡ spot to.block (to.at + i) → (Copyable f' t' 1 u → Pasted f' t' 1 u tt w) → Copyable from to len m → i < len → u ≡ run m from to lo hi → Pasted (spot from.block (from.at + i)) (spot to.block (to.at + i)) 1 u tt w
  run_word len lo hi i f' t' u w d e put h l inv =
      let f = spot from.block (from.at + i) in
      let t = spot to.block (to.at + i) in
      subst (λ z. Copyable f z 1 u → Pasted f z 1 u tt w) e (subst (λ z. Copyable z t' 1 u → Pasted z t' 1 u tt w) d put) (run_next len lo hi i u h l inv)

  pub run_up : (len i : ℕ) (f' t' : Spot) (u w : Meaning) → f' ≡ spot from.block (from.at + i) → t' ≡ spot to.block (to.at + i) → (Copyable f' t' 1 u → Pasted f' t' 1 u tt w) → Copyable from to len m → i < len → to.at ≤ from.at → u ≡ run m from to to.at (to.at + i) → w ≡ run m from to to.at (to.at + (i + 1))
  run_up len i f' t' u w d e put h l up inv =
      run_put to.at (to.at + i) i u w (λ e. inr (omega arith)) inv (run_word len _ _ i f' t' u w d e put h l inv)
      ∙ ap (with_block m to.block) (splice_up (m.words to.block) to.at (to.at + i) _ (omega arith))
      ∙ ap (run m from to to.at) (omega arith)

  pub run_down : (len i j : ℕ) (f' t' : Spot) (u w : Meaning) → j ≡ i + 1 → f' ≡ spot from.block (from.at + i) → t' ≡ spot to.block (to.at + i) → (Copyable f' t' 1 u → Pasted f' t' 1 u tt w) → Copyable from to len m → j ≤ len → from.at ≤ to.at → u ≡ run m from to (to.at + j) (to.at + len) → w ≡ run m from to (to.at + i) (to.at + len)
  run_down len i j f' t' u w k d e put h l down inv =
      run_put (to.at + i + 1) (to.at + len) i u w (λ e. inl (omega arith)) (inv ∙ ap (λ z. run m from to z (to.at + len)) (omega arith)) (run_word len _ _ i f' t' u w d e put h (omega arith) inv)
      ∙ ap (with_block m to.block) (splice_down (m.words to.block) (to.at + i) (to.at + len) _ (omega arith))
