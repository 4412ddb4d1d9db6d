-- Lines that change, over words that change.
use Rattle.std.proofs.Common.{◌≡◌, ℕ, zero, suc, ◌<◌, Bool, true, false, cond, ◌&&◌, eqb, ◌⊎◌, List, [], ◌∷◌, length, set, sym, refl, ap, ◌∙◌, subst, ap₂, inl, inr, ⊎_elim, arith}
use mathlib.Core.Path.{fun_ext}
use Rattle.std.proofs.lemmas.List.{get_or-set_same, get_or-set_other}
use Rattle.std.proofs.lemmas.Bool.{ne_eqb, cond-false, and_left, and_right, cases_eq, cases_Bool}
use Rattle.store.specs.Meaning.{with_at}
use Rattle.store.specs.Laws.Changes.{with_at_here, with_at_other, with_at_from}
use Rattle.cache.specs.Lines.{View, nth, blank}
use Rattle.cache.specs.Cache.{word_of, over, Apart}
use Rattle.cache.specs.Laws.Overlays.{not_zero, over_miss, over_hit}

-- no line holds block b
abbrev pub Absent : List View → ℕ → Type 0
Absent vs b = (i : ℕ) → (nth vs i).block ≡ b → ⊥

-- a line that holds a block is in the table
pub within : (vs : List View) (i : ℕ) → ((nth vs i).block ≡ 0 → ⊥) → i < length vs
within [] i h = absurd (h refl)
within (v ∷ vs) zero h = omega arith
within (v ∷ vs) (suc i) h = let q = within vs i h in omega arith

-- line i set to w
module _ (vs : List View) (i : ℕ) (w : View) (h : i < length vs) where
  pub nth_same : nth (set vs i w) i ≡ w
  nth_same = get_or-set_same vs i w blank h

  pub at_set : (j : ℕ) → ((j ≡ i) × (nth (set vs i w) j ≡ w)) ⊎ ((j ≡ i → ⊥) × (nth (set vs i w) j ≡ nth vs j))
  at_set j = ⊎_elim (λ q. inl (q, ap (nth (set vs i w)) q ∙ nth_same)) (λ q. inr (q, get_or-set_other vs i j w blank q)) (cases_eq j i)

  pub absent_set : (c : ℕ) → (w.block ≡ c → ⊥) → Absent vs c → Absent (set vs i w) c
  absent_set c ne a k e = ⊎_elim (λ p. ne (ap (λ v. v.block) (sym p.1) ∙ e)) (λ p. a k (ap (λ v. v.block) (sym p.1) ∙ e)) (at_set k)

  pub apart_set : Apart vs → ((j : ℕ) → (j ≡ i → ⊥) → (w.block ≡ 0 → ⊥) → (nth vs j).block ≡ w.block → ⊥) → Apart (set vs i w)
  apart_set a far j k ne e =
      ⊎_elim
      (λ p. ⊎_elim (λ q. p.0 ∙ sym q.0)
      (λ q. let pe = ap (λ v. v.block) p.1 in let qe = ap (λ v. v.block) q.1 in
      absurd (far k q.0 (λ z. ne (pe ∙ z)) (sym qe ∙ sym e ∙ pe)))
      (at_set k))
      (λ p. ⊎_elim
      (λ q. let pe = ap (λ v. v.block) p.1 in let qe = ap (λ v. v.block) q.1 in
      absurd (far j p.0 (λ z. ne (e ∙ qe ∙ z)) (sym pe ∙ e ∙ qe)))
      (λ q. let pe = ap (λ v. v.block) p.1 in let qe = ap (λ v. v.block) q.1 in
      a j k (λ z. ne (pe ∙ z)) (sym pe ∙ e ∙ qe))
      (at_set k))
      (at_set j)

  -- the line holds nothing any more
  pub apart_blank : w.block ≡ 0 → Apart vs → Apart (set vs i w)
  apart_blank z a = apart_set a (λ j q n e. n z)

  -- what still holds a block is as it was
  pub sub_blank : w.block ≡ 0 → (j : ℕ) → ((nth (set vs i w) j).block ≡ 0 → ⊥) → (j ≡ i → ⊥) × (nth (set vs i w) j ≡ nth vs j)
  sub_blank z j ne = ⊎_elim (λ p. absurd (ne (ap (λ v. v.block) p.1 ∙ z))) (λ p. p) (at_set j)

  -- the block that the line held is in no line any more
  pub absent_blank : w.block ≡ 0 → Apart vs → ((nth vs i).block ≡ 0 → ⊥) → Absent (set vs i w) (nth vs i).block
  absent_blank z a ne k e =
      let p = sub_blank z k (λ q. ne (sym e ∙ q)) in
      p.0 (sym (a i k ne (sym e ∙ ap (λ v. v.block) p.1)))

no_match : (g : ℕ → Bool) (c b : ℕ) → (g c ≡ true → b ≡ c → ⊥) → (g c && eqb c b) ≡ false
no_match g c b h =
    ⊎_elim (λ t. and_right (g c) (eqb c b) (ne_eqb c b (λ e. h t (sym e)))) (λ f. and_left (g c) (eqb c b) f) (cases_Bool (g c))

-- a line that holds another block before and after
pub over_set_other : (vs : List View) (i : ℕ) (w : View) (g : ℕ → Bool) (ω : ℕ → ℕ → ℕ) (c : ℕ) → (g c ≡ true → (nth vs i).block ≡ c → ⊥) → (g c ≡ true → w.block ≡ c → ⊥) → over (set vs i w) g ω c ≡ over vs g ω c
unfolding over
over_set_other [] i w g ω c old new = refl
over_set_other (v ∷ vs) zero w g ω c old new = cond-false _ _ _ (no_match g c w.block new) ∙ sym (cond-false _ _ _ (no_match g c v.block old))
over_set_other (v ∷ vs) (suc i) w g ω c old new = ap (cond (g c && eqb c v.block) (word_of v.words)) (over_set_other vs i w g ω c old new)

-- other grants and words that agree at c
pub over_agree : (vs : List View) (g g' : ℕ → Bool) (ω ω' : ℕ → ℕ → ℕ) (c : ℕ) → g' c ≡ g c → ω' c ≡ ω c → over vs g' ω' c ≡ over vs g ω c
unfolding over
over_agree [] g g' ω ω' c eg eω = eω
over_agree (v ∷ vs) g g' ω ω' c eg eω = ap₂ (λ t x. cond (t && eqb c v.block) (word_of v.words) x) eg (over_agree vs g g' ω ω' c eg eω)

module _ (vs : List View) (g : ℕ → Bool) (ω : ℕ → ℕ → ℕ) (z : g 0 ≡ false) where
  -- the words of a block that no line holds change, and its grant
  pub over_put : (g' : ℕ → Bool) (b : ℕ) (β : ℕ → ℕ) → g' 0 ≡ false → ((c : ℕ) → (c ≡ b → ⊥) → g' c ≡ g c) → Absent vs b → over vs g' (with_at ω b β) ≡ with_at (over vs g ω) b β
  over_put g' b β z' same a =
      with_at_from (over vs g ω) b (over vs g' (with_at ω b β)) β
      (over_miss vs g' (with_at ω b β) z' b (λ i e t. a i e) ∙ with_at_here ω b β)
      (λ c ne. over_agree vs g g' ω (with_at ω b β) c (same c ne) (with_at_other ω b β c ne))

  module _ (i : ℕ) (w : View) (l : i < length vs) (a : Apart vs) where
    -- the line held nothing, and holds nothing
    pub over_idle : (nth vs i).block ≡ 0 → w.block ≡ 0 → over (set vs i w) g ω ≡ over vs g ω
    over_idle e d = fun_ext (λ c. over_set_other vs i w g ω c (λ t q. not_zero g c z t (sym q ∙ e)) (λ t q. not_zero g c z t (sym q ∙ d)))

    -- the line held block b, which changes, with its grant, and holds nothing any more
    pub over_out : (g' : ℕ → Bool) (β : ℕ → ℕ) → g' 0 ≡ false → ((c : ℕ) → (c ≡ (nth vs i).block → ⊥) → g' c ≡ g c) → ((nth vs i).block ≡ 0 → ⊥) → w.block ≡ 0
        → over (set vs i w) g' (with_at ω (nth vs i).block β) ≡ with_at (over vs g ω) (nth vs i).block β
    over_out g' β z' same ne d =
        let b = (nth vs i).block in
        let ω' = with_at ω b β in
        with_at_from (over vs g ω) b (over (set vs i w) g' ω') β
        (over_miss (set vs i w) g' ω' z' b (λ k e t. absent_blank vs i w l d a ne k e) ∙ with_at_here ω b β)
        (λ c far. over_agree (set vs i w) g g' ω ω' c (same c far) (with_at_other ω b β c far)
        ∙ over_set_other vs i w g ω c (λ t q. far (sym q)) (λ t q. not_zero g c z t (sym q ∙ d)))

    -- the line held nothing, and now has the words of block b
    pub over_in : (b : ℕ) → (nth vs i).block ≡ 0 → w.block ≡ b → g b ≡ true → Absent vs b → ω b ≡ word_of w.words → Apart (set vs i w) → over (set vs i w) g ω ≡ over vs g ω
    over_in b e d t h q a' =
        let here = nth_same vs i w l in
        let at_b : over (set vs i w) g ω b ≡ over vs g ω b =
        over_hit (set vs i w) g ω z a' i b (ap (λ v. v.block) here ∙ d) t
        ∙ ap (λ v. word_of v.words) here
        ∙ sym q
        ∙ sym (over_miss vs g ω z b (λ k r s. h k r)) in
        fun_ext (λ c. ⊎_elim (λ r. subst (λ x. over (set vs i w) g ω x ≡ over vs g ω x) (sym r) at_b)
        (λ far. over_set_other vs i w g ω c (λ s r. not_zero g c z s (sym r ∙ e)) (λ s r. far (sym r ∙ d)))
        (cases_eq c b))

    -- the line holds block b, and its words change
    pub over_write : (b : ℕ) → (nth vs i).block ≡ b → w.block ≡ b → g b ≡ true → Apart (set vs i w) → over (set vs i w) g ω ≡ with_at (over vs g ω) b (word_of w.words)
    over_write b e d t a' =
        let here = nth_same vs i w l in
        with_at_from (over vs g ω) b (over (set vs i w) g ω) (word_of w.words)
        (over_hit (set vs i w) g ω z a' i b (ap (λ v. v.block) here ∙ d) t ∙ ap (λ v. word_of v.words) here)
        (λ c far. over_set_other vs i w g ω c (λ s r. far (sym r ∙ e)) (λ s r. far (sym r ∙ d)))
