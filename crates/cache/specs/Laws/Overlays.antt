-- The laws of words that lines overlay.
use Rattle.std.specs.Prelude.{◌≡◌, ℕ, zero, suc, Bool, true, false, ◌&&◌, List, [], ◌∷◌, ◌==◌, ◌≢◌, refl}
use Rattle.std.proofs.Common.{sym, ap, ◌∙◌, arith}
use Rattle.std.proofs.lemmas.List.{get_or_past}
use Rattle.std.proofs.lemmas.Bool.{eq-eqb, eqb-true, cond_both, and_from, and_parts, both_ways}
use Rattle.store.specs.Meaning.{Meaning, Sound}
use Rattle.cache.specs.Lines.{View, nth}
use Rattle.cache.specs.Cache.{word_of, over, cached, Apart, Held}

-- a granted number is not 0
pub not_zero : (g : ℕ → Bool) (b : ℕ) → g 0 ≡ false → g b ≡ true → b ≢ 0
not_zero g b z t e = both_ways (g b) (ap g e ∙ z) t

-- no line holds the block b, if it is granted
abbrev pub Misses : List View → (ℕ → Bool) → ℕ → Type 0
Misses vs g b = (i : ℕ) → (nth vs i).block ≡ b → g b ≢ true

misses_more : (v : View) (vs : List View) (g : ℕ → Bool) (b : ℕ) → (g b && b == v.block) ≡ false → Misses vs g b → Misses (v ∷ vs) g b
misses_more v vs g b q h zero e t = both_ways (g b && b == v.block) q (and_from (g b) (b == v.block) t (eq-eqb b v.block (sym e)))
misses_more v vs g b q h (suc i) e t = h i e t

-- the words of a block are those below, or those of a line
pub over_by : (vs : List View) (g : ℕ → Bool) (ω : ℕ → ℕ → ℕ) (b : ℕ) → g 0 ≡ false → (P : (ℕ → ℕ) → Type 0)
    → (Misses vs g b → P (ω b))
    → ((i : ℕ) → (nth vs i).block ≡ b → g b ≡ true → P (word_of (nth vs i).words))
    → P (over vs g ω b)
unfolding over
over_by [] g ω b z P miss hit = miss (λ i e t. not_zero g b z t (sym e))
over_by (v ∷ vs) g ω b z P miss hit =
    cond_both (g b && b == v.block) (word_of v.words) (over vs g ω b) P
    (λ q. let p = and_parts (g b) (b == v.block) q in hit 0 (sym (eqb-true b v.block p.1)) p.0)
    (λ q. over_by vs g ω b z P (λ h. miss (misses_more v vs g b q h)) (λ i. hit (suc i)))

module _ (vs : List View) (g : ℕ → Bool) (ω : ℕ → ℕ → ℕ) (z : g 0 ≡ false) where
  -- a block that no line holds
  pub over_miss : (b : ℕ) → Misses vs g b → over vs g ω b ≡ ω b
  over_miss b h = over_by vs g ω b z (λ x. x ≡ ω b) (λ _. refl) (λ i e t. absurd (h i e t))

  -- a block that is not granted
  pub over_none : (b : ℕ) → g b ≡ false → over vs g ω b ≡ ω b
  over_none b f = over_miss b (λ i e t. both_ways (g b) f t)

  -- a block that a line holds
  pub over_hit : Apart vs → (i b : ℕ) → (nth vs i).block ≡ b → g b ≡ true → over vs g ω b ≡ word_of (nth vs i).words
  over_hit a i b e t =
      over_by vs g ω b z (λ x. x ≡ word_of (nth vs i).words) (λ h. absurd (h i e t))
      (λ j q _. ap (λ k. word_of (nth vs k).words) (a j i (λ y. not_zero g b z t (sym q ∙ y)) (q ∙ sym e)))

-- a cache over a well-formed store is well formed
pub cached_sound : {m : Meaning} {lost : Bool} {vs : List View} → Sound m → Held m lost vs → Sound (cached vs m)
cached_sound {m} {lost} {vs} s h = record {
  some_width = s.some_width;
  width_bound = s.width_bound;
  capacity_bound = s.capacity_bound;
  none_at_zero = s.none_at_zero;
  none_past = s.none_past;
  unused = λ b p f. ap (λ β. β p) (over_none vs m.granted m.words s.none_at_zero b f) ∙ s.unused b p f;
  past_width = λ b p l.
      over_by vs m.granted m.words b s.none_at_zero (λ β. β p ≡ 0) (λ _. s.past_width b p l)
      (λ i e t. let w = (h.fits i (λ q. not_zero m.granted b s.none_at_zero t (sym e ∙ q))).whole.wide in
      get_or_past (nth vs i).words p 0 (omega (arith, w, l)));
}
