-- What lines keep as they and the store below change.
use Rattle.std.proofs.Common.{◌≡◌, ℕ, ◌<◌, Bool, true, false, not, eqb, List, length, set, sym, refl, ap, ◌∙◌, subst, ⊎_elim}
use Rattle.std.proofs.lemmas.Bool.{eq-eqb, ne_eqb, cond-true, cond-false, and_from, and_left, and_right, cases_Bool, both_ways}
use Rattle.store.specs.Meaning.{Meaning, Fell, with_at, with_blocks, with_block}
use Rattle.store.specs.Laws.Changes.{with_at_other, block_same}
use Rattle.cache.specs.Lines.{View, nth, Clear}
use Rattle.cache.specs.Cache.{word_of, Fits, Held}
use Rattle.cache.specs.Steps.{emptied}
use Rattle.cache.proofs.Overs.{Absent, at_set, sub_blank, apart_set, apart_blank}

-- a line whose block did not change
fits_other : {m : Meaning} {lost : Bool} {v : View} (g : ℕ → Bool) (b : ℕ) (β : ℕ → ℕ) → ((c : ℕ) → (c ≡ b → ⊥) → g c ≡ m.granted c) → (v.block ≡ b → ⊥) → Fits m lost v → Fits (with_blocks m g (with_at m.words b β)) lost v
fits_other {m} {v = v} g b β same ne f = record {
  whole = record { granted = same v.block ne ∙ f.whole.granted; wide = f.whole.wide };
  up = f.up;
  same = λ l c. with_at_other m.words b β v.block ne ∙ f.same l c;
}

-- a block that no line holds changes
pub held_put : {m : Meaning} {lost : Bool} {vs : List View} (g : ℕ → Bool) (b : ℕ) (β : ℕ → ℕ) → ((c : ℕ) → (c ≡ b → ⊥) → g c ≡ m.granted c) → Absent vs b → Held m lost vs → Held (with_blocks m g (with_at m.words b β)) lost vs
held_put g b β same a h = record { fits = λ i ne. fits_other g b β same (a i) (h.fits i ne); apart = h.apart; fell = h.fell }

-- the block of line i changes, and the line holds nothing any more
pub held_out : {m : Meaning} {lost : Bool} {vs : List View} (i : ℕ) (w : View) (g : ℕ → Bool) (β : ℕ → ℕ) → i < length vs → w.block ≡ 0 → ((c : ℕ) → (c ≡ (nth vs i).block → ⊥) → g c ≡ m.granted c) → Held m lost vs → Held (with_blocks m g (with_at m.words (nth vs i).block β)) lost (set vs i w)
held_out {m} {lost} {vs} i w g β l z same h = record {
  fits = λ j ne.
      let b = (nth vs i).block in
      let p = sub_blank vs i w l z j ne in
      let nj : (nth vs j).block ≡ 0 → ⊥ = λ q. ne (ap (λ v. v.block) p.1 ∙ q) in
      subst (Fits (with_blocks m g (with_at m.words b β)) lost) (sym p.1) (fits_other g b β same (λ e. p.0 (h.apart j i nj e)) (h.fits j nj));
  apart = apart_blank vs i w l z h.apart;
  fell = h.fell;
}

-- line i is set to w
pub held_set : {m : Meaning} {lost : Bool} {vs : List View} (i : ℕ) (w : View) → i < length vs → ((w.block ≡ 0 → ⊥) → Fits m lost w) → ((j : ℕ) → (j ≡ i → ⊥) → (w.block ≡ 0 → ⊥) → (nth vs j).block ≡ w.block → ⊥) → Held m lost vs → Held m lost (set vs i w)
held_set {m} {lost} {vs} i w l f far h = record {
  fits = λ j ne.
      ⊎_elim (λ p. subst (Fits m lost) (sym p.1) (f (λ q. ne (ap (λ v. v.block) p.1 ∙ q))))
      (λ p. subst (Fits m lost) (sym p.1) (h.fits j (λ q. ne (ap (λ v. v.block) p.1 ∙ q))))
      (at_set vs i w l j);
  apart = apart_set vs i w l h.apart far;
  fell = h.fell;
}

-- the store fell
pub held_fell : {m n : Meaning} {lost : Bool} {vs : List View} → Fell m n → Held m lost vs → Held n true vs
held_fell {vs = vs} f h = record {
  fits = λ i ne. let g = h.fits i ne in record {
    whole = record { granted = ap (λ x. x (nth vs i).block) f.same_grants ∙ g.whole.granted; wide = g.whole.wide ∙ ap (λ s. s.width) (sym f.same_shape) };
    up = λ e. absurd (both_ways true e refl);
    same = λ e c. absurd (both_ways true e refl);
  };
  apart = h.apart;
  fell = λ e. f.is_down;
}

pub not_lost : {m : Meaning} {lost : Bool} {vs : List View} → Held m lost vs → m.down ≡ false → lost ≡ false
not_lost {m} {lost} h up = ⊎_elim (λ q. absurd (both_ways m.down up (h.fell q))) (λ q. q) (cases_Bool lost)

-- a table with no block in it
pub clear_held : {m : Meaning} {lost : Bool} {vs : List View} → Clear vs → lost ≡ false → Held m lost vs
clear_held {lost = lost} c e = record {
  fits = λ i ne. absurd (ne (c i));
  apart = λ i j ne q. absurd (ne (c i));
  fell = λ q. absurd (both_ways lost e q);
}

-- the store after a line went down, where the line held a block
pub emptied_full : (m : Meaning) (v : View) → (v.block ≡ 0 → ⊥) → (v.altered ≡ false → m.words v.block ≡ word_of v.words) → emptied v m ≡ with_block m v.block (word_of v.words)
emptied_full m v ne s =
    ⊎_elim (λ q. cond-true _ _ _ (and_from (not (eqb v.block 0)) v.altered (ap not (ne_eqb v.block 0 ne)) q))
    (λ q. cond-false _ _ _ (and_right (not (eqb v.block 0)) v.altered q) ∙ sym (block_same m v.block) ∙ ap (with_block m v.block) (s q))
    (cases_Bool v.altered)

-- where it held none
pub emptied_none : (m : Meaning) (v : View) → v.block ≡ 0 → emptied v m ≡ m
emptied_none m v z = cond-false _ _ _ (and_left (not (eqb v.block 0)) v.altered (ap not (eq-eqb v.block 0 z)))
