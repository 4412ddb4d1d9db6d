-- A check of a map's entries, one after another.
use Rattle.std.proofs.Common.{◌≡◌, ℕ, ◌<◌, ◌≤◌, Bool, true, false, ◌&&◌, eqb, ltb, List, length, get_or, take, sym, ◌∙◌, subst, ⊎_elim, arith, length-take, get_or-take}
use Rattle.std.proofs.lemmas.Bool.{and_cases, ltb-false, eqb-false}
use Rattle.paged.specs.Frames.{Apt, Awry, Judged}
use Rattle.paged.specs.Frames.Awry.{outside, twice}

-- the first i entries are apt, and just the frames that they name are noted
pub record Seen (map : List ℕ) (frames i : ℕ) (seen : List ℕ) : Type 0 where
  pub apt : Apt map i frames
  pub noted : (j : ℕ) → j < i → get_or seen (get_or map j 0) 0 ≡ 0 → ⊥
  pub named : (k : ℕ) → (get_or seen k 0 ≡ 0 → ⊥) → (j : ℕ) × (j < i) × (get_or map j 0 ≡ k)

-- the next entry, which names the frame x
module _ {map : List ℕ} {frames i : ℕ} {seen : List ℕ} (s : Seen map frames i seen) (long : length seen ≡ frames) (x : ℕ) (here : x ≡ get_or map i 0) where
  -- it is not there, or was noted before
  pub seen_awry : (n : ℕ) → i < n → (ltb x (length seen) && eqb (get_or seen x 0) 0) ≡ false → Awry map n frames
  seen_awry n l e =
      ⊎_elim
      (λ t. outside i l (omega (arith, ltb-false x (length seen) t)))
      (λ t. let j = s.named x (eqb-false (get_or seen x 0) 0 t) in twice j.0 i j.1 l (j.2 ∙ here))
      (and_cases (ltb x (length seen)) (eqb (get_or seen x 0) 0) e)

-- the front of a map, judged for itself
pub judged_front : (map front : List ℕ) (n frames k : ℕ) (t : Bool) → n ≤ length map → front ≡ take n map → k ≡ frames → Judged front (length front) k t → Judged map n frames t
judged_front map front n frames k t h e q j = go t (subst (λ l. Judged (take n map) l frames t) same (rw (sym e, sym q) j))
  where
    same : length (take n map) ≡ n
    same = length-take n map ∙ omega (arith, h)

    go : (t : Bool) → Judged (take n map) n frames t → Judged map n frames t
    go true f = record {
      inside = λ i l. omega (arith, f.inside i l, get_or-take n map i 0 l);
      once = λ i j l k e. f.once i j l k (get_or-take n map i 0 l ∙ e ∙ sym (get_or-take n map j 0 k));
    }
    go false (outside i l a) = outside i l (omega (arith, a, get_or-take n map i 0 l))
    go false (twice i j l k e) = twice i j l k (sym (get_or-take n map i 0 (omega arith)) ∙ e ∙ get_or-take n map j 0 k)
