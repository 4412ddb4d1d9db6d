-- No tree that stands in blocks of its own has more keys than the blocks of a store can hold.
use Rattle.std.proofs.Common.{◌≡◌, ℕ, zero, suc, ◌+◌, ◌*◌, ◌^◌, ◌<◌, ◌≤◌, eqb, eq-eqb, inl, inr, List, [], ◌∷◌, map, length, arith}
use Rattle.std.proofs.lemmas.Bool.{cases_lt, cond-true, both_ways}
use Rattle.std.proofs.lemmas.List.{length-append}
use Rattle.std.specs.List.{AllByRecursion}
use Rattle.store.specs.Meaning.{Meaning, Sound, limit}
use Rattle.nodes.specs.Nodes.{Entry, entries}
use Rattle.tree.specs.Lists.{total, joined}
use Rattle.tree.specs.Tree.{index_unit, weight, Fit}
use Rattle.held.specs.Held.{Kind, item, node, foot, feet, times, Owned, Sits}
use Rattle.held.proofs.Feet.{times_head}
use Rattle.held.proofs.Steps.{bit_true, bit_most}

-- how often the numbers below n occur
abbrev spread : ℕ → List ℕ → ℕ
spread zero ds = 0
spread (suc n) ds = times n ds + spread n ds

spread_mono : (n d : ℕ) (ds : List ℕ) → spread n ds ≤ spread n (d ∷ ds)
spread_mono zero d ds = omega arith
spread_mono (suc n) d ds = omega (arith, spread_mono n d ds)

spread_more : (n d : ℕ) (ds : List ℕ) → d < n → suc (spread n ds) ≤ spread n (d ∷ ds)
spread_more zero d ds h = absurd (omega arith)
spread_more (suc n) d ds h = elim (cases_lt d n) [
  | inl below ↦ omega (arith, spread_more n d ds below)
  | inr above ↦
      let same : n ≡ d = omega (arith, above, h) in
      omega (arith, cond-true {A = ℕ} (eqb n d) 1 0 (eq-eqb n d same), spread_mono n d ds)
]

spread_length : (n : ℕ) (ds : List ℕ) → AllByRecursion (λ d. d < n) ds → length ds ≤ spread n ds
spread_length n [] a = omega arith
spread_length n (d ∷ ds) a = omega (arith, spread_more n d ds a.0, spread_length n ds a.1)

spread_most : (n : ℕ) (ds : List ℕ) → ((c : ℕ) → times c ds ≤ 1) → spread n ds ≤ n
spread_most zero ds h = omega arith
spread_most (suc n) ds h = omega (arith, h n, spread_most n ds h)

-- what holds of every number that occurs
all_times : (P : ℕ → Type 0) (ds es : List ℕ) → ((c : ℕ) → times c ds ≤ times c es) → ((c : ℕ) → 1 ≤ times c es → P c) → AllByRecursion P ds
all_times P [] es h f = tt
all_times P (d ∷ ds) es h f = (f d (omega (arith, times_head d ds, h d)), all_times P ds es (λ c. omega (arith, h c)) f)

-- numbers that are granted, each once, are no more than there are
few_owned : (m : Meaning) (ds : List ℕ) → Sound m → Owned m ds → length ds ≤ suc limit
few_owned m ds sound owned =
    let low : (c : ℕ) → 1 ≤ times c ds → c < suc limit = λ c h.
    elim (cases_lt limit c) [
      | inl past ↦ absurd (both_ways (m.granted c) (sound.none_past c past) (bit_true (m.granted c) (omega (arith, owned c, h))))
      | inr within ↦ omega (arith, within)
    ] in
    let all = all_times (λ c. c < suc limit) ds ds (λ c. omega arith) low in
    omega (arith, spread_length (suc limit) ds all, spread_most (suc limit) ds (λ c. omega (arith, owned c, bit_most (m.granted c))))

module _ {K : Type 0} (κ : Kind K) where
  weights_feet : (ω : ℕ → ℕ → ℕ) (l : ℕ) → ((e : Entry) → Fit K index_unit (suc l) (item κ ω (suc l) e) → weight K (suc l) (item κ ω (suc l) e) ≤ 64 * length (foot κ ω (suc l) e)) →
      (es : List Entry) → AllByRecursion (Fit K index_unit (suc l)) (map (item κ ω (suc l)) es) → total (weight K (suc l)) (map (item κ ω (suc l)) es) ≤ 64 * length (joined (foot κ ω (suc l)) es)
  weights_feet ω l known [] f = omega arith
  weights_feet ω l known (e ∷ es) f = omega (arith, known e f.0, weights_feet ω l known es f.1, length-append (foot κ ω (suc l) e) (joined (foot κ ω (suc l)) es))

  -- a node has 64 keys or less for each of its blocks
  weight_foot : (ω : ℕ → ℕ → ℕ) (l : ℕ) (e : Entry) → Fit K index_unit (suc l) (item κ ω (suc l) e) → weight K (suc l) (item κ ω (suc l) e) ≤ 64 * length (foot κ ω (suc l) e)
  weight_foot ω zero e f = omega (arith, f.1)
  weight_foot ω (suc l) e f = omega (arith, weights_feet ω l (weight_foot ω l) (entries κ.form (ω e.child)) f.2)

  weight_feet : (m : Meaning) (l b : ℕ) → Sits κ index_unit m l b → weight K (suc l) (node κ m.words l b) ≤ 64 * length (feet κ m.words l b)
  weight_feet m zero b s = omega (arith, s.light)
  weight_feet m (suc l) b s = omega (arith, weights_feet m.words l (weight_foot m.words l) (entries κ.form (m.words b)) s.fits)

  -- 64 times 2 ^ 20
  pub few_keys : (m : Meaning) (l b : ℕ) → Sound m → Sits κ index_unit m l b → weight K (suc l) (node κ m.words l b) ≤ 2 ^ 26
  unfolding limit
  few_keys m l b sound s = omega (arith, weight_feet m l b s, few_owned m (feet κ m.words l b) sound s.owned)
