-- A line that is freed, and a line that is filled.
use Rattle.std.proofs.Common.{◌≡◌, ℕ, ◌<◌, Bool, false, List, length, set, Ok, Err, Result, sym, refl, ap, ◌∙◌, subst, ⊎_elim}
use Rattle.std.proofs.lemmas.List.{set-get_or}
use Rattle.std.proofs.lemmas.Bool.{cases_eq}
use Rattle.store.specs.declared.fault.Fault.{Fault}
use Rattle.store.specs.Layers.{raised}
use Rattle.store.specs.Meaning.{Meaning, with_blocks, with_block}
use Rattle.store.specs.Laws.Changes.{with_at_same}
use Rattle.cache.specs.Lines.{View, nth, blank, Noted}
use Rattle.cache.specs.Cache.{word_of, over, cached, Whole, Fits, Held}
use Rattle.cache.specs.Steps.{Falls, emptied, Empty, Fill, EvictDone, Loadable, Loaded, LoadDone}
use Rattle.cache.specs.Laws.Overlays.{over_hit}
use Rattle.cache.proofs.Exits.{was_ok, was_err}
use Rattle.cache.proofs.Overs.{nth_same, absent_set, over_idle, over_out, over_in}
use Rattle.cache.proofs.Helds.{held_set, held_out, emptied_none, emptied_full, not_lost}
use Rattle.cache.proofs.Raises.{falls_cached, held_falls, held_same}

-- the cache means what it meant
abbrev Still : Meaning → List View → Bool → Meaning → List View → Type 0
Still m vs lost n ws = (cached ws n ≡ cached vs m) × Held n lost ws

-- a cache with other words
abbrev reworded : Meaning → (ℕ → ℕ → ℕ) → Meaning
reworded m ω = with_blocks m m.granted ω

module _ (m : Meaning) (lost : Bool) (vs : List View) (i : ℕ) (w : View) (l : i < length vs) (z : w.block ≡ 0) (h : Held m lost vs) (g0 : m.granted 0 ≡ false) where
  free_none : (nth vs i).block ≡ 0 → Still m vs lost m (set vs i w)
  free_none q = (
    ap (reworded (cached vs m)) (over_idle vs m.granted m.words g0 i w l h.apart q z),
    held_set i w l (λ ne. absurd (ne z)) (λ j p ne e. ne z) h,
  )

  free_full : ((nth vs i).block ≡ 0 → ⊥) → Still m vs lost (with_block m (nth vs i).block (word_of (nth vs i).words)) (set vs i w)
  free_full ne =
      let b = (nth vs i).block in
      let β = word_of (nth vs i).words in
      let t = (h.fits i ne).whole.granted in (
        ap (reworded (cached vs m))
            (over_out vs m.granted m.words g0 i w l h.apart m.granted β g0 (λ c far. refl) ne z
            ∙ with_at_same (over vs m.granted m.words) b β (sym (over_hit vs m.granted m.words g0 h.apart i b refl t))),
        held_out i w m.granted β l z (λ c far. refl) h,
      )

  -- line i has gone down
  pub freed : lost ≡ false → (n : Meaning) → n ≡ emptied (nth vs i) m → Still m vs lost n (set vs i w)
  freed up n e =
      ⊎_elim
      (λ q. subst (λ k. Still m vs lost k (set vs i w)) (sym (e ∙ emptied_none m (nth vs i) q)) (free_none q))
      (λ q. subst (λ k. Still m vs lost k (set vs i w)) (sym (e ∙ emptied_full m (nth vs i) q ((h.fits i q).same up))) (free_full q))
      (cases_eq (nth vs i).block 0)

-- what a line that goes down needs
pub goes_whole : {m : Meaning} {lost : Bool} {vs : List View} {v : View} (i : ℕ) → nth vs i ≡ v → Held m lost vs → (v.block ≡ 0 → ⊥) → Whole m v
goes_whole {m} i e h ne = subst (Whole m) e (h.fits i (λ q. ne (ap (λ x. x.block) (sym e) ∙ q))).whole

module _ {m n : Meaning} {lost lost' : Bool} {vs : List View} (i : ℕ) (w : View) (l : i < length vs) (g0 : m.granted 0 ≡ false) (up : m.down ≡ false) (h : Held m lost vs) where
  -- line i was freed, or the store fell
  pub evict_ok : {x : Unit {0}} (out : Result (Unit {0}) Fault) → Ok x ≡ raised out → Empty (nth vs i) w m out n → Noted lost out lost' → EvictDone i m vs n (set vs i w) × Held n lost' (set vs i w)
  evict_ok out e d t =
      let p = was_ok (λ a. Empty (nth vs i) w m a n × Noted lost a lost') out e (d, t) in
      let q = freed m lost vs i w l p.0.none h g0 (not_lost h up) n p.0.after in (
        record {
          same = q.0;
          none = ap (λ v. v.block) (nth_same vs i w l) ∙ p.0.none;
          absent = λ b b0 a. absent_set vs i w l b (λ r. b0 (sym r ∙ p.0.none)) a;
        },
        held_same p.1 refl q.1,
      )

  pub evict_err : {x : Fault} (out : Result (Unit {0}) Fault) → Err x ≡ raised out → Empty (nth vs i) w m out n → Noted lost out lost' → Falls x (cached vs m) (cached (set vs i w) n) × Held n lost' (set vs i w)
  evict_err {x} out e d t =
      let p = was_err (λ a. Empty (nth vs i) w m a n × Noted lost a lost') out e (d, t) in
      let same : set vs i w ≡ vs = ap (set vs i) p.2.0.kept ∙ set-get_or vs i blank in (
        subst (λ y. Falls y (cached vs m) (cached (set vs i w) n)) p.1 (falls_cached vs (set vs i w) p.2.0.down),
        subst (Held n lost') (sym same) (held_falls p.2.1 p.2.0.down.refusal p.2.0.down.fell h),
      )

module _ {m n : Meaning} {lost lost' : Bool} {vs : List View} (b i : ℕ) (w : View) (l : i < length vs) (g0 : m.granted 0 ≡ false) (p : Loadable b i m vs) (h : Held m lost vs) where
  -- a block was read into a free line
  load_ok : Fill b w m (Ok tt) n → lost' ≡ lost → LoadDone b i m vs n (set vs i w) × Held n lost' (set vs i w)
  load_ok d t =
      let fit : Fits m lost w = record {
        whole = record { granted = ap m.granted d.block ∙ p.granted; wide = d.wide };
        up = λ _. p.up;
        same = λ _ _. ap m.words d.block ∙ d.words;
      } in
      let h' = held_set {vs = vs} i w l (λ _. fit) (λ j q ne e. p.absent j (e ∙ d.block)) h in
      let same = over_in vs m.granted m.words g0 i w l h.apart b p.none d.block p.granted p.absent d.words h'.apart in (
        record {
          same = ap (cached (set vs i w)) d.after ∙ ap (reworded (cached vs m)) same;
          block = ap (λ v. v.block) (nth_same vs i w l) ∙ d.block;
        },
        held_same t d.after h',
      )

  -- a block was read into a free line, or the store fell
  pub load_all : (q out : Result (Unit {0}) Fault) → q ≡ raised out → Fill b w m out n → Noted lost out lost' → Loaded b i q m vs n (set vs i w) × Held n lost' (set vs i w)
  load_all q (Ok y) e d t = rw e (load_ok d t)
  load_all q (Err f) e d t =
      rw e (
        falls_cached vs (set vs i w) d.down,
        held_falls t d.down.refusal d.down.fell (held_set {vs = vs} i w l (λ ne. absurd (ne d.none)) (λ j y ne r. ne d.none) h),
      )
