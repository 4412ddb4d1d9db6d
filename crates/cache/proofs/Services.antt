-- The calls of a cache.
use Rattle.std.proofs.Common.{◌≡◌, ℕ, ◌<◌, Bool, true, false, List, length, get_or, set, Ok, Err, Result, sym, refl, ap, ◌∙◌, subst, arith}
use mathlib.Core.Path.{fun_ext}
use Rattle.std.proofs.lemmas.Bool.{both_ways}
use Rattle.std.proofs.lemmas.List.{length-set, get_or-set_same, get_or-set_other}
use Rattle.store.specs.declared.fault.Fault.{Fault}
use Rattle.store.specs.Faults.{one_deeper}
use Rattle.store.specs.Layers.{raised}
use Rattle.store.specs.Meaning.{Meaning, count, with_at, with_blocks, with_block, written}
use Rattle.store.specs.Calls.{Take, TakeDone, Give, GiveDone, GiveFails, GetDone, SetDone, Deep}
use Rattle.store.specs.Laws.Changes.{with_at_other, with_at_from}
use Rattle.cache.specs.Lines.{View, nth, set_view, Noted, Clear}
use Rattle.cache.specs.Cache.{word_of, over, cached, flat, Fits, Held}
use Rattle.cache.specs.Steps.{FetchDone}
use Rattle.cache.specs.Laws.Overlays.{not_zero, over_miss, over_hit}
use Rattle.cache.proofs.Exits.{was_ok, was_err}
use Rattle.cache.proofs.Overs.{Absent, within, apart_set, over_put, over_out, over_write}
use Rattle.cache.proofs.Helds.{held_put, held_out, held_set}
use Rattle.cache.proofs.Raises.{take_cached, give_cached, held_take, held_give, held_same}

-- lines that hold no block leave the words below as they are
pub clear_over : (vs : List View) (m : Meaning) → m.granted 0 ≡ false → Clear vs → flat vs m ≡ m
clear_over vs m g0 c =
    let e : over vs m.granted m.words ≡ m.words =
    fun_ext (λ b. over_miss vs m.granted m.words g0 b (λ i q t. not_zero m.granted b g0 t (sym q ∙ c i))) in
    ap (with_blocks m m.granted) e

-- a block that is not granted is in no line
free_absent : {m : Meaning} {lost : Bool} {vs : List View} (b : ℕ) → Held m lost vs → (b ≡ 0 → ⊥) → m.granted b ≡ false → Absent vs b
free_absent {m} b h b0 e k q = both_ways (m.granted b) e (subst (λ c. m.granted c ≡ true) q (h.fits k (λ z. b0 (sym q ∙ z))).whole.granted)

-- a block in no line changes, with its grant
module _ (m : Meaning) {lost : Bool} (vs : List View) (b : ℕ) (t : Bool) (β : ℕ → ℕ) (h : Held m lost vs) (g0 : m.granted 0 ≡ false) (b0 : b ≡ 0 → ⊥) (a : Absent vs b) where
  put_cached : cached vs (with_blocks m (with_at m.granted b t) (with_at m.words b β)) ≡ with_blocks (cached vs m) (with_at m.granted b t) (with_at (over vs m.granted m.words) b β)
  put_cached =
      ap (with_blocks (cached vs m) (with_at m.granted b t))
      (over_put vs m.granted m.words g0 (with_at m.granted b t) b β (with_at_other m.granted b t 0 (λ e. b0 (sym e)) ∙ g0) (with_at_other m.granted b t) a)

  put_held : Held (with_blocks m (with_at m.granted b t) (with_at m.words b β)) lost vs
  put_held = held_put (with_at m.granted b t) b β (with_at_other m.granted b t) a h

module _ {m n : Meaning} {lost lost' : Bool} {vs : List View} (g0 : m.granted 0 ≡ false) (h : Held m lost vs) where
  -- a block was taken, or not
  pub took : (q r : Result ℕ Fault) → q ≡ raised r → Take m r n → Deep m r → Noted lost r lost' → Take (cached vs m) q (cached vs n) × Deep (cached vs m) q × Held n lost' vs
  took q (Ok b) e c d t =
      let b0 : b ≡ 0 → ⊥ = λ z. let l = c.low in omega arith in
      let a = free_absent b h b0 c.was_free in
      let done : TakeDone (cached vs m) b (cached vs n) = record {
        was_up = c.was_up;
        had_room = c.had_room;
        was_free = c.was_free;
        low = c.low;
        high = c.high;
        after = ap (cached vs) c.after ∙ put_cached m vs b true (λ p. 0) h g0 b0 a;
      } in
      rw e (done, tt, held_same t c.after (put_held m vs b true (λ p. 0) h g0 b0 a))
  took q (Err f) e c d t = rw e (take_cached vs c, ap one_deeper d, held_take f t h c)

  -- a block was not given back
  pub give_err : {x : Fault} (b : ℕ) (r : Result (Unit {0}) Fault) → Err x ≡ raised r → Give b m r n → Deep m r → Noted lost r lost'
      → GiveFails b x.refusal x.block (cached vs m) (cached vs n) × (x.depth ≡ (cached vs m).shape.depth x.refusal (count m)) × Held n lost' vs
  give_err {x} b r e c d t =
      let p = was_err (λ a. Give b m a n × Deep m a × Noted lost a lost') r e (c, d, t) in
      subst (λ y. GiveFails b y.refusal y.block (cached vs m) (cached vs n) × (y.depth ≡ (cached vs m).shape.depth y.refusal (count m)) × Held n lost' vs) p.1
      (give_cached vs p.2.0, ap one_deeper p.2.1, held_give p.0 p.2.2 h p.2.0)

  -- a block was given back, and no line had it
  pub gave : {x : Unit {0}} (b : ℕ) (r : Result (Unit {0}) Fault) → Ok x ≡ raised r → Give b m r n → Noted lost r lost' → ((b ≡ 0 → ⊥) → Absent vs b) → GiveDone (cached vs m) b (cached vs n) × Held n lost' vs
  gave b r e c t a =
      let p = was_ok (λ y. Give b m y n × Noted lost y lost') r e (c, t) in
      let b0 = not_zero m.granted b g0 p.0.granted in (
        record { was_up = p.0.was_up; granted = p.0.granted; after = ap (cached vs) p.0.after ∙ put_cached m vs b false (λ _. 0) h g0 b0 (a b0) },
        held_same p.1 p.0.after (put_held m vs b false (λ _. 0) h g0 b0 (a b0)),
      )

  -- line i had it
  module _ (i : ℕ) (w : View) (l : i < length vs) (z : w.block ≡ 0) where
    gave_here : GiveDone m (nth vs i).block n → lost' ≡ lost → GiveDone (cached vs m) (nth vs i).block (cached (set vs i w) n) × Held n lost' (set vs i w)
    gave_here c t =
        let b = (nth vs i).block in
        let b0 = not_zero m.granted b g0 c.granted in
        let g = with_at m.granted b false in
        let same = with_at_other m.granted b false in (
          record {
            was_up = c.was_up;
            granted = c.granted;
            after = ap (cached (set vs i w)) c.after
                ∙ ap (with_blocks (cached vs m) g) (over_out vs m.granted m.words g0 i w l h.apart g (λ p. 0) (same 0 (λ e. b0 (sym e)) ∙ g0) same b0 z);
          },
          held_same t c.after (held_out i w g (λ p. 0) l z same h),
        )

    -- a block was given back, and line i had it
    pub gave_line : {x : Unit {0}} (b : ℕ) (r : Result (Unit {0}) Fault) → Ok x ≡ raised r → Give b m r n → Noted lost r lost' → (nth vs i).block ≡ b → GiveDone (cached vs m) b (cached (set vs i w) n) × Held n lost' (set vs i w)
    gave_line b r e c t at_b =
        let p = was_ok (λ y. Give b m y n × Noted lost y lost') r e (c, t) in
        subst (λ k. GiveDone m k n → GiveDone (cached vs m) k (cached (set vs i w) n) × Held n lost' (set vs i w)) at_b (λ d. gave_here d p.1) p.0

module _ {m n : Meaning} {lost : Bool} {vs ws : List View} {b place i : ℕ} (g0 : n.granted 0 ≡ false) (f : FetchDone b place i m vs n ws) (h : Held n lost ws) where
  holds : (nth ws i).block ≡ 0 → ⊥
  holds q = f.some (sym f.block ∙ q)

  fit : Fits n lost (nth ws i)
  fit = h.fits i holds

  granted : n.granted b ≡ true
  granted = ap n.granted (sym f.block) ∙ fit.whole.granted

  words_here : (cached ws n).words b ≡ word_of (nth ws i).words
  words_here = over_hit ws n.granted n.words g0 h.apart i b f.block granted

  -- a word read in a line
  pub got : (v : ℕ) → v ≡ get_or (nth ws i).words place 0 → GetDone (cached vs m) b place v (cached ws n)
  got v e =
      let wide = ap (λ k. k.shape.width) f.same in
      let long = fit.whole.wide in
      let in_it = f.within in
      record {
        was_up = f.up;
        granted = ap (λ k. k.granted b) (sym f.same) ∙ granted;
        within = omega arith;
        value = e ∙ ap (λ β. β place) (sym words_here) ∙ ap (λ k. k.words b place) f.same;
        same = f.same;
      }

  -- a word set in a line
  module _ (word : ℕ) where
    words_set : word_of (set (nth ws i).words place word) ≡ with_at (word_of (nth ws i).words) place word
    words_set =
        with_at_from (word_of (nth ws i).words) place (word_of (set (nth ws i).words place word)) word
        (get_or-set_same (nth ws i).words place word 0 f.within) (λ p ne. get_or-set_other (nth ws i).words place p word 0 ne)

    line : i < length ws
    line = within ws i holds

    alone : (j : ℕ) → (j ≡ i → ⊥) → ((nth ws i).block ≡ 0 → ⊥) → (nth ws j).block ≡ (nth ws i).block → ⊥
    alone j p ne q = p (sym (h.apart i j holds (sym q)))

    wrote_same : cached (set ws i (set_view (nth ws i) place word)) n ≡ written (cached ws n) b place word
    wrote_same =
        let w = set_view (nth ws i) place word in
        ap (with_blocks (cached ws n) n.granted) (over_write ws n.granted n.words g0 i w line h.apart b f.block f.block granted (apart_set ws i w line h.apart alone))
        ∙ ap (with_block (cached ws n) b) (words_set ∙ ap (λ β. with_at β place word) (sym words_here))

    pub wrote : SetDone (cached vs m) b place word (cached (set ws i (set_view (nth ws i) place word)) n) × Held n lost (set ws i (set_view (nth ws i) place word))
    wrote =
        let w = set_view (nth ws i) place word in
        let d = got _ refl in
        let new_fit : Fits n lost w = record {
          whole = record { granted = fit.whole.granted; wide = length-set (nth ws i).words place word ∙ fit.whole.wide };
          up = fit.up;
          same = λ _ q. absurd (both_ways true q refl);
        } in (
          record { was_up = d.was_up; granted = d.granted; within = d.within; after = wrote_same ∙ ap (λ k. written k b place word) f.same },
          held_set {vs = ws} i w line (λ _. new_fit) alone h,
        )
