-- What each call of a store in lent memory answers, from what its code does to the fields.
use Rattle.std.proofs.Common.{◌≡◌, ℕ, ◌+◌, ◌-◌, ◌<◌, ◌≤◌, min, true, List, length, get_or, set, None, sym, refl, ap, ◌∙◌, subst, ap₂, ⊎_elim, arith}
use Rattle.std.proofs.lemmas.List.{length-set}
use Rattle.store.specs.declared.fault.Refusal.TheVariants.{NoRoom}
use Rattle.store.specs.Meaning.{Meaning, limit, count_to}
use Rattle.store.specs.Calls.{Told, TakeDone, TakeFails, GiveDone, SetDone}
use Rattle.stores.specs.declared.grants.Grants.{Grants}
use Rattle.stores.specs.declared.lent.LentStore.{LentStore}
use Rattle.stores.specs.Table.{in_use, laid, blank, wiped, unmarked}
use Rattle.stores.specs.Plan.{Plan, block_at, StoreFits}
use Rattle.stores.specs.Located.{Found}
use Rattle.stores.specs.Grants.{Removing, Clearing, Counting, Spare, Free}
use Rattle.stores.specs.Opened.{means, Ready, Fresh, Reopened}
use Rattle.stores.specs.Steps.{Becomes, Put, Cleared, Granting, Over}
use Rattle.stores.specs.Touched.{Marked}
use Rattle.stores.specs.Laws.Clearing.{wiped_none, wiped_more, wiped_length, cleared_length}
use Rattle.stores.specs.Laws.Laid.{one_less, one_more, laid_blank, count_blank, count_capacity, count_marked}
use Rattle.stores.specs.Laws.Plans.{Lawful}
use Rattle.stores.proofs.LaidCalls.{put, gave, was_free, took, no_room}

module _ {L E : Type 0} (plan : L → Plan E) where
  -- what marks and words mean
  abbrev mean : L → ℕ → ℕ → List ℕ → List ℕ → Meaning
  mean l w c marks words = laid (block_at (plan l) w) w c marks words

  -- the same store by other names of its parts
  fit_same : {w w' c c' g g' : ℕ} {l l' : L} {marks marks' ws ws' : List ℕ} → w' ≡ w → c' ≡ c → g' ≡ g → l' ≡ l → marks' ≡ marks → ws' ≡ ws → StoreFits (plan l) w c g marks ws → StoreFits (plan l') w' c' g' marks' ws'
  fit_same a b d e f g h = rw (a, b, d, e, f, g) h

  -- the state that a store came to
  module _ {s t : LentStore L} {g : ℕ} {marks words : List ℕ} (d : Becomes s t g marks words) where
    becomes_means : means plan t ≡ mean s.layout s.width s.grants.capacity marks words
    becomes_means =
        ap₂ (λ w c. mean t.layout w c t.grants.marks.now t.words.now) d.width_is d.capacity_is
        ∙ ap (λ l. mean l s.width s.grants.capacity t.grants.marks.now t.words.now) d.layout_is
        ∙ ap₂ (mean s.layout s.width s.grants.capacity) d.marks_are d.words_are

    becomes_ready : StoreFits (plan s.layout) s.width s.grants.capacity g marks words → Ready plan t
    becomes_ready f = fit_same d.width_is d.capacity_is d.granted_is d.layout_is d.marks_are d.words_are f

  -- runs as long as before, with other grants
  module _ {l : L} {w c g : ℕ} {marks ws : List ℕ} (f : StoreFits (plan l) w c g marks ws) where
    refits : (g' : ℕ) (marks' ws' : List ℕ) → length marks' ≡ length marks → length ws' ≡ length ws → g' ≡ count_to (in_use c marks') limit → StoreFits (plan l) w c g' marks' ws'
    refits g' marks' ws' d e n = record {
      wide = f.wide;
      narrow = f.narrow;
      whole = f.whole ∙ ap₂ ((plan l).most w) (sym d) (sym e);
      apt = subst ((plan l).apt w c) (sym e) f.apt;
      counted = n;
    }

  -- a store whose marks alone were noted anew
  pub noted : {s : LentStore L} {t : Grants} {g : ℕ} {marks : List ℕ} → t.capacity ≡ s.grants.capacity → t.granted ≡ g → t.marks.now ≡ marks → Becomes s (record s { grants = t }) g marks s.words.now
  noted a b d = record { width_is = refl; layout_is = refl; capacity_is = a; granted_is = b; marks_are = d; words_are = refl }

  -- no word of a slot cleared yet
  pub wipe_none : (s : LentStore L) (slot : ℕ) → Cleared plan s slot 0 s
  wipe_none s slot = record {
    width_is = refl;
    layout_is = refl;
    capacity_is = refl;
    granted_is = refl;
    marks_are = refl;
    words_are = sym (wiped_none ((plan s.layout).at s.width slot) s.words.now);
  }

  -- one word more
  pub wipe_more : {s u t : LentStore L} {i : ℕ} (slot n : ℕ) → Cleared plan s slot n u → i ≡ (plan u.layout).at u.width slot n → Put u i 0 t → Cleared plan s slot (n + 1) t
  wipe_more {s} {i = i} slot n d e p =
      let at = (plan s.layout).at s.width slot in
      let here : i ≡ at n = e ∙ ap₂ (λ w l. (plan l).at w slot n) d.width_is d.layout_is in
      record {
        width_is = p.width_is ∙ d.width_is;
        layout_is = p.layout_is ∙ d.layout_is;
        capacity_is = p.capacity_is ∙ d.capacity_is;
        granted_is = p.granted_is ∙ d.granted_is;
        marks_are = p.marks_are ∙ d.marks_are;
        words_are = p.words_are ∙ ap₂ (λ xs k. set xs k 0) d.words_are here ∙ sym (wiped_more at s.words.now n);
      }

  -- the mark of the block in a slot was set, and its words cleared
  pub marked : {s t : LentStore L} (slot b : ℕ) → b ≡ slot + 1 → Granting plan s slot t → Marked plan s t b
  marked {s} {t} slot b e d =
      let back : slot ≡ b - 1 = omega arith in
      record {
        byte = 1;
        some = λ z. absurd (omega arith);
        runs = subst (λ q. Becomes s t (min (s.grants.granted + 1) 4294967295) (set s.grants.marks.now q 1) (wiped ((plan s.layout).at s.width q) s.width s.words.now)) back d;
      }

  module _ (s : LentStore L) (law : Lawful (plan s.layout)) (f : Ready plan s) where
    -- a word changed
    pub put_word : {t : LentStore L} {b place i v : ℕ} → Found (block_at (plan s.layout) s.width) s.width s.grants.capacity s.grants.marks.now b place i → Put s i v t → Told (SetDone (means plan s) b place v (means plan t)) (Unit {0}) (Ready plan t)
    put_word {i = i} {v} h d = record {
      call = put (law.lies f) h (becomes_means d);
      deep = tt;
      ready = becomes_ready d (refits f s.grants.granted s.grants.marks.now (set s.words.now i v) refl (length-set s.words.now i v) f.counted);
    }

    -- a block given back
    pub gave_block : {t : Grants} {b slot : ℕ} → in_use s.grants.capacity s.grants.marks.now b ≡ true → slot ≡ b - 1 → Removing s.grants slot t → Told (GiveDone (means plan s) b (means plan (record s { grants = t }))) (Unit {0}) (Ready plan (record s { grants = t }))
    gave_block {t = t} {b = b} u e r =
        let d = noted {s = s} {t = t} r.capacity_is r.granted_is (r.marks_are ∙ ap (λ k. set s.grants.marks.now k 0) e) in
        record {
          call = gave (law.lies f) u (becomes_means d);
          deep = tt;
          ready = becomes_ready d (refits f (s.grants.granted - 1) (set s.grants.marks.now (b - 1) 0) s.words.now (length-set s.grants.marks.now (b - 1) 0) refl (omega (arith, one_less (law.lies f) b u)));
        }

    -- no block free
    pub none_left : Free s.grants None → TakeFails NoRoom 0 (means plan s) (means plan s)
    none_left h =
        ⊎_elim
        (λ (l : s.grants.capacity ≤ s.grants.granted). no_room (law.lies f) l)
        (λ (used : (k : ℕ) → k < s.grants.capacity → get_or s.grants.marks.now k 0 ≡ 0 → ⊥).
        let n = count_marked s.grants.capacity s.grants.marks.now (law.lies f).few used in no_room (law.lies f) (omega (arith, n, f.counted)))
        h

    -- a block taken, at the slot p
    module _ {t : LentStore L} (p b : ℕ) (e : b ≡ p + 1) (at : Spare s.grants p) (d : Granting plan s p t) where
      back : p + 1 - 1 ≡ p
      back = omega arith

      after : means plan t ≡ laid (block_at (plan s.layout) s.width) s.width s.grants.capacity (set s.grants.marks.now p 1) (wiped (block_at (plan s.layout) s.width (p + 1)) s.width s.words.now)
      after = becomes_means d ∙ ap (λ q. mean s.layout s.width s.grants.capacity (set s.grants.marks.now p 1) (wiped ((plan s.layout).at s.width q) s.width s.words.now)) (sym back)

      counts : min (s.grants.granted + 1) 4294967295 ≡ count_to (in_use s.grants.capacity (set s.grants.marks.now p 1)) limit
      counts =
          one_more (law.lies f) (p + 1) (omega arith) (omega (arith, at.free.low)) (was_free (law.lies f) p at.free.low at.free.unused) at.few
          ∙ ap (λ q. count_to (in_use s.grants.capacity (set s.grants.marks.now q 1)) limit) back

      pub took_block : Told (TakeDone (means plan s) b (means plan t)) (Unit {0}) (Ready plan t)
      took_block = record {
        call = subst (λ k. TakeDone (means plan s) k (means plan t)) (sym e) (took (law.lies f) p at.free.low at.free.unused at.few after);
        deep = tt;
        ready = becomes_ready d (refits f (min (s.grants.granted + 1) 4294967295) (set s.grants.marks.now p 1) (wiped ((plan s.layout).at s.width p) s.width s.words.now) (length-set s.grants.marks.now p 1) (wiped_length ((plan s.layout).at s.width p) s.words.now s.width) counts);
      }

  -- a store over runs
  module _ {width : ℕ} {l : L} {marks words : List ℕ} {s : LentStore L} (law : Lawful (plan l)) (o : Over plan width l marks words s) where
    -- where its grants are counted, it is ready
    over_ready : (g : ℕ) (ms : List ℕ) → length ms ≡ length marks → g ≡ count_to (in_use s.grants.capacity ms) limit → StoreFits (plan s.layout) s.width s.grants.capacity g ms s.words.now
    over_ready g ms e n =
        fit_same o.width_is refl refl o.layout_is refl o.words_are
        (record {
          wide = o.suits.wide;
          narrow = o.suits.narrow;
          whole = o.suits.whole ∙ ap (λ k. (plan l).most width k (length words)) (sym e);
          apt = o.suits.apt;
          counted = n;
        })

    -- its marks cleared
    pub made_fresh : {t : Grants} → Clearing s.grants t → Fresh plan width l marks words (record s { grants = t })
    made_fresh {t} r =
        let d = noted {s = s} {t = t} r.capacity_is r.granted_is r.marks_are in
        let w = s.width in
        let c = s.grants.capacity in
        let ms = s.grants.marks.now in
        let blanks = laid_blank (block_at (plan s.layout) w) w c ms s.words.now in
        record {
          ready = becomes_ready d (over_ready s.grants.granted (unmarked c ms) (cleared_length 0 ms c ∙ ap length o.marks_are) (o.granted_is ∙ sym (ap (λ m. count_to m.granted limit) blanks ∙ count_blank limit)));
          same = becomes_means d ∙ blanks ∙ ap₂ blank o.width_is o.suits.whole;
          layout_left = o.layout_is;
          marks_left = r.marks_are ∙ ap₂ unmarked (sym r.capacity_is) o.marks_are;
          words_left = o.words_are;
        }

    -- its grants counted
    pub made_again : {t : Grants} → Counting s.grants t → Reopened plan width l marks words (record s { grants = t })
    made_again {t} r =
        let d = noted {s = s} {t = t} r.capacity_is r.granted_is r.marks_are in
        let c = s.grants.capacity in
        let ms = s.grants.marks.now in
        let fits = over_ready (count_to (in_use c ms) limit) ms (ap length o.marks_are) refl in
        let few = (law.lies (subst (λ x. StoreFits (plan x) s.width c (count_to (in_use c ms) limit) ms s.words.now) o.layout_is fits)).few in
        record {
          ready = becomes_ready d (over_ready (count_to (in_use c ms) c) ms (ap length o.marks_are) (sym (count_capacity c ms few)));
          same = becomes_means d
              ∙ ap₂ (λ v k. mean s.layout v k ms s.words.now) o.width_is o.suits.whole
              ∙ ap (λ x. mean x width ((plan l).most width (length marks) (length words)) ms s.words.now) o.layout_is
              ∙ ap₂ (mean l width ((plan l).most width (length marks) (length words))) o.marks_are o.words_are;
          layout_left = o.layout_is;
          marks_left = r.marks_are ∙ o.marks_are;
          words_left = o.words_are;
        }
