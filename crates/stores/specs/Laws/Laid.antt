-- A store by its marks and words, wherever the words of its blocks stand.
use Rattle.std.specs.Prelude.{◌≡◌, ℕ, zero, suc, ◌+◌, ◌-◌, ◌<◌, ◌≤◌, min, Bool, true, false, cond, not, ◌&&◌, List, [], ◌∷◌, length, take, filter, ◌==◌, ◌≢◌, nat_le, nat_lt, slice_index, slice_index_or, slice_set}
use Rattle.std.specs.List.{range_with_len}
use Rattle.std.proofs.Math.Path.{refl, ap, fun_ext}
use Rattle.std.proofs.Common.{sym, ap₂, ◌∙◌, ⊎_elim, add-zero, zero-add, add-one, length-append}
use native.Mathlib.Omega.{arith}
use Rattle.std.proofs.Math.Seq.{take-suc}
use Rattle.std.proofs.lemmas.List.{get_or-set_same, get_or-set_other, get_or_past, take_all}
use Rattle.std.proofs.lemmas.List.Elements.{filter-append}
use Rattle.std.proofs.lemmas.Bool.{cases_Bool, cases_lt, and_parts, and_from, and_left, and_right, ltb-true, leb-true, lt-ltb, le-leb, lt-leb, le-ltb, eqb-true, eqb-false, eq-eqb, ne_eqb, not-true, not-false, not_from_true, not_from_false, cond-true, cond-false}
use Rattle.store.specs.Meaning.{Sound, limit, count_to, with_at, with_blocks, taken, returned, written}
use Rattle.store.specs.Laws.Changes.{with_at_from}
use Rattle.store.specs.Laws.Counts.{count_past, count_full, count_on, count_off, count_none, count_more, count_less}
use Rattle.stores.specs.Table.{in_use, word_in, laid, blank, wiped, unmarked}
use Rattle.stores.specs.Laws.Clearing.{wiped_here, wiped_other, cleared_here}

-- one block's mark
module _ (c : ℕ) (marks : List ℕ) (b : ℕ) where
  -- a block in use has a number within the capacity, and is marked
  pub used_parts : in_use c marks b ≡ true → (1 ≤ b) × (b ≤ c) × (slice_index marks (b - 1) ≢ 0)
  unfolding in_use
  used_parts e =
      let p = and_parts (nat_lt 0 b) (nat_le b c && not (slice_index marks (b - 1) == 0)) e in
      let q = and_parts (nat_le b c) (not (slice_index marks (b - 1) == 0)) p.1 in
      (ltb-true 0 b p.0, leb-true b c q.0, eqb-false (slice_index marks (b - 1)) 0 (not-true _ q.1))

  -- a number within the capacity that is marked
  pub used_from : 1 ≤ b → b ≤ c → (slice_index marks (b - 1) ≢ 0) → in_use c marks b ≡ true
  unfolding in_use
  used_from l h ne = and_from _ _ (lt-ltb 0 b l) (and_from _ _ (le-leb b c h) (not_from_false _ (ne_eqb (slice_index marks (b - 1)) 0 ne)))

  -- a number that is not marked
  pub free_from : slice_index_or marks (b - 1) 0 ≡ 0 → in_use c marks b ≡ false
  unfolding in_use
  free_from e = and_right (nat_lt 0 b) _ (and_right (nat_le b c) _ (not_from_true _ (eq-eqb (slice_index marks (b - 1)) 0 e)))

  -- a number past the capacity
  pub free_past : c < b → in_use c marks b ≡ false
  unfolding in_use
  free_past h = and_right (nat_lt 0 b) _ (and_left _ _ (lt-leb b c h))

-- no block has the number 0
pub free_zero : (c : ℕ) (marks : List ℕ) → in_use c marks 0 ≡ false
unfolding in_use
free_zero c marks = refl

-- a mark written for another block
pub in_use_other : (c : ℕ) (marks : List ℕ) (a b x : ℕ) → 1 ≤ b → (a ≢ b) → in_use c (slice_set marks (b - 1) x) a ≡ in_use c marks a
unfolding in_use
in_use_other c marks a b x l ne = ⊎_elim on off (cases_Bool (nat_lt 0 a))
  where
    on : nat_lt 0 a ≡ true → (nat_lt 0 a && (nat_le a c && not (slice_index (slice_set marks (b - 1) x) (a - 1) == 0))) ≡ (nat_lt 0 a && (nat_le a c && not (slice_index marks (a - 1) == 0)))
    on t =
        let la : 1 ≤ a = ltb-true 0 a t in
        ap (λ y. nat_lt 0 a && (nat_le a c && not (y == 0))) (get_or-set_other marks (b - 1) (a - 1) x 0 (λ q. ne (omega arith)))

    off : nat_lt 0 a ≡ false → (nat_lt 0 a && (nat_le a c && not (slice_index (slice_set marks (b - 1) x) (a - 1) == 0))) ≡ (nat_lt 0 a && (nat_le a c && not (slice_index marks (a - 1) == 0)))
    off t = and_left (nat_lt 0 a) _ t ∙ sym (and_left (nat_lt 0 a) _ t)

-- one block's words
module _ (at : ℕ → ℕ → ℕ) (w c : ℕ) (marks ws : List ℕ) (b : ℕ) where
  -- a word of a block in use
  pub word_used : (p : ℕ) → in_use c marks b ≡ true → p < w → word_in at w c marks ws b p ≡ slice_index ws (at b p)
  unfolding word_in
  word_used p e h = cond-true _ _ _ (and_from _ _ e (lt-ltb p w h))

  -- a word of a block not in use
  pub word_free : (p : ℕ) → in_use c marks b ≡ false → word_in at w c marks ws b p ≡ 0
  unfolding word_in
  word_free p e = cond-false _ _ _ (and_left _ _ e)

  -- a word past the width
  pub word_past : (p : ℕ) → w ≤ p → word_in at w c marks ws b p ≡ 0
  unfolding word_in
  word_past p h = cond-false _ _ _ (and_right (in_use c marks b) _ (le-ltb p w h))

  -- the words of a block that other marks and words leave as they are
  pub words_kept : (marks' ws' : List ℕ) → in_use c marks' b ≡ in_use c marks b → ((p : ℕ) → in_use c marks b ≡ true → p < w → slice_index ws' (at b p) ≡ slice_index ws (at b p)) → word_in at w c marks' ws' b ≡ word_in at w c marks ws b
  unfolding word_in
  words_kept marks' ws' e h =
      fun_ext (λ p.
      ap (λ t. cond (t && nat_lt p w) (slice_index ws' (at b p)) 0) e
      ∙ same (in_use c marks b && nat_lt p w) (slice_index ws' (at b p)) (slice_index ws (at b p))
      (λ t. let q = and_parts (in_use c marks b) (nat_lt p w) t in h p q.0 (ltb-true p w q.1)))
    where
      same : (t : Bool) (x y : ℕ) → (t ≡ true → x ≡ y) → cond t x 0 ≡ cond t y 0
      same true x y q = q refl
      same false x y q = refl

-- what every store of marks and words keeps: each word of a block stands in the run, no two stand in one place,
-- and g blocks are granted
pub record Lies (at : ℕ → ℕ → ℕ) (w c g : ℕ) (marks ws : List ℕ) : Type 0 where
  pub wide : 1 ≤ w
  pub narrow : w ≤ 512
  pub few : c ≤ limit
  pub marked : c ≤ length marks
  pub inside : (b p : ℕ) → 1 ≤ b → b ≤ c → p < w → at b p < length ws
  pub apart : (a b i j : ℕ) → 1 ≤ a → a ≤ c → 1 ≤ b → b ≤ c → i < w → j < w → at a i ≡ at b j → (a ≡ b) × (i ≡ j)
  pub counted : g ≡ count_to (in_use c marks) limit

module _ {at : ℕ → ℕ → ℕ} {w c g : ℕ} {marks ws : List ℕ} (f : Lies at w c g marks ws) where
  -- such a store is well formed
  pub laid_sound : Sound (laid at w c marks ws)
  laid_sound = record {
    some_width = f.wide;
    width_bound = f.narrow;
    capacity_bound = f.few;
    none_at_zero = free_zero c marks;
    none_past = λ b h. free_past c marks b (omega (arith, f.few));
    unused = λ b p e. word_free at w c marks ws b p e;
    past_width = λ b p h. word_past at w c marks ws b p h;
  }

  -- a word set
  pub laid_set : (b p v : ℕ) → in_use c marks b ≡ true → p < w → laid at w c marks (slice_set ws (at b p) v) ≡ written (laid at w c marks ws) b p v
  laid_set b p v u h =
      let l = used_parts c marks b u in
      ap (with_blocks (laid at w c marks ws) (in_use c marks))
      (with_at_from (word_in at w c marks ws) b (word_in at w c marks vs) (with_at (word_in at w c marks ws b) p v)
      (with_at_from (word_in at w c marks ws b) p (word_in at w c marks vs b) v
      (word_used at w c marks vs b p u h ∙ get_or-set_same ws (at b p) v 0 (f.inside b p l.0 l.1 h))
      (λ q ne. ⊎_elim (near q ne) (far q) (cases_lt q w)))
      (λ a ne.
      words_kept at w c marks ws a marks vs refl
      (λ q t k. let m = used_parts c marks a t in get_or-set_other ws (at b p) (at a q) v 0 (λ e. ne (f.apart a b q p m.0 m.1 l.0 l.1 k h e).0))))
    where
      vs : List ℕ
      vs = slice_set ws (at b p) v

      near : (q : ℕ) → (q ≢ p) → q < w → word_in at w c marks (slice_set ws (at b p) v) b q ≡ word_in at w c marks ws b q
      near q ne k =
          let l = used_parts c marks b u in
          word_used at w c marks (slice_set ws (at b p) v) b q u k
          ∙ get_or-set_other ws (at b p) (at b q) v 0 (λ e. ne (f.apart b b q p l.0 l.1 l.0 l.1 k h e).1)
          ∙ sym (word_used at w c marks ws b q u k)

      far : (q : ℕ) → w ≤ q → word_in at w c marks (slice_set ws (at b p) v) b q ≡ word_in at w c marks ws b q
      far q k = word_past at w c marks (slice_set ws (at b p) v) b q k ∙ sym (word_past at w c marks ws b q k)

  -- grants and words of a store that differs from this one at b alone
  laid_change : (marks' ws' : List ℕ) (b : ℕ) (v : Bool) (β : ℕ → ℕ) → in_use c marks' b ≡ v → word_in at w c marks' ws' b ≡ β → ((a : ℕ) → (a ≢ b) → in_use c marks' a ≡ in_use c marks a) → ((a p : ℕ) → (a ≢ b) → in_use c marks a ≡ true → p < w → slice_index ws' (at a p) ≡ slice_index ws (at a p)) → laid at w c marks' ws' ≡ with_blocks (laid at w c marks ws) (with_at (in_use c marks) b v) (with_at (word_in at w c marks ws) b β)
  laid_change marks' ws' b v β e d same rest =
      ap₂ (with_blocks (laid at w c marks ws))
      (with_at_from (in_use c marks) b (in_use c marks') v e same)
      (with_at_from (word_in at w c marks ws) b (word_in at w c marks' ws') β d (λ a ne. words_kept at w c marks ws a marks' ws' (same a ne) (λ p t k. rest a p ne t k)))

  -- a block given back
  module _ (b : ℕ) (u : in_use c marks b ≡ true) where
    pub laid_give : laid at w c (slice_set marks (b - 1) 0) ws ≡ returned (laid at w c marks ws) b
    laid_give =
        let l = used_parts c marks b u in
        let e = free_from c (slice_set marks (b - 1) 0) b (get_or-set_same marks (b - 1) 0 0 (omega (arith, l.0, l.1, f.marked))) in
        laid_change (slice_set marks (b - 1) 0) ws b false (λ p. 0) e
        (fun_ext (λ p. word_free at w c (slice_set marks (b - 1) 0) ws b p e))
        (λ a ne. in_use_other c marks a b 0 l.0 ne)
        (λ a p ne t k. refl)

    -- one grant less
    pub one_less : count_to (in_use c (slice_set marks (b - 1) 0)) limit + 1 ≡ g
    one_less =
        let l = used_parts c marks b u in
        ap (λ m. count_to m.granted limit + 1) laid_give
        ∙ count_less (in_use c marks) b limit l.0 (omega (arith, l.1, f.few)) u
        ∙ sym f.counted

  -- a block taken
  module _ (b : ℕ) (l : 1 ≤ b) (h : b ≤ c) where
    pub laid_take : laid at w c (slice_set marks (b - 1) 1) (wiped (at b) w ws) ≡ taken (laid at w c marks ws) b
    laid_take =
        laid_change marks' vs b true (λ p. 0) used
        (fun_ext (λ p. ⊎_elim (λ k. word_used at w c marks' vs b p used k ∙ wiped_here (at b) ws w p k) (λ k. word_past at w c marks' vs b p k) (cases_lt p w)))
        (λ a ne. in_use_other c marks a b 1 l ne)
        (λ a p ne t k. let m = used_parts c marks a t in wiped_other (at b) ws w (at a p) (λ i j e. ne (f.apart a b p i m.0 m.1 l h k j e).0))
      where
        marks' : List ℕ
        marks' = slice_set marks (b - 1) 1

        vs : List ℕ
        vs = wiped (at b) w ws

        used : in_use c (slice_set marks (b - 1) 1) b ≡ true
        used =
            used_from c (slice_set marks (b - 1) 1) b l h (λ z. let q = get_or-set_same marks (b - 1) 1 0 (omega (arith, f.marked)) in omega (arith, q, z))

    -- one grant more, which is added without loss
    pub one_more : in_use c marks b ≡ false → g < c → min (g + 1) 4294967295 ≡ count_to (in_use c (slice_set marks (b - 1) 1)) limit
    unfolding limit
    one_more e few =
        omega (
          arith,
          f.few,
          f.counted,
          ap (λ m. count_to m.granted limit) laid_take,
          count_more (in_use c marks) b limit l (omega (arith, f.few)) e,
        )

-- a store whose marks are cleared has no grants
module _ (at : ℕ → ℕ → ℕ) (w c : ℕ) (marks ws : List ℕ) where
  pub unmarked_free : (b : ℕ) → in_use c (unmarked c marks) b ≡ false
  unmarked_free b =
      ⊎_elim (λ h. free_past c (unmarked c marks) b h)
      (λ h. ⊎_elim (λ (q : b < 1). let z : b ≡ 0 = omega arith in ap (in_use c (unmarked c marks)) z ∙ free_zero c (unmarked c marks)) (λ (q : 1 ≤ b). free_from c (unmarked c marks) b (cleared_here 0 marks c (b - 1) (omega arith) (omega arith))) (cases_lt b 1))
      (cases_lt c b)

  -- a fresh store
  pub laid_blank : laid at w c (unmarked c marks) ws ≡ blank w c
  laid_blank =
      ap₂ (with_blocks (blank w c)) (fun_ext unmarked_free) (fun_ext (λ b. fun_ext (λ p. word_free at w c (unmarked c marks) ws b p (unmarked_free b))))

-- no number is granted
pub count_blank : (n : ℕ) → count_to (λ b. false) n ≡ 0
count_blank n = count_past (λ b. false) 0 n (omega arith) (λ b h k. refl) ∙ count_none (λ b. false)

-- counts of the marks below the capacity
module _ (c : ℕ) (marks : List ℕ) where
  -- no block past the capacity is granted
  pub count_capacity : c ≤ limit → count_to (in_use c marks) limit ≡ count_to (in_use c marks) c
  count_capacity h = count_past (in_use c marks) c limit h (λ b l k. free_past c marks b l)

  -- where each mark is set, all are granted
  pub count_marked : c ≤ limit → ((k : ℕ) → k < c → slice_index marks k ≢ 0) → count_to (in_use c marks) limit ≡ c
  count_marked h used =
      count_capacity h ∙ count_full (in_use c marks) c (λ b l k. used_from c marks b l k (used (b - 1) (omega arith)))

  back_one : (i : ℕ) → i ≡ i + 1 - 1
  back_one i = omega arith

  -- a loop's step at a mark that is set
  pub mark_on : (i n : ℕ) → i < c → (slice_index marks i ≢ 0) → n ≡ count_to (in_use c marks) i → n + 1 ≡ count_to (in_use c marks) (i + 1)
  mark_on i n l ne h =
      count_on (in_use c marks) i n (used_from c marks (i + 1) (omega arith) (omega arith) (λ q. ne (ap (λ k. slice_index marks k) (back_one i) ∙ q))) h

  -- a loop's step past a mark that is not set
  pub mark_off : (i n : ℕ) → slice_index marks i ≡ 0 → n ≡ count_to (in_use c marks) i → n ≡ count_to (in_use c marks) (i + 1)
  mark_off i n e h = count_off (in_use c marks) i n (free_from c marks (i + 1) (ap (λ k. slice_index marks k) (sym (back_one i)) ∙ e)) h

  -- the slots that are marked, one after another
  pub count_slots : (test : ℕ → Bool) → ((i : ℕ) → test i ≡ not (slice_index marks i == 0)) → (a n : ℕ) → a + n ≤ c → length (filter test (range_with_len a n)) + count_to (in_use c marks) a ≡ count_to (in_use c marks) (a + n)
  count_slots test e a zero h = zero-add (count_to (in_use c marks) a) ∙ ap (count_to (in_use c marks)) (sym (add-zero a))
  count_slots test e a (suc n) h =
      let k = count_to (in_use c marks) a in
      let ys = range_with_len (a + 1) n in
      let q : a + 1 + n ≡ a + suc n = omega arith in
      let rest = count_slots test e (a + 1) n (omega arith) ∙ ap (count_to (in_use c marks)) q in
      ⊎_elim
      (λ (t : test a ≡ true).
      let one = mark_on a k (omega arith) (eqb-false (slice_index marks a) 0 (not-true _ (sym (e a) ∙ t))) refl in
      let l = ap length (cond-true (test a) (a ∷ filter test ys) (filter test ys) t) in
      omega (arith, l, one, rest))
      (λ (t : test a ≡ false).
      let one = mark_off a k (eqb-true (slice_index marks a) 0 (not-false _ (sym (e a) ∙ t))) refl in
      let l = ap length (cond-false (test a) (a ∷ filter test ys) (filter test ys) t) in
      omega (arith, l, one, rest))
      (cases_Bool (test a))

  -- the marks that are set among the first
  pub count_front : (test : ℕ → Bool) → ((m : ℕ) → test m ≡ not (m == 0)) → (n : ℕ) → n ≤ c → length (filter test (take n marks)) ≡ count_to (in_use c marks) n
  count_front test e zero h = sym (count_none (in_use c marks))
  count_front test e (suc n) h =
      let k = count_to (in_use c marks) n in
      let m = slice_index marks n in
      let rest = count_front test e n (omega arith) in
      let next = ap (count_to (in_use c marks)) (add-one n) in
      ⊎_elim
      (λ (l : n < length marks).
      let more = ap (λ xs. length (filter test xs)) (take-suc marks n 0 l) ∙ ap length (filter-append test (take n marks) (m ∷ [])) ∙ length-append (filter test (take n marks)) (filter test (m ∷ [])) in
      ⊎_elim
      (λ (t : test m ≡ true).
      let one = mark_on n k (omega arith) (eqb-false m 0 (not-true _ (sym (e m) ∙ t))) refl in
      let it = ap length (cond-true (test m) (m ∷ []) [] t) in
      omega (arith, more, it, one, rest, next))
      (λ (t : test m ≡ false).
      let one = mark_off n k (eqb-true m 0 (not-false _ (sym (e m) ∙ t))) refl in
      let it = ap length (cond-false (test m) (m ∷ []) [] t) in
      omega (arith, more, it, one, rest, next))
      (cases_Bool (test m)))
      (λ (l : length marks ≤ n).
      let same = ap (λ xs. length (filter test xs)) (take_all (suc n) marks (omega arith) ∙ sym (take_all n marks l)) in
      let one = mark_off n k (get_or_past marks n 0 l) refl in
      omega (arith, same, one, rest, next))
      (cases_lt n (length marks))
