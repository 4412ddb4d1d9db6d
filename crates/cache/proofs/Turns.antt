-- Lines that are used, emptied and filled, and the clock.
use Rattle.std.proofs.Common.{◌≡◌, ◌≢◌, ℕ, zero, suc, ◌<◌, ◌≤◌, List, [], ◌∷◌, vec_items, length, get_or, set, Ok, Err, Result, sym, refl, ap, ◌∙◌, subst, arith}
use Rattle.std.proofs.lemmas.List.{length-map, map-set, get_or-set_same, get_or-set_other}
use Rattle.store.specs.declared.fault.Fault.{Fault}
use Rattle.store.specs.Meaning.{Meaning}
use Rattle.cache.specs.declared.line.Line.{Line}
use Rattle.cache.specs.declared.line.LineTable.{LineTable}
use Rattle.cache.specs.Lines.{View, view, views, nth, blank, table_views, ages, ages_of, later, Timed}
use Rattle.cache.specs.Cache.{Apart}
use Rattle.cache.proofs.TableLines.{used_at}
use Rattle.cache.specs.Steps.{Least, Vacated, MadeRoom, Seated, stayed, moved, Seats, Brought, Turned, Dropped}

-- what is set twice at a place holds what was set last
pub set_twice : {A : Type 0} (xs : List A) (i : ℕ) (a b : A) → set (set xs i a) i b ≡ set xs i b
set_twice [] i a b = refl
set_twice (x ∷ xs) zero a b = refl
set_twice (x ∷ xs) (suc i) a b = ap (λ ys. x ∷ ys) (set_twice xs i a b)

-- numbers up to c, one of them changed to another up to c
pub up_to_set : (xs : List ℕ) (i v c : ℕ) → ((k : ℕ) → get_or xs k 0 ≤ c) → v ≤ c → (k : ℕ) → get_or (set xs i v) k 0 ≤ c
up_to_set [] i v c h l k = h k
up_to_set (x ∷ xs) zero v c h l zero = l
up_to_set (x ∷ xs) zero v c h l (suc k) = h (suc k)
up_to_set (x ∷ xs) (suc i) v c h l zero = h zero
up_to_set (x ∷ xs) (suc i) v c h l (suc k) = up_to_set xs i v c (λ j. h (suc j)) l k

-- what is set to 0 reads as 0
pub zero_set : (xs : List ℕ) (i : ℕ) → get_or (set xs i 0) i 0 ≡ 0
zero_set [] i = refl
zero_set (x ∷ xs) zero = refl
zero_set (x ∷ xs) (suc i) = zero_set xs i

-- u is t with line i changed to w
module _ (t u : LineTable) (i : ℕ) (w : Line) (lines : vec_items u.lines ≡ set (vec_items t.lines) i w) where
  pub ages_set : ages u ≡ set (ages t) i w.used
  ages_set = ap ages_of lines ∙ map-set (λ (l : Line). l.used) (vec_items t.lines) i w

  pub views_set : table_views u ≡ set (table_views t) i (view w)
  views_set = ap views lines ∙ map-set view (vec_items t.lines) i w

  pub others_kept : (k : ℕ) → k ≢ i → nth (table_views u) k ≡ nth (table_views t) k
  others_kept k ne = ap (λ vs. nth vs k) views_set ∙ get_or-set_other (table_views t) i k (view w) blank ne

  pub vacated : u.clock ≡ t.clock → w.used ≡ 0 → Vacated i t u
  vacated c z = record { clock = c; aged = ages_set ∙ ap (set (ages t) i) z; others = others_kept }

  pub timed_set : t.clock ≤ u.clock → w.used ≤ u.clock → Timed t → Timed u
  timed_set c l h k =
      let e = ap (λ xs. get_or xs k 0) ages_set in
      let p = up_to_set (ages t) i w.used u.clock (λ j. let q = h j in omega arith) l k in
      omega (arith, e, p)

  -- the line l became w, used no later
  pub timed_kept : (l : Line) → i < length (vec_items t.lines) → l ≡ get_or (vec_items t.lines) i l → w.used ≤ l.used → u.clock ≡ t.clock → Timed t → Timed u
  timed_kept l h e s c q =
      let a = used_at (vec_items t.lines) i l h e in
      let b = q i in
      timed_set (omega arith) (omega (arith, a, b)) q

  -- line i, which had made room, was filled
  pub refilled : (s : LineTable) (l : Line) → i < length (vec_items t.lines) → l ≡ get_or (vec_items t.lines) i l → w.used ≡ l.used → u.clock ≡ t.clock → Vacated i s t → Vacated i s u
  refilled s l h e q c v =
      let z : w.used ≡ 0 = q ∙ sym (used_at (vec_items t.lines) i l h e) ∙ ap (λ xs. get_or xs i 0) v.aged ∙ zero_set (ages s) i in
      record {
        clock = c ∙ v.clock;
        aged = ages_set ∙ ap (set (ages t) i) z ∙ ap (λ xs. set xs i 0) v.aged ∙ set_twice (ages s) i 0 0;
        others = λ k ne. others_kept k ne ∙ v.others k ne;
      }

  block_set : {b : ℕ} → i < length (vec_items t.lines) → w.block ≡ b → (nth (table_views u) i).block ≡ b
  block_set h q =
      let n = length-map (vec_items t.lines) view in
      ap (λ vs. (nth vs i).block) views_set ∙ ap (λ v. v.block) (get_or-set_same (table_views t) i (view w) blank (omega (arith, n))) ∙ q

  -- line i was used last, for its block
  pub turned : (b : ℕ) (s : LineTable) → i < length (vec_items t.lines) → w.block ≡ b → Seated i s t → u.clock ≡ later t.clock → w.used ≡ u.clock → (nth (table_views t) i).block ≡ b → Turned b i s u
  turned b s h q (stayed p) c z here = record {
    clock = c ∙ ap (λ x. later x.clock) p;
    aged = ages_set ∙ ap (set (ages t) i) z ∙ ap (λ x. set (ages x) i u.clock) p;
    block = block_set h q;
    others = λ k ne. others_kept k ne ∙ ap (λ x. nth (table_views x) k) p;
    oldest = λ ne. absurd (ne (ap (λ x. (nth (table_views x) i).block) (sym p) ∙ here));
  }
  turned b s h q (moved v least) c z here = record {
    clock = c ∙ ap later v.clock;
    aged = ages_set ∙ ap (set (ages t) i) z ∙ ap (λ xs. set xs i u.clock) v.aged ∙ set_twice (ages s) i 0 u.clock;
    block = block_set h q;
    others = λ k ne. others_kept k ne ∙ v.others k ne;
    oldest = λ _. least;
  }

-- a block was brought into a line, or the store fell
pub seats : (s t u : LineTable) (b : ℕ) (m n : Meaning) (vs ws : List View) (r : Result ℕ Fault) → t.lines ≡ s.lines → t.clock ≡ s.clock → MadeRoom t r u → Brought b r m vs n ws → Seats s r u
seats s t u b m n vs ws (Ok i) e c room d =
    let a : ages t ≡ ages s = ap (λ ls. ages_of (vec_items ls)) e in
    let v : Vacated i s u = record {
      clock = room.0.clock ∙ c;
      aged = room.0.aged ∙ ap (λ xs. set xs i 0) a;
      others = λ k ne. room.0.others k ne ∙ ap (λ ls. nth (views (vec_items ls)) k) e;
    } in
    moved v (subst (λ xs. Least xs i) a room.1)
seats s t u b m n vs ws (Err f) e c room d = λ ne. absurd (ne d.refusal)

-- lines and clock are as they were
module _ (s t : LineTable) (lines : t.lines ≡ s.lines) (clock : t.clock ≡ s.clock) where
  ages_still : ages t ≡ ages s
  ages_still = ap (λ ls. ages_of (vec_items ls)) lines

  views_still : table_views t ≡ table_views s
  views_still = ap (λ ls. views (vec_items ls)) lines

  pub timed_still : Timed s → Timed t
  timed_still h k = let q = h k in omega (arith, ap (λ xs. get_or xs k 0) ages_still)

  -- a block was given back, and no line had it
  pub dropped_none : (b : ℕ) → ((k : ℕ) → (nth (table_views t) k).block ≢ b) → Dropped b s t
  dropped_none b none = record {
    clock = clock;
    freed = λ k q. absurd (none k (ap (λ vs. (nth vs k).block) views_still ∙ q));
    others = λ k ne. (ap (λ vs. nth vs k) views_still, ap (λ xs. get_or xs k 0) ages_still);
  }

  -- a block was given back, and line i had it
  pub dropped_line : (u : LineTable) (i b : ℕ) (w : Line) → vec_items u.lines ≡ set (vec_items t.lines) i w → u.clock ≡ t.clock → i < length (vec_items t.lines) → (view w).block ≡ 0 → w.used ≡ 0
      → (nth (table_views s) i).block ≡ b → (b ≢ 0) → Apart (table_views s) → Dropped b s u
  dropped_line u i b w set_i c h wb wu q b0 apart =
      let m = length-map (vec_items t.lines) (λ (l : Line). l.used) in
      let us = ages_set t u i w set_i in
      let here_v = block_set t u i w set_i h wb in
      let here_a : get_or (ages u) i 0 ≡ 0 = ap (λ xs. get_or xs i 0) us ∙ get_or-set_same (ages t) i w.used 0 (omega (arith, m)) ∙ wu in
      record {
        clock = c ∙ clock;
        freed = λ k e. subst (λ j. ((nth (table_views u) j).block ≡ 0) × (get_or (ages u) j 0 ≡ 0)) (apart i k (λ z. b0 (sym q ∙ z)) (q ∙ sym e)) (here_v, here_a);
        others = λ k ne.
            let off : k ≢ i = λ e. ne (ap (λ j. (nth (table_views s) j).block) e ∙ q) in (
              others_kept t u i w set_i k off ∙ ap (λ x. nth x k) views_still,
              ap (λ xs. get_or xs k 0) us ∙ get_or-set_other (ages t) i k w.used 0 off ∙ ap (λ xs. get_or xs k 0) ages_still,
            );
      }
