-- A table's lines as they are read and set.
use Rattle.std.proofs.Common.{◌≡◌, ◌≢◌, ℕ, zero, suc, ◌<◌, ◌≤◌, Bool, false, true, ◌==◌, nat_lt, Option, Some, None, List, [], ◌∷◌, map, length, get_or, set, sym, ap, ◌∙◌, ⊎_elim, arith}
use Rattle.std.specs.List.{HoldsAt, AllWithin}
use Rattle.std.proofs.lemmas.List.{get_or-map, map-set, set-get_or, get_or_past, length-map, get_or-set_same}
use Rattle.std.proofs.lemmas.Bool.{cases_lt, eq-eqb, eqb-true, lt-ltb, ltb-true, and_from, and_parts, and_right, le-ltb, both_ways}
use Rattle.cache.specs.declared.line.Line.{Line}
use Rattle.std.specs.Option.{MatchOption}
use Rattle.cache.specs.Lines.{View, view, views, nth, blank, Finds, Hits, has}

pub view_at : (ls : List Line) (i : ℕ) (l : Line) → i < length ls → l ≡ get_or ls i l → nth (views ls) i ≡ view l
view_at ls i l h e = get_or-map view ls i l blank h ∙ ap view (sym e)

pub used_at : (ls : List Line) (i : ℕ) (l : Line) → i < length ls → l ≡ get_or ls i l → get_or (map (λ x. x.used) ls) i 0 ≡ l.used
used_at ls i l h e = get_or-map (λ x. x.used) ls i l 0 h ∙ ap (λ x. x.used) (sym e)

pub views_set : (ls : List Line) (i : ℕ) (w : Line) → views (set ls i w) ≡ set (views ls) i (view w)
views_set ls i w = map-set view ls i w

pub views_kept : (ls : List Line) (i : ℕ) (l w : Line) → i < length ls → l ≡ get_or ls i l → view w ≡ view l → views (set ls i w) ≡ views ls
views_kept ls i l w h e q = views_set ls i w ∙ ap (set (views ls) i) (q ∙ sym (view_at ls i l h e)) ∙ set-get_or (views ls) i blank

-- a line that was changed by f, as far as it shows
pub line_set : (ls : List Line) (i : ℕ) (l w : Line) (f : View → View) → i < length ls → l ≡ get_or ls i l → view w ≡ f (view l) → views (set ls i w) ≡ set (views ls) i (f (nth (views ls) i))
line_set ls i l w f h e q = views_set ls i w ∙ ap (set (views ls) i) (q ∙ ap f (sym (view_at ls i l h e)))

pub ages_kept : (ls : List Line) (i : ℕ) (l w : Line) → i < length ls → l ≡ get_or ls i l → w.used ≡ l.used → map (λ x. x.used) (set ls i w) ≡ map (λ x. x.used) ls
ages_kept ls i l w h e q =
    map-set (λ x. x.used) ls i w ∙ ap (set (map (λ x. x.used) ls) i) (q ∙ sym (used_at ls i l h e)) ∙ set-get_or (map (λ x. x.used) ls) i 0

-- line i has the age that it was given
pub age_at : {us : List ℕ} (vs : List ℕ) (i v : ℕ) → i < length vs → us ≡ set vs i v → get_or us i 0 ≡ v
age_at vs i v h e = ap (λ l. get_or l i 0) e ∙ get_or-set_same vs i v 0 h

pub none_past : (ls : List Line) (k : ℕ) → length ls ≤ k → nth (views ls) k ≡ blank
none_past ls k h = get_or_past (views ls) k blank (let e = length-map ls view in omega arith)

-- what is shown of each place below i, shown of each
pub all_below : (ls : List Line) (P : View → Type 0) → P blank → ((k : ℕ) → k < length ls → P (nth (views ls) k)) → (k : ℕ) → P (nth (views ls) k)
all_below ls P z h k = ⊎_elim (h k) (λ q. rw (none_past ls k q) z) (cases_lt k (length ls))

-- what holds of a line, told of what it shows
pub shown_at : (ls : List Line) (P : View → Type 0) (i : ℕ) → i < length ls → HoldsAt (λ l. P (view l)) ls i → P (nth (views ls) i)
shown_at [] P i h p = absurd (omega arith)
shown_at (l ∷ ls) P zero h p = p l
shown_at (l ∷ ls) P (suc i) h p = shown_at ls P i (omega arith) p

-- what the first line has that passes a test, or no line has, told of what they show
pub first_shown : (ls : List Line) (Yes No : View → Type 0) (r : Option ℕ) → No blank
    → MatchOption r (AllWithin (λ l. No (view l)) ls 0 (length ls)) (λ i. (i < length ls) × HoldsAt (λ l. Yes (view l)) ls i × AllWithin (λ l. No (view l)) ls 0 i)
    → MatchOption r ((k : ℕ) → No (nth (views ls) k)) (λ i. (i < length (views ls)) × Yes (nth (views ls) i))
first_shown ls Yes No None z m = all_below ls No z (λ k l. shown_at ls No k l (λ d. m k d (omega arith) l))
first_shown ls Yes No (Some i) z m = let e = length-map ls view in (omega (arith, m.0), shown_at ls Yes i m.0 m.1)

-- the first line that has a block
pub finds : (ls : List Line) (b : ℕ) (r : Option ℕ) → MatchOption r ((k : ℕ) → (nth (views ls) k).block ≡ b → b ≡ 0) (λ i. (i < length (views ls)) × ((nth (views ls) i).block ≡ b)) → Finds (views ls) b r
finds ls b None m = λ ne k e. ne (m k e)
finds ls b (Some i) m = m

pub blank_has : (b place : ℕ) → has blank b place ≡ false
blank_has b place = and_right (0 == b) (nat_lt place 0) (le-ltb place 0 (omega arith))

-- the first line that has a word
pub hits : (ls : List Line) (lost : Bool) (b place : ℕ) (r : Option ℕ) → lost ≡ false → b ≢ 0
    → MatchOption r ((k : ℕ) → has (nth (views ls) k) b place ≡ false) (λ i. (i < length (views ls)) × (has (nth (views ls) i) b place ≡ true))
    → Hits lost (views ls) b place r
hits ls lost b place None up ne m = λ _ _ k e.
    let v = nth (views ls) k in
    ⊎_elim (λ l. absurd (both_ways _ (m k) (and_from _ _ (eq-eqb v.block b e) (lt-ltb place (length v.words) l)))) (λ l. l) (cases_lt place (length v.words))
hits ls lost b place (Some i) up ne m =
    let v = nth (views ls) i in
    let p = and_parts (v.block == b) (nat_lt place (length v.words)) m.1 in
    record { up = up; some = ne; line = m.0; block = eqb-true v.block b p.0; within = ltb-true place (length v.words) p.1 }

-- a line's block, in a table with the same lines
pub block_at : {us vs : List View} {a b : ℕ} (i : ℕ) → us ≡ vs → (nth us i).block ≡ a → a ≡ b → (nth vs i).block ≡ b
block_at i e q r = ap (λ ws. (nth ws i).block) (sym e) ∙ q ∙ r

-- a line's word, in a table with the same lines
pub word_at : {us vs : List View} {v : ℕ} (i j place : ℕ) → us ≡ vs → v ≡ get_or (nth us j).words place 0 → j ≡ i → v ≡ get_or (nth vs i).words place 0
word_at {us} {vs} i j place e q r = q ∙ ap (λ ws. get_or (nth ws j).words place 0) e ∙ ap (λ k. get_or (nth vs k).words place 0) r
