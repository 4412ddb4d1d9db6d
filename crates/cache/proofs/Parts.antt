-- A block written word by word, and read word by word.
use Rattle.std.proofs.Common.{◌≡◌, ℕ, ◌+◌, ◌<◌, ◌≤◌, cond, ltb, List, length, get_or, sym, ap, ◌∙◌, ⊎_elim, arith}
use mathlib.Core.Path.{fun_ext}
use Rattle.std.proofs.lemmas.List.{get_or_past}
use Rattle.std.proofs.lemmas.Bool.{cases_lt, lt-ltb, le-ltb, cond-true, cond-false}
use Rattle.store.specs.Meaning.{Meaning, Sound, with_at, with_block, written}
use Rattle.store.specs.Calls.{SetDone}
use Rattle.store.specs.Laws.Changes.{with_at_from, block_same, block_written}
use Rattle.cache.specs.Cache.{word_of}

-- the first i words of a list, then other words
unfoldable pub front : ℕ → List ℕ → (ℕ → ℕ) → ℕ → ℕ
front i ws β p = cond (ltb p i) (get_or ws p 0) (β p)

front_in : (i : ℕ) (ws : List ℕ) (β : ℕ → ℕ) (p : ℕ) → p < i → front i ws β p ≡ get_or ws p 0
unfolding front
front_in i ws β p h = cond-true _ _ _ (lt-ltb p i h)

front_past : (i : ℕ) (ws : List ℕ) (β : ℕ → ℕ) (p : ℕ) → i ≤ p → front i ws β p ≡ β p
unfolding front
front_past i ws β p h = cond-false _ _ _ (le-ltb p i h)

front_none : (ws : List ℕ) (β : ℕ → ℕ) → front 0 ws β ≡ β
front_none ws β = fun_ext (λ p. front_past 0 ws β p (omega arith))

front_more : (i : ℕ) (ws : List ℕ) (β : ℕ → ℕ) → with_at (front i ws β) i (get_or ws i 0) ≡ front (i + 1) ws β
front_more i ws β =
    sym (with_at_from (front i ws β) i (front (i + 1) ws β) (get_or ws i 0) (front_in (i + 1) ws β i (omega arith))
    (λ p ne. ⊎_elim (λ l. front_in (i + 1) ws β p (omega arith) ∙ sym (front_in i ws β p l))
    (λ l. front_past (i + 1) ws β p (omega arith) ∙ sym (front_past i ws β p l))
    (cases_lt p i)))

front_all : (i : ℕ) (ws : List ℕ) (β : ℕ → ℕ) → length ws ≡ i → ((p : ℕ) → i ≤ p → β p ≡ 0) → front i ws β ≡ word_of ws
front_all i ws β e z =
    fun_ext (λ p. ⊎_elim (front_in i ws β p) (λ l. front_past i ws β p l ∙ z p l ∙ sym (get_or_past ws p 0 (omega arith))) (cases_lt p i))

-- m with the first i words of block b written
abbrev pub part : Meaning → ℕ → List ℕ → ℕ → Meaning
part m b ws i = with_block m b (front i ws (m.words b))

pub part_none : (m : Meaning) (b : ℕ) (ws : List ℕ) → m ≡ part m b ws 0
part_none m b ws = sym (ap (with_block m b) (front_none ws (m.words b)) ∙ block_same m b)

pub part_more : (m : Meaning) {k n : Meaning} {b i v : ℕ} (ws : List ℕ) → k ≡ part m b ws i → v ≡ get_or ws i 0 → SetDone k b i v n → n ≡ part m b ws (i + 1)
part_more m {b = b} {i} {v} ws e q d =
    d.after
    ∙ ap (λ k. written k b i v) e
    ∙ block_written m b (front i ws (m.words b)) i v
    ∙ ap (λ x. with_block m b (with_at (front i ws (m.words b)) i x)) q
    ∙ ap (with_block m b) (front_more i ws (m.words b))

pub part_all : {m : Meaning} (b : ℕ) (ws : List ℕ) (i : ℕ) → Sound m → length ws ≡ m.shape.width → i ≡ length ws → part m b ws i ≡ with_block m b (word_of ws)
part_all {m} b ws i s w e = ap (with_block m b) (front_all i ws (m.words b) (sym e) (λ p l. s.past_width b p (omega (arith, l, w, e))))

-- xs is the first i words of β
abbrev pub Fronts : ℕ → List ℕ → (ℕ → ℕ) → Type 0
Fronts i xs β = (p : ℕ) → p < i → get_or xs p 0 ≡ β p
