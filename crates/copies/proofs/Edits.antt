-- Edits of one block, one after another.
use Rattle.std.proofs.Common.{◌≡◌, ℕ, ◌+◌, ◌-◌, ◌<◌, ◌≤◌, ◌⊎◌, List, get_or, sym, ap, ◌∙◌, ⊎_elim, arith}
use mathlib.Core.Path.{fun_ext}
use Rattle.std.proofs.lemmas.Bool.{cases_lt, cases_eq}
use Rattle.std.proofs.lemmas.Bool.Decides.{nat_tests}
use Rattle.store.specs.Meaning.{Meaning, with_at, with_block}
use Rattle.store.specs.Calls.{SetDone}
use Rattle.copies.specs.Blocks.{edit, splice, pasted, filled}
use Rattle.copies.proofs.Changes.{with_at_here, with_at_other, splice_none, splice_up, block_self, block_over, word_over}

-- what an edit leaves
pub edit_here : (m n : Meaning) (b : ℕ) (F : (ℕ → ℕ) → ℕ → ℕ) → n ≡ edit m b F → n.words b ≡ F (m.words b)
unfolding edit
edit_here m n b F e = ap (λ z. z.words b) e ∙ with_at_here m.words b (F (m.words b))

pub edit_other : (m n : Meaning) (b c : ℕ) (F : (ℕ → ℕ) → ℕ → ℕ) → (c ≡ b → ⊥) → n ≡ edit m b F → n.words c ≡ m.words c
unfolding edit
edit_other m n b c F ne e = ap (λ z. z.words c) e ∙ with_at_other m.words b (F (m.words b)) c ne

pub edit_granted : (m n : Meaning) (b : ℕ) (F : (ℕ → ℕ) → ℕ → ℕ) → n ≡ edit m b F → n.granted ≡ m.granted
unfolding edit
edit_granted m n b F e = ap (λ z. z.granted) e

pub edit_width : (m n : Meaning) (b : ℕ) (F : (ℕ → ℕ) → ℕ → ℕ) → n ≡ edit m b F → n.shape.width ≡ m.shape.width
unfolding edit
edit_width m n b F e = ap (λ z. z.shape.width) e

pub edit_frame : (m n : Meaning) (b : ℕ) (F : (ℕ → ℕ) → ℕ → ℕ) → n ≡ edit m b F → n ≡ with_block m b (n.words b)
unfolding edit
edit_frame m n b F e = e ∙ ap (with_block m b) (sym (edit_here m n b F e))

-- a second edit of the same block
pub edit_then : (m u n : Meaning) (b : ℕ) (F G : (ℕ → ℕ) → ℕ → ℕ) → u ≡ edit m b F → n ≡ edit u b G → n ≡ edit m b (λ β. G (F β))
unfolding edit
edit_then m u n b F G e h =
    block_over m u n b (F (m.words b)) (G (F (m.words b))) e (h ∙ ap (λ z. with_block u b (G z)) (edit_here m u b F e))

-- words filled in one by one
pub filled_none : (m : Meaning) (b a : ℕ) (ws : List ℕ) → m ≡ edit m b (filled a ws 0)
unfolding edit filled
filled_none m b a ws =
    let f : ℕ → ℕ = λ p. get_or ws (p - a) 0 in
    let none : splice (m.words b) a (a + 0) f ≡ m.words b = ap (λ z. splice (m.words b) a z f) (omega arith) ∙ splice_none (m.words b) a f in
    sym (ap (with_block m b) none ∙ block_self m b)

pub filled_step : (m u n : Meaning) (b a i x : ℕ) (ws : List ℕ) → x ≡ get_or ws i 0 → u ≡ edit m b (filled a ws i) → n ≡ edit u b (λ β. with_at β (a + i) x) → n ≡ edit m b (filled a ws (i + 1))
unfolding edit filled
filled_step m u n b a i x ws read inv put =
    let f : ℕ → ℕ = λ p. get_or ws (p - a) 0 in
    let value : x ≡ f (a + i) = read ∙ ap (λ z. get_or ws z 0) (omega arith) in
    word_over m u n b (a + i) x _ inv put
    ∙ ap (λ z. with_block m b (with_at (splice (m.words b) a (a + i) f) (a + i) z)) value
    ∙ ap (with_block m b) (splice_up (m.words b) a (a + i) f (omega arith))
    ∙ ap (λ z. with_block m b (splice (m.words b) a z f)) (omega arith)

pub filled_more : (m u n : Meaning) (b a i x : ℕ) (ws : List ℕ) → x ≡ get_or ws i 0 → u ≡ edit m b (filled a ws i) → SetDone u b (a + i) x n → n ≡ edit m b (filled a ws (i + 1))
unfolding edit
filled_more m u n b a i x ws read inv put = filled_step m u n b a i x ws read inv put.after

pub pasted_in : (α β : ℕ → ℕ) (a c len p q : ℕ) → c ≤ p → p < c + len → q + c ≡ a + p → pasted α a c len β p ≡ α q
unfolding pasted splice
pasted_in α β a c len p q l m e = let z : (a + p) - c ≡ q = omega arith in grind (arith, nat_tests)

pub pasted_out : (α β : ℕ → ℕ) (a c len p : ℕ) → (p < c) ⊎ (c + len ≤ p) → pasted α a c len β p ≡ β p
unfolding pasted splice
pasted_out α β a c len p out = grind (arith, nat_tests)

-- a paste of words that are the same
pub pasted_same : (α α' β : ℕ → ℕ) (a c len : ℕ) → ((q : ℕ) → a ≤ q → q < a + len → α q ≡ α' q) → pasted α a c len β ≡ pasted α' a c len β
unfolding pasted splice
pasted_same α α' β a c len h = fun_ext (λ p. ⊎_elim (λ (x : p < c). grind (arith, nat_tests)) (λ (x : c ≤ p). ⊎_elim (λ (y : p < c + len). let e = h ((a + p) - c) (omega arith) (omega arith) in grind (arith, nat_tests)) (λ (y : c + len ≤ p). grind (arith, nat_tests)) (cases_lt p (c + len))) (cases_lt p c))

unread : (m u : Meaning) (f b q : ℕ) (F : (ℕ → ℕ) → ℕ → ℕ) → (f ≡ b → F (m.words b) q ≡ m.words b q) → u ≡ edit m b F → u.words f q ≡ m.words f q
unread m u f b q F h e =
    ⊎_elim
    (λ (x : f ≡ b). ap (λ z. u.words z q) x ∙ ap (λ z. z q) (edit_here m u b F e) ∙ h x ∙ ap (λ z. m.words z q) (sym x))
    (λ (x : f ≡ b → ⊥). ap (λ z. z q) (edit_other m u b f F x e))
    (cases_eq f b)

-- a paste from block f after an edit of block b that left the words to copy as they were
pub paste_then : (m u n : Meaning) (f b a c len : ℕ) (F : (ℕ → ℕ) → ℕ → ℕ) → u ≡ edit m b F → ((q : ℕ) → a ≤ q → q < a + len → F (m.words b) q ≡ m.words b q) → n ≡ edit u b (pasted (u.words f) a c len) → n ≡ edit m b (λ β. pasted (m.words f) a c len (F β))
paste_then m u n f b a c len F e h p =
    edit_then m u n b F (pasted (m.words f) a c len) e (p ∙ ap (edit u b) (fun_ext (λ β. pasted_same _ _ β a c len (λ q x y. unread m u f b q F (λ _. h q x y) e))))
