-- Lists of a function's values: parts, joins and an insertion are such lists again.
use Rattle.std.proofs.Common.{◌≡◌, ℕ, ◌+◌, ◌-◌, ◌<◌, ◌≤◌, [], ◌∷◌, ◌++◌, length, get_or, take, drop, sym, ap, ◌∙◌, ap₂, ⊎_elim, arith}
use Rattle.std.proofs.lemmas.List.{same_lists, length-append, get_or_append_left, get_or-append_right, drop_at}
use Rattle.std.proofs.lemmas.List.FromFn.{length-map-range_with_len, get_or-map-range_with_len, take-map-range_with_len}
use Rattle.std.proofs.lemmas.Bool.{cases_lt}
use Rattle.nodes.specs.Nodes.{upto}

pub length_upto : {X : Type 0} (n : ℕ) (f : ℕ → X) → length (upto n f) ≡ n
length_upto n f = length-map-range_with_len f 0 n

pub get_or_upto : {X : Type 0} (n : ℕ) (f : ℕ → X) (j : ℕ) (d : X) → j < n → get_or (upto n f) j d ≡ f j
get_or_upto n f j d h = get_or-map-range_with_len f 0 n j j d h (omega arith)

-- equal values, equal lists
pub upto_same : {X : Type 0} (n : ℕ) (f g : ℕ → X) → ((j : ℕ) → j < n → f j ≡ g j) → upto n f ≡ upto n g
upto_same n f g h =
    same_lists _ _ (length_upto n f ∙ sym (length_upto n g)) (λ j d l.
    let lt : j < n = omega (arith, length_upto n f) in
    get_or_upto n f j d lt ∙ h j lt ∙ sym (get_or_upto n g j d lt))

pub upto_join : {X : Type 0} (m n : ℕ) (f : ℕ → X) → upto m f ++ upto n (λ j. f (m + j)) ≡ upto (m + n) f
upto_join m n f =
    let g : ℕ → _ = λ j. f (m + j) in
    let lf = length_upto m f in
    let lg = length_upto n g in
    let la = length-append (upto m f) (upto n g) in
    let lj = length_upto (m + n) f in
    same_lists _ _ (omega arith) (λ j d h.
    let whole = get_or_upto (m + n) f j d (omega arith) in
    ⊎_elim
    (λ (x : j < m). get_or_append_left (upto m f) (upto n g) d j (omega arith) ∙ get_or_upto m f j d x ∙ sym whole)
    (λ (x : m ≤ j). get_or-append_right (upto m f) (upto n g) m j d lf x ∙ get_or_upto n g (j - m) d (omega arith) ∙ ap f (omega arith) ∙ sym whole)
    (cases_lt j m))

pub take_upto : {X : Type 0} (i n : ℕ) (f : ℕ → X) → i ≤ n → take i (upto n f) ≡ upto i f
take_upto i n f l = take-map-range_with_len f 0 n i l

pub drop_upto : {X : Type 0} (i n : ℕ) (f : ℕ → X) → i ≤ n → drop i (upto n f) ≡ upto (n - i) (λ j. f (i + j))
drop_upto i n f l =
    let whole : upto n f ≡ upto (i + (n - i)) f = ap (λ z. upto z f) (omega arith) in
    ap (drop i) (whole ∙ sym (upto_join i (n - i) f)) ∙ drop_at (upto i f) (upto (n - i) (λ j. f (i + j))) i (length_upto i f)

pub upto_insert : {X : Type 0} (n i : ℕ) (x : X) (f g : ℕ → X) → i ≤ n → ((j : ℕ) → j < i → g j ≡ f j) → g i ≡ x → ((j : ℕ) → i ≤ j → j < n → g (j + 1) ≡ f j) → upto (n + 1) g ≡ take i (upto n f) ++ (x ∷ drop i (upto n f))
upto_insert n i x f g l low here high =
    let whole : upto (n + 1) g ≡ upto (i + (1 + (n - i))) g = ap (λ z. upto z g) (omega arith) in
    let front : upto i g ≡ take i (upto n f) = upto_same i g f low ∙ sym (take_upto i n f l) in
    let mid : upto 1 (λ j. g (i + j)) ≡ x ∷ [] = ap (λ z. g z ∷ []) (omega arith) ∙ ap (λ z. z ∷ []) here in
    let back : upto (n - i) (λ j. g (i + (1 + j))) ≡ drop i (upto n f) = upto_same (n - i) _ _ (λ j h. ap g (omega arith) ∙ high (i + j) (omega arith) (omega arith)) ∙ sym (drop_upto i n f l) in
    whole ∙ sym (upto_join i (1 + (n - i)) g) ∙ ap₂ ◌++◌ front (sym (upto_join 1 (n - i) (λ j. g (i + j))) ∙ ap₂ ◌++◌ mid back)
