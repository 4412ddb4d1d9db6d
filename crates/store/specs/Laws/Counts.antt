-- The laws of a count of grants.
use Rattle.std.specs.Prelude.{◌≡◌, ℕ, zero, suc, ◌+◌, ◌<◌, ◌≤◌, Bool, true, false, cond, ◌≢◌, refl}
use Rattle.std.proofs.Common.{ap, ap₂, ◌∙◌, ⊎_elim, arith, add-one}
use Rattle.std.proofs.lemmas.Bool.{cases_eq}
use Rattle.store.specs.Meaning.{count_to, with_at}
use Rattle.store.specs.Laws.Changes.{with_at_here, with_at_other}

-- 1 for a grant
abbrev pub bit : Bool → ℕ
bit t = cond t 1 0

bit_bound : (t : Bool) → bit t ≤ 1
bit_bound true = omega arith
bit_bound false = omega arith

-- no number is counted
pub count_none : (g : ℕ → Bool) → count_to g 0 ≡ 0
unfolding count_to
count_none g = refl

-- one number more
pub count_suc : (g : ℕ → Bool) (n : ℕ) → count_to g (suc n) ≡ bit (g (suc n)) + count_to g n
unfolding count_to
count_suc g n = refl

-- a count is at most what it went over
pub count_bound : (g : ℕ → Bool) (n : ℕ) → count_to g n ≤ n
count_bound g zero = omega (arith, count_none g)
count_bound g (suc n) = omega (arith, count_suc g n, bit_bound (g (suc n)), count_bound g n)

-- grants that agree up to n
pub count_same : (f g : ℕ → Bool) (n : ℕ) → ((b : ℕ) → 1 ≤ b → b ≤ n → f b ≡ g b) → count_to f n ≡ count_to g n
unfolding count_to
count_same f g zero e = refl
count_same f g (suc n) e =
    ap₂ (λ t k. bit t + k) (e (suc n) (omega arith) (omega arith)) (count_same f g n (λ b l h. e b l (omega arith)))

-- a change past n
pub count_before : (g : ℕ → Bool) (b : ℕ) (v : Bool) (n : ℕ) → n < b → count_to (with_at g b v) n ≡ count_to g n
count_before g b v n h = count_same (with_at g b v) g n (λ a l k. with_at_other g b v a (omega arith))

change_here : (g : ℕ → Bool) (b : ℕ) (v : Bool) (n : ℕ) → suc n ≡ b → count_to (with_at g b v) (suc n) + bit (g b) ≡ count_to g (suc n) + bit v
change_here g b v n q =
    let x = ap bit (ap (with_at g b v) q ∙ with_at_here g b v) in
    let y = ap (λ a. bit (g a)) q in
    omega (arith, count_suc (with_at g b v) n, count_suc g n, count_before g b v n (omega arith), x, y)

change_on : (g : ℕ → Bool) (b : ℕ) (v : Bool) (n : ℕ) → (suc n ≢ b) → count_to (with_at g b v) n + bit (g b) ≡ count_to g n + bit v → count_to (with_at g b v) (suc n) + bit (g b) ≡ count_to g (suc n) + bit v
change_on g b v n ne r =
    let x = ap bit (with_at_other g b v (suc n) ne) in
    omega (arith, count_suc (with_at g b v) n, count_suc g n, x, r)

-- a change within n
pub count_change : (g : ℕ → Bool) (b : ℕ) (v : Bool) (n : ℕ) → 1 ≤ b → b ≤ n → count_to (with_at g b v) n + bit (g b) ≡ count_to g n + bit v
count_change g b v zero low h = absurd (omega arith)
count_change g b v (suc n) low h =
    ⊎_elim (change_here g b v n) (λ ne. change_on g b v n ne (count_change g b v n low (omega arith))) (cases_eq (suc n) b)

-- one grant more
pub count_more : (g : ℕ → Bool) (b n : ℕ) → 1 ≤ b → b ≤ n → g b ≡ false → count_to (with_at g b true) n ≡ count_to g n + 1
count_more g b n low h e = let x = ap bit e in omega (arith, count_change g b true n low h, x)

-- one grant less
pub count_less : (g : ℕ → Bool) (b n : ℕ) → 1 ≤ b → b ≤ n → g b ≡ true → count_to (with_at g b false) n + 1 ≡ count_to g n
count_less g b n low h e = let x = ap bit e in omega (arith, count_change g b false n low h, x)

-- every number granted
pub count_full : (g : ℕ → Bool) (n : ℕ) → ((b : ℕ) → 1 ≤ b → b ≤ n → g b ≡ true) → count_to g n ≡ n
count_full g zero h = count_none g
count_full g (suc n) h =
    let x = ap bit (h (suc n) (omega arith) (omega arith)) in
    omega (arith, count_suc g n, x, count_full g n (λ b l k. h b l (omega arith)))

past_on : (g : ℕ → Bool) (c n : ℕ) → g (suc n) ≡ false → count_to g n ≡ count_to g c → count_to g (suc n) ≡ count_to g c
past_on g c n e r = let x = ap bit e in omega (arith, count_suc g n, x, r)

-- no number past c granted
pub count_past : (g : ℕ → Bool) (c n : ℕ) → c ≤ n → ((b : ℕ) → c < b → b ≤ n → g b ≡ false) → count_to g n ≡ count_to g c
count_past g c zero k h = let z : zero ≡ c = omega arith in ap (count_to g) z
count_past g c (suc n) k h =
    ⊎_elim (λ q. ap (count_to g) q) (λ ne. past_on g c n (h (suc n) (omega arith) (omega arith)) (count_past g c n (omega arith) (λ b l j. h b l (omega arith)))) (cases_eq (suc n) c)

-- a loop's step at a grant
pub count_on : (g : ℕ → Bool) (i n : ℕ) → g (i + 1) ≡ true → n ≡ count_to g i → n + 1 ≡ count_to g (i + 1)
count_on g i n e h =
    let x = ap bit (rw add-one at e) in
    let y = ap (count_to g) (add-one i) in
    omega (arith, count_suc g i, x, y)

-- a loop's step past a number that is not granted
pub count_off : (g : ℕ → Bool) (i n : ℕ) → g (i + 1) ≡ false → n ≡ count_to g i → n ≡ count_to g (i + 1)
count_off g i n e h =
    let x = ap bit (rw add-one at e) in
    let y = ap (count_to g) (add-one i) in
    omega (arith, count_suc g i, x, y)
