-- A table: blocks whose words stand one block after another.
use Rattle.std.specs.Prelude.{◌≡◌, ℕ, suc, ◌+◌, ◌-◌, ◌*◌, ◌/◌, ◌<◌, ◌≤◌, List, length, Err, ◌≢◌}
use Rattle.std.proofs.Common.{refl, ap, ⊎_elim, arith, suc-mul, mul-le-mul_right, div-mul-le_self}
use Rattle.std.proofs.lemmas.Bool.{cases_lt, cases_eq}
use Rattle.store.specs.Meaning.{Sound, limit}
use Rattle.store.specs.declared.fault.Fault.{Fault}
use Rattle.store.specs.declared.fault.Refused.{Refused}
use Rattle.stores.specs.declared.lent.LentStore.{LentStore}
use Rattle.stores.specs.declared.lent.Runs.{Runs}
use Rattle.stores.specs.Table.{in_row, table, most_blocks}
use Rattle.stores.specs.Rows.{rows_plan, Fits}
use Rattle.stores.specs.Opened.{means, StillMeans}
use Rattle.stores.specs.Laws.Laid.{Lies, laid_sound}
use Rattle.stores.specs.Laws.Plans.{Lawful}

-- where the words of a block end
pub block_end : (w b c : ℕ) → 1 ≤ b → b ≤ c → (b - 1) * w + w ≤ c * w
block_end w b c l h =
    let k : suc (b - 1) ≤ c = omega arith in
    omega (arith, suc-mul (b - 1) w, mul-le-mul_right w k)

-- words of two blocks stand apart, and so do two words of one block
pub row_apart : (w a b i j : ℕ) → 1 ≤ a → 1 ≤ b → i < w → j < w → in_row w a i ≡ in_row w b j → (a ≡ b) × (i ≡ j)
row_apart w a b i j la lb hi hj e =
    ⊎_elim (λ (q : a ≡ b). (q, omega (arith, ap (λ k. (k - 1) * w) q))) (λ (ne : a ≡ b → ⊥). absurd (two ne)) (cases_eq a b)
  where
    two : (a ≢ b) → ⊥
    two ne =
        ⊎_elim
        (λ q. omega (arith, block_end w a (b - 1) la (omega arith)))
        (λ q. omega (arith, block_end w b (a - 1) lb (omega arith)))
        (cases_lt a b)

-- the most blocks that runs hold lie within them
pub most_fits : (w c m n : ℕ) → c ≡ most_blocks w m n → (c ≤ limit) × (c ≤ m) × (c * w ≤ n)
most_fits w c m n e =
    let k : c ≤ n / w = omega arith in
    (omega arith, omega arith, omega (arith, mul-le-mul_right w k, div-mul-le_self n w))

-- what a table keeps
pub fits_lies : {w c g : ℕ} {marks ws : List ℕ} → Fits w c g marks ws → Lies (in_row w) w c g marks ws
fits_lies {w} {c} {g} {marks} {ws} f =
    let r = most_fits w c (length marks) (length ws) f.whole in
    record {
      wide = f.wide;
      narrow = f.narrow;
      few = r.0;
      marked = r.1;
      inside = λ b p l h k. omega (arith, block_end w b c l h, r.2);
      apart = λ a b i j la ha lb hb hi hj e. row_apart w a b i j la lb hi hj e;
      counted = f.counted;
    }

-- a table that keeps its state means a sound store
pub fits_sound : {w c g : ℕ} {marks ws : List ℕ} → Fits w c g marks ws → Sound (table w c marks ws)
fits_sound f = laid_sound (fits_lies f)

-- the laws of a table
pub rows_lawful : Lawful rows_plan
rows_lawful = record {
  lies = λ f. fits_lies f;
  spared = λ s b. let h = b.no_width s.wide in absurd (omega (arith, s.narrow));
}

-- what a store means whose words stand in rows
pub table_means : {L : Type 0} (s : LentStore L) → means (λ l. rows_plan) s ≡ table s.width s.grants.capacity s.grants.marks.now s.words.now
table_means s = refl

-- such a store is never refused when it is opened again
pub table_reopens : {L : Type 0} (s : LentStore L) (u : Refused Fault (Runs L)) → StillMeans (λ l. rows_plan) s (Err u) → ⊥
table_reopens s u h = h.cause
