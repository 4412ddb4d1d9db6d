-- What each call of a store of marks and words answers, wherever the words of its blocks stand.
use Rattle.std.proofs.Common.{◌≡◌, ℕ, ◌+◌, ◌-◌, ◌<◌, ◌≤◌, true, false, List, get_or, set, sym, refl, ap, ◌∙◌, arith}
use Rattle.store.specs.declared.fault.Refusal.TheVariants.{NoRoom}
use Rattle.store.specs.Meaning.{Meaning}
use Rattle.store.specs.Calls.{Kept, TakeDone, TakeFails, GiveDone, GetDone, SetDone}
use Rattle.store.specs.Calls.TakeFails.{take_full}
use Rattle.stores.specs.Table.{in_use, laid, wiped}
use Rattle.stores.specs.Located.{Found}
use Rattle.stores.specs.Laws.Laid.{Lies, free_from, word_used, laid_set, laid_give, laid_take}

-- the store was up, and stays as it is
abbrev up : (m : Meaning) → m.down ≡ false → Kept m m
up m e = record { was_up = e; same = refl }

module _ {at : ℕ → ℕ → ℕ} {w c g : ℕ} {marks ws : List ℕ} (f : Lies at w c g marks ws) where
  -- a word read
  pub got : {b place i v : ℕ} → Found at w c marks b place i → v ≡ get_or ws i 0 → GetDone (laid at w c marks ws) b place v (laid at w c marks ws)
  got {b} {place} h r = record {
    was_up = refl;
    granted = h.granted;
    within = h.within;
    value = r ∙ ap (λ i. get_or ws i 0) h.at_is ∙ sym (word_used at w c marks ws b place h.granted h.within);
    same = refl;
  }

  -- a word changed
  pub put : {n : Meaning} {b place i v : ℕ} → Found at w c marks b place i → n ≡ laid at w c marks (set ws i v) → SetDone (laid at w c marks ws) b place v n
  put {b = b} {place} {v = v} h e = record {
    was_up = refl;
    granted = h.granted;
    within = h.within;
    after = e ∙ ap (λ i. laid at w c marks (set ws i v)) h.at_is ∙ laid_set f b place v h.granted h.within;
  }

  -- a block given back
  pub gave : {n : Meaning} {b : ℕ} → in_use c marks b ≡ true → n ≡ laid at w c (set marks (b - 1) 0) ws → GiveDone (laid at w c marks ws) b n
  gave {b = b} u e = record { was_up = refl; granted = u; after = e ∙ laid_give f b u }

  -- every block granted
  pub no_room : c ≤ g → TakeFails NoRoom 0 (laid at w c marks ws) (laid at w c marks ws)
  no_room h = take_full refl refl (omega (arith, f.counted)) (up (laid at w c marks ws) refl)

  -- a block taken, at the slot p
  module _ (p : ℕ) (low : p < c) (unused : get_or marks p 0 ≡ 0) where
    back : p ≡ p + 1 - 1
    back = omega arith

    pub was_free : in_use c marks (p + 1) ≡ false
    was_free = free_from c marks (p + 1) (ap (λ q. get_or marks q 0) (sym back) ∙ unused)

    pub took : {n : Meaning} → g < c → n ≡ laid at w c (set marks p 1) (wiped (at (p + 1)) w ws) → TakeDone (laid at w c marks ws) (p + 1) n
    took few e = record {
      was_up = refl;
      had_room = omega (arith, f.counted);
      was_free = was_free;
      low = omega arith;
      high = omega (arith, f.few);
      after = e ∙ ap (λ q. laid at w c (set marks q 1) (wiped (at (p + 1)) w ws)) back ∙ laid_take f (p + 1) (omega arith) (omega arith);
    }
