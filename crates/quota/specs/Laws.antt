-- The laws of a quota.
use Rattle.std.specs.Prelude.{ℕ}
use Rattle.std.proofs.Common.{arith}
use Rattle.store.specs.Meaning.{Meaning, Sound}
use Rattle.quota.specs.Quota.{under}

-- a quota over a well-formed store is well formed
pub under_sound : {m : Meaning} (q : ℕ) → Sound m → Sound (under q m)
under_sound q s = record {
  some_width = s.some_width;
  width_bound = s.width_bound;
  capacity_bound = omega (arith, s.capacity_bound);
  none_at_zero = s.none_at_zero;
  none_past = s.none_past;
  unused = s.unused;
  past_width = s.past_width;
}
