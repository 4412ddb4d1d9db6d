-- The order and the packing of a due stamp.
use Rattle.std.specs.Prelude.{ℕ, suc, ◌-◌, ◌%◌, ◌^◌, ◌<◌, Bool, true, false, cond, List, [], ◌∷◌, ℤ, pos, negsuc, ◌+ℤ◌, ◌-ℤ◌, nat_lt, slice_index, unsigned_abs}
use Rattle.std.specs.declared.cmp.Ordering.{Ordering}
use Rattle.std.proofs.Common.{mod-lt, arith, lit<}
use Rattle.std.specs.Int.Signed.{mag}
use Rattle.std.specs.Ordering.{ordering_then, nat_cmp, int_cmp}
use Rattle.keys.specs.declared.stamp.DueStamp.{DueStamp}

-- by minute, then by serial
abbrev pub order : DueStamp → DueStamp → Ordering
order x y = ordering_then (int_cmp x.minute y.minute) (nat_cmp x.serial y.serial)

-- a minute as a word: minute + 2^63, and back
abbrev pub biased : ℤ → ℕ
biased m = unsigned_abs (m +ℤ pos (2 ^ 63))

abbrev pub unbiased : ℕ → ℤ
unbiased w = pos w -ℤ pos (2 ^ 63)

abbrev pub packed : DueStamp → List ℕ
packed x = biased x.minute ∷ x.serial ∷ []

either_fits : (b : Bool) (n : ℕ) → n < 2 ^ 64 → mag (cond b (negsuc (2 ^ 63 - suc n)) (pos (n - 2 ^ 63))) < 2 ^ 63
either_fits true n h = omega arith
either_fits false n h = omega arith

pub minute_fits : (w : ℕ) → mag (unbiased (w % 2 ^ 64)) < 2 ^ 63
minute_fits w = either_fits (nat_lt (w % 2 ^ 64) (2 ^ 63)) (w % 2 ^ 64) (mod-lt w (lit< tt))

pub serial_fits : (w : ℕ) → w % 2 ^ 64 < 2 ^ 64
serial_fits w = mod-lt w (lit< tt)

abbrev pub unpacked : List ℕ → DueStamp
unpacked ws = record {
  minute = unbiased (slice_index ws 0 % 2 ^ 64);
  serial = slice_index ws 1 % 2 ^ 64;
  fits = (minute_fits (slice_index ws 0), serial_fits (slice_index ws 1));
}
