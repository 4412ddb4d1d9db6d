-- The order and the packing of a checkpoint.
use Rattle.std.specs.Prelude.{ℕ, ◌+◌, ◌*◌, ◌/◌, ◌%◌, ◌^◌, ◌<◌, List, [], ◌∷◌, slice_index}
use Rattle.std.specs.declared.cmp.Ordering.{Ordering}
use Rattle.std.proofs.Common.{mod-lt, lit<}
use Rattle.std.specs.Ordering.{ordering_then, nat_cmp}
use Rattle.keys.specs.declared.checkpoint.Checkpoint.{Checkpoint}

-- by case, then by step
abbrev pub order : Checkpoint → Checkpoint → Ordering
order x y = ordering_then (nat_cmp x.case y.case) (nat_cmp x.step y.step)

abbrev pub packed : Checkpoint → List ℕ
packed x = (x.case * 2 ^ 32 + x.step) ∷ []

pub below : (n : ℕ) → n % 2 ^ 32 < 2 ^ 32
below n = mod-lt n (lit< tt)

abbrev pub unpacked : List ℕ → Checkpoint
unpacked ws = record {
  case = slice_index ws 0 / 2 ^ 32 % 2 ^ 32;
  step = slice_index ws 0 % 2 ^ 32;
  fits = (below (slice_index ws 0 / 2 ^ 32), below (slice_index ws 0));
}
