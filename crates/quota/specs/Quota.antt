-- What a quota means, from what the store below means.
use Rattle.std.specs.Prelude.{cond, ◌&&◌, ◌∷◌, ℕ, min, ◌==◌, nat_le}
use Rattle.store.specs.declared.fault.Refusal.{Refusal}
use Rattle.store.specs.declared.fault.Refusal.TheVariants.{NoRoom}
use Rattle.store.specs.Faults.{number_of, one_deeper}
use Rattle.store.specs.Meaning.{Shape, Meaning}

-- with q or more granted the quota itself has no room; every other refusal arose one layer further down
abbrev pub quota_depth : ℕ → (Refusal → ℕ → ℕ) → Refusal → ℕ → ℕ
quota_depth q depth r n = cond (number_of r == number_of NoRoom && nat_le q n) 1 (one_deeper (depth r n))

-- the smaller capacity
abbrev pub quota_shape : ℕ → Shape → Shape
quota_shape q s = record { width = s.width; capacity = min q s.capacity; depth = quota_depth q s.depth }

-- a quota of q blocks over m: the same grants, which may be more than q, and the same words
abbrev pub under : ℕ → Meaning → Meaning
under q m = record {
  shape = quota_shape q m.shape;
  below = m.shape ∷ m.below;
  granted = m.granted;
  words = m.words;
  down = m.down;
}
