-- Two keys with the same parts are the same key: the facts that a key keeps have one proof each.
use Rattle.std.specs.Prelude.{◌≡◌, ℕ, ◌<◌, length, slice_index}
use mathlib.Core.HLevel.{is_prop→PathP, ×_prop}
use Rattle.std.proofs.Math.Bridge.{le_prop}
use Rattle.std.proofs.Math.Nat.{ℕ_set}
use mathlib.Core.HLevel.{Π_prop}
use Rattle.keys.specs.declared.document.DocumentName.{DocumentName}
use Rattle.keys.specs.declared.stamp.DueStamp as stamp
use Rattle.keys.specs.declared.stamp.DueStamp.{DueStamp}
use Rattle.keys.specs.declared.checkpoint.Checkpoint.{Checkpoint, fits-type}

pub checkpoints : (x y : Checkpoint) → x.case ≡ y.case → x.step ≡ y.step → x ≡ y
checkpoints x y p q = λ i. record {
  case = p i;
  step = q i;
  fits = is_prop→PathP (λ j. fits-type (p j) (q j)) (λ j. ×_prop le_prop le_prop) x.fits y.fits i;
}

pub stamps : (x y : DueStamp) → x.minute ≡ y.minute → x.serial ≡ y.serial → x ≡ y
stamps x y p q = λ i. record {
  minute = p i;
  serial = q i;
  fits = is_prop→PathP (λ j. stamp.fits-type (p j) (q j)) (λ j. ×_prop le_prop le_prop) x.fits y.fits i;
}

pub documents : (x y : DocumentName) → x.bytes ≡ y.bytes → x ≡ y
documents x y p = λ i. record {
  bytes = p i;
  long = is_prop→PathP (λ j. length (p j) ≡ 32) (λ j. ℕ_set _ _) x.long y.long i;
  fits = is_prop→PathP (λ j. (k : ℕ) → slice_index (p j) k < 256) (λ j. Π_prop (λ k. le_prop)) x.fits y.fits i;
}
