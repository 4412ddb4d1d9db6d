use Rattle.std.proofs.Common.{◌^◌, refl, sym, ◌∙◌}
use Rattle.std.specs.Ordering.{ordering_then, nat_cmp}
use Rattle.keys.proofs.Digits.{leading, then_equal, biased_rank, bytes_rank}
use Rattle.keys.proofs.kinds.words_in_order.Goals as goal

pub returns : goal.returns
returns c = record {
  checkpoint_order = refl;
  stamp_order = refl;
  document_order = refl;
  checkpoints = λ x y. then_equal _ ∙ sym (leading (2 ^ 32) x.case y.case x.step y.step x.fits.1 y.fits.1);
  stamps = λ x y. (λ i. ordering_then (biased_rank x.minute y.minute x.fits.0 y.fits.0 i) (then_equal (nat_cmp x.serial y.serial) i));
  documents = λ x y. bytes_rank x.bytes y.bytes x.long y.long x.fits y.fits;
}
