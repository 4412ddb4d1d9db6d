use Rattle.std.proofs.Common.{◌≡◌, ◌%◌, ◌^◌, ◌<◌, get_or, ap, ◌∙◌, arith, w64, to_z, of_z, rules}
use Rattle.keys.specs.Stamps.{unbiased}
use Rattle.keys.specs.Alike.{stamps}
use Rattle.keys.proofs.kinds.DueStampKey.from_words.Goals as goal

pub returns : goal.returns
returns c =
    let f : c.word_at-first.result < 2 ^ 64 = search rules in
    let h : c.word_at-second.result < 2 ^ 64 = search rules in
    let z : to_z w64 (of_z w64 c.to_minute.result) ≡ c.to_minute.result = search rules in
    let m : c.word_at-first.result ≡ get_or c.args.words.now 0 0 % 2 ^ 64 = omega (arith, c.word_at-first.ensures) in
    stamps _ _ (z ∙ c.to_minute.ensures ∙ ap unbiased m) (omega (arith, c.word_at-second.ensures))
