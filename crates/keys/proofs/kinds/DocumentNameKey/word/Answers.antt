use Rattle.std.proofs.Common.{◌≡◌, ◌<◌, slice_index_or, ap, ◌∙◌, rules, [], w64}
use Rattle.std.specs.Int.{from_be_bytes}
use Rattle.std.specs.Simd.{first_chunks}
use Rattle.keys.specs.Bytes.{chunk_of, word_of}
use Rattle.keys.proofs.kinds.DocumentNameKey.word.Goals as goal

pub returns-in-Some : goal.returns-in-Some
returns-in-Some c =
    let bs = c.args.self.now.bytes in
    let few : c.args.i < 4 = search rules in
    let at : c.in-Some.word.now ≡ slice_index_or (first_chunks 8 4 bs) c.args.i [] = search rules in
    c.from_be_bytes.ensures ∙ ap (from_be_bytes w64) at ∙ chunk_of bs c.args.i [] c.args.self.now.long few ∙ word_of bs c.args.i few
