use Rattle.std.proofs.Common.{◌≡◌, [], ◌∷◌, ◌++◌, get_or, ◌∙◌, rules}
use Rattle.std.specs.List.{flat_map}
use Rattle.keys.specs.Documents.{bytes_of, bytes_of_all}
use Rattle.keys.specs.Alike.{documents}
use Rattle.keys.proofs.kinds.DocumentNameKey.from_words.Goals as goal

pub returns : goal.returns
returns c =
    let ws = c.args.words.now in
    let a : c.to_be_bytes.result ≡ bytes_of (get_or ws 0 0) = search rules in
    let b : c.to_be_bytes-2.result ≡ bytes_of (get_or ws 1 0) = search rules in
    let d : c.to_be_bytes-3.result ≡ bytes_of (get_or ws 2 0) = search rules in
    let e : c.to_be_bytes-4.result ≡ bytes_of (get_or ws 3 0) = search rules in
    let joined : flat_map (λ x. x) (c.to_be_bytes.result ∷ c.to_be_bytes-2.result ∷ c.to_be_bytes-3.result ∷ c.to_be_bytes-4.result ∷ []) ≡ bytes_of_all ws = λ i. a i ++ (b i ++ (d i ++ (e i ++ []))) in
    documents _ _ (c.from.ensures ∙ c.copy_from_slice.ensures.after ∙ c.as_flattened.ensures.value ∙ joined)
