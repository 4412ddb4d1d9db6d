-- Parts of an entry read from its block.
use Rattle.std.proofs.Common.{◌≡◌, ℕ, ◌+◌, ◌<◌, ◌≤◌, List, length, get_or, ap, ◌∙◌, arith}
use Rattle.std.proofs.lemmas.List.FromFn.{fill_by_all}
use Rattle.nodes.specs.Places.{Form, key_at}
use Rattle.nodes.specs.Nodes.{entry_at}

-- all of them: the key's words
pub read_all : {K : Type 0} (unpacked : List ℕ → K) (φ : Form) (i n : ℕ) (β : ℕ → ℕ) (ws : List ℕ) (x : K) → length ws ≡ φ.words → φ.words ≤ n → ((y : ℕ) → y < n → get_or ws y 0 ≡ β (key_at φ i + y)) → x ≡ unpacked ws → x ≡ unpacked (entry_at φ β i).key
unfolding entry_at
read_all unpacked φ i n β ws x e l h r = r ∙ ap unpacked (fill_by_all (λ y. β (key_at φ i + y)) ws φ.words 0 e (λ y z. h y (omega arith)))
