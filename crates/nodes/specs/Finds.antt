-- The search for a key in a node.
use Rattle.std.specs.Prelude.{◌≡◌, ℕ, ◌-◌, ◌<◌, ◌≤◌, List, map, length, take, drop, ◌≢◌}
use Rattle.std.specs.declared.cmp.Ordering.TheVariants.{Greater}
use Rattle.std.specs.declared.cmp.Ordering.{Ordering}
use Rattle.std.specs.List.{AllByRecursion}
use Rattle.store.specs.Meaning.{Meaning}
use Rattle.keys.specs.Sorted.{Ascending}
use Rattle.nodes.specs.Places.{Form}
use Rattle.nodes.specs.Nodes.{Entry, entry_at, entries}

-- the key at place i of a block with the words β
abbrev pub key_of : {K : Type 0} → Form → (List ℕ → K) → (ℕ → ℕ) → ℕ → K
key_of φ unpacked β i = unpacked (entry_at φ β i).key

-- the keys of entries
abbrev pub keys_in : {K : Type 0} → (List ℕ → K) → List Entry → List K
keys_in unpacked xs = map (λ e. unpacked e.key) xs

-- of n keys in any order: the one before place r is not above q, and the one at place r is
pub record Sought {K : Type 0} (order : K → K → Ordering) (key : ℕ → K) (n : ℕ) (q : K) (r : ℕ) : Type 0 where
  pub within : r ≤ n
  pub last : 0 < r → order (key (r - 1)) q ≢ Greater
  pub next : r < n → order (key r) q ≡ Greater

-- r keys are at most q, and they are the first; all others are above q
pub record SplitAt {K : Type 0} (order : K → K → Ordering) (keys : List K) (q : K) (r : ℕ) : Type 0 where
  pub within : r ≤ length keys
  pub first : AllByRecursion (λ x. order x q ≢ Greater) (take r keys)
  pub rest : AllByRecursion (λ x. order x q ≡ Greater) (drop r keys)

-- r is the place of q among the keys of block b, and nothing changed
pub record Found {K : Type 0} (φ : Form) (order : K → K → Ordering) (unpacked : List ℕ → K) (b : ℕ) (q : K) (m : Meaning) (r : ℕ) (n : Meaning) : Type 0 where
  pub same : n ≡ m
  pub sought : Sought order (key_of φ unpacked (m.words b)) (m.words b 1) q r
  pub split : Ascending order (keys_in unpacked (entries φ (m.words b))) → SplitAt order (keys_in unpacked (entries φ (m.words b))) q r
