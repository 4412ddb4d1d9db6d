-- What is asked of a kind of key: a total order, and a packing into words that loses nothing.
use Rattle.std.specs.Prelude.{◌≡◌, ℕ, ◌^◌, ◌<◌, ◌≤◌, List, length}
use Rattle.std.specs.declared.cmp.Ordering.TheVariants.{Less, Equal, Greater}
use Rattle.std.specs.declared.cmp.Ordering.{Ordering}
use Rattle.std.specs.List.{AllByRecursion}
use Rattle.std.specs.Ordering.{nat_cmp}
use Rattle.std.specs.Cmp.Lexicographic.{slice_cmp}

-- an order of keys
pub record Orderly {K : Type 0} (order : K → K → Ordering) : Type 0 where
  -- a key is equal to itself
  pub same : (x : K) → order x x ≡ Equal
  -- and to no other
  pub apart : (x y : K) → order x y ≡ Equal → x ≡ y
  -- less one way exactly where it is greater the other way
  pub flips : (x y : K) → order x y ≡ Less → order y x ≡ Greater
  pub flops : (x y : K) → order x y ≡ Greater → order y x ≡ Less
  -- less is transitive
  pub chain : (x y z : K) → order x y ≡ Less → order y z ≡ Less → order x z ≡ Less

-- a word has 64 bits
abbrev pub Words : List ℕ → Type 0
Words ws = AllByRecursion (λ w. w < 2 ^ 64) ws

-- a packing into `width` words, and back
pub record Packing {K : Type 0} (width : ℕ) (packed : K → List ℕ) (unpacked : List ℕ → K) : Type 0 where
  -- one to four words
  pub some : 1 ≤ width
  pub few : width ≤ 4
  -- a key packs into that many, each a word
  pub long : (x : K) → length (packed x) ≡ width
  pub words : (x : K) → Words (packed x)
  -- each way is the inverse of the other
  pub back : (x : K) → unpacked (packed x) ≡ x
  pub forth : (ws : List ℕ) → length ws ≡ width → Words ws → packed (unpacked ws) ≡ ws

-- packed words, the first that differs deciding, stand in the order of the keys
abbrev pub InOrder : {K : Type 0} → (K → K → Ordering) → (K → List ℕ) → Type 0
InOrder {K} order packed = (x y : K) → slice_cmp nat_cmp (packed x) (packed y) ≡ order x y
