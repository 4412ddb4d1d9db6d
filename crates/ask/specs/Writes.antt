-- Pairs written into the next places of lent keys and lent handles, one part of a tree after the other.
use Rattle.std.specs.Prelude.{◌≡◌, ℕ, zero, suc, ◌+◌, ◌<◌, ◌≤◌, ◌⊎◌, List, [], ◌∷◌, ◌++◌, map, length, take, drop, Ok, Err, Result}
use Rattle.store.specs.Meaning.{Meaning}
use Rattle.store.specs.Calls.{Lost}
use Rattle.store.specs.declared.fault.Fault.{Fault}
use Rattle.nodes.specs.Places.{breadth}
use Rattle.nodes.specs.declared.node.Node.{Node}
use Rattle.plain.specs.Plain.{rank}
use Rattle.plain.specs.declared.pair.Pair.{Pair}
use Rattle.tree.specs.Lists.{joined}
use Rattle.tree.specs.Tree.{pairs}
use Rattle.held.specs.Held.{Kind, node, feet, Whole, Owned}
use Rattle.held.specs.Roots.{pairs_below}

-- what lent keys and lent handles hold, and how many of their first places are written
pub record Lent (K : Type 0) : Type 0 where
  pub keys : List K
  pub handles : List ℕ
  pub written : ℕ

abbrev pub lent : {K : Type 0} → List K → List ℕ → ℕ → Lent K
lent ks hs n = record { keys = ks; handles = hs; written = n }

-- ys with xs in the places from d on, as many as there are places
abbrev pub laid : {X : Type 0} → ℕ → List X → List X → List X
laid d xs [] = []
laid (suc d) xs (y ∷ ys) = y ∷ laid d xs ys
laid zero [] (y ∷ ys) = y ∷ ys
laid zero (x ∷ xs) (y ∷ ys) = x ∷ laid zero xs ys

module _ {K : Type 0} where
  -- the pairs ps were written, in the next places of both
  pub record Wrote (ps : List (Pair K)) (s t : Lent K) : Type 0 where
    pub keys : t.keys ≡ laid s.written (map (λ p. p.key) ps) s.keys
    pub handles : t.handles ≡ laid s.written (map (λ p. p.handle) ps) s.handles
    pub written : t.written ≡ s.written + length ps

  -- the first of the pairs ps were written
  pub record Part (ps : List (Pair K)) (s t : Lent K) : Type 0 where
    pub first : List (Pair K)
    pub rest : List (Pair K)
    pub is : first ++ rest ≡ ps
    pub wrote : Wrote first s t

  -- all of them, or as many as there was room for
  pub record Fills (ps : List (Pair K)) (s t : Lent K) : Type 0 where
    pub part : Part ps s t
    pub all : (part.rest ≡ []) ⊎ (t.written ≡ length t.keys)

  -- where P held at the start these pairs were written and no block changed, or the store said 'down' after the first of them
  abbrev pub Writes : (Meaning → Type 0) → (Meaning → List (Pair K)) → Lent K → Lent K → Meaning → Result (Unit {0}) Fault → Meaning → Type 0
  Writes P ps s t m (Ok _) n = P m → Fills (ps m) s t × (n ≡ m)
  Writes P ps s t m (Err f) n = P m → Part (ps m) s t × Lost m f n

module _ {K : Type 0} (κ : Kind K) where
  -- a node of level l stands in block b, in blocks of its own
  pub record Stored (l b : ℕ) (m : Meaning) : Type 0 where
    pub wide : breadth κ.form ≤ m.shape.width
    pub whole : Whole κ m.words l b
    pub owned : Owned m (feet κ m.words l b)

  -- such a node, with an entry at place i
  pub record StoredAt (l b i : ℕ) (m : Meaning) : Type 0 where
    pub stored : Stored l b m
    pub has : i < m.words b 1

  -- its pairs from the entry at place i on
  abbrev pub pairs_after : ℕ → ℕ → ℕ → Meaning → List (Pair K)
  pairs_after l b i m = joined (pairs K l) (drop i (node κ m.words l b))

  -- those of the entry at place i alone
  abbrev pub pairs_at : ℕ → ℕ → ℕ → Meaning → List (Pair K)
  pairs_at l b i m = joined (pairs K l) (take 1 (drop i (node κ m.words l b)))

  -- the pairs below a node with keys from low on
  abbrev pub pairs_from : Node → K → Meaning → List (Pair K)
  pairs_from b low m = drop (rank κ.order low (pairs_below κ b m)) (pairs_below κ b m)
