-- What a report answers, and what it leaves in the lent keys and handles.
use Rattle.std.specs.Prelude.{◌≡◌, ℕ, ◌≤◌, List, length, take, Ok, Err, Result}
use Rattle.store.specs.Meaning.{Meaning}
use Rattle.store.specs.Calls.{Lost}
use Rattle.nodes.specs.declared.node.Node.{Node}
use Rattle.plain.specs.Plain.{within, reports, over}
use Rattle.held.specs.Held.{Kind}
use Rattle.held.specs.Roots.{Rooted, pairs_below}
use Rattle.ask.specs.declared.report.Stopped.{Stopped}

module _ {K : Type 0} (κ : Kind K) where
  -- so many pairs stand from low to high, and as many as fit were written
  pub record Reported (b : Node) (low high : K) (ks : List K) (hs : List ℕ) (ks' : List K) (hs' : List ℕ) (m : Meaning) (n : ℕ) (m' : Meaning) : Type 0 where
    pub told : reports κ.order low high (pairs_below κ b m) ks hs ≡ (Ok n, ks', hs')
    pub same : m' ≡ m

  -- the store said 'down' when so many pairs were written: the first that stand from low to high, and no other place was
  pub record Halted (b : Node) (low high : K) (ks : List K) (hs : List ℕ) (ks' : List K) (hs' : List ℕ) (m : Meaning) (e : Stopped) (m' : Meaning) : Type 0 where
    pub lost : Lost m e.fault m'
    pub few : e.written ≤ length (within κ.order low high (pairs_below κ b m))
    pub fits : e.written ≤ length ks
    pub keys : ks' ≡ over (λ p. p.key) (take e.written (within κ.order low high (pairs_below κ b m))) ks
    pub handles : hs' ≡ over (λ p. p.handle) (take e.written (within κ.order low high (pairs_below κ b m))) hs

  -- where a tree stands below the root its pairs from low to high are reported, or the store said 'down'
  abbrev pub Reports : Node → K → K → List K → List ℕ → List K → List ℕ → Meaning → Result ℕ Stopped → Meaning → Type 0
  Reports b low high ks hs ks' hs' m (Ok n) m' = Rooted κ b m → Reported b low high ks hs ks' hs' m n m'
  Reports b low high ks hs ks' hs' m (Err e) m' = Rooted κ b m → Halted b low high ks hs ks' hs' m e m'
