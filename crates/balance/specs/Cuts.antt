-- What a node's entries weigh, and where a node is cut.
use Rattle.std.specs.Prelude.{◌≡◌, ℕ, zero, suc, ◌^◌, ◌<◌, ◌≤◌, List, map, take, drop, slice_index}
use Rattle.store.specs.Meaning.{Meaning}
use Rattle.nodes.specs.Places.{Form}
use Rattle.nodes.specs.Nodes.{Entry, Node, entry_at, entries}
use Rattle.tree.specs.Lists.{total}
use Rattle.tree.specs.Laws.{Largest}
use Rattle.balance.specs.declared.cut.Cut.{Cut}
use Rattle.balance.specs.declared.cut.Halves.{Halves}

-- what an entry adds to a node of level l: 1 in a leaf
abbrev pub entry_weight : ℕ → Entry → ℕ
entry_weight zero e = 1
entry_weight (suc l) e = e.weight

-- what the entries of a node of level l add, one by one
abbrev pub weights : Form → ℕ → (ℕ → ℕ) → List ℕ
weights φ l β = map (entry_weight l) (entries φ β)

abbrev pub sum : List ℕ → ℕ
sum ws = total (λ (x : ℕ). x) ws

-- block b is a node of level l whose weights can be added
pub record Mild (φ : Form) (b l : ℕ) (m : Meaning) : Type 0 where
  pub node : Node φ b m
  pub each : (i : ℕ) → slice_index (weights φ l (m.words b)) i ≤ 2 ^ 40

-- such a node with n entries
pub record Counted (φ : Form) (b l n : ℕ) (m : Meaning) : Type 0 where
  pub mild : Mild φ b l m
  pub count : n ≡ m.words b 1

-- such a node with an entry at place i
pub record Weighable (φ : Form) (b l i : ℕ) (m : Meaning) : Type 0 where
  pub mild : Mild φ b l m
  pub has : i < m.words b 1

-- such a node whose n entries weigh `all`
pub record Totalled (φ : Form) (b l n all : ℕ) (m : Meaning) : Type 0 where
  pub counted : Counted φ b l n m
  pub all_is : all ≡ sum (weights φ l (m.words b))

-- such a node that weighs something
pub record Heavy (φ : Form) (b l : ℕ) (m : Meaning) : Type 0 where
  pub mild : Mild φ b l m
  pub some : 0 < sum (weights φ l (m.words b))

-- the answer is what entry i adds, and nothing changed
pub record Weighed (φ : Form) (b l i : ℕ) (m : Meaning) (w : ℕ) (n : Meaning) : Type 0 where
  pub value : w ≡ slice_index (weights φ l (m.words b)) i
  pub same : n ≡ m

-- it is what all entries add
pub record Summed (φ : Form) (b l : ℕ) (m : Meaning) (all : ℕ) (n : Meaning) : Type 0 where
  pub value : all ≡ sum (weights φ l (m.words b))
  pub same : n ≡ m

-- it is the largest cut, and what the entries before it weigh
pub record CutAt (φ : Form) (b l : ℕ) (m : Meaning) (c : Cut) (n : Meaning) : Type 0 where
  pub largest : Largest (λ (x : ℕ). x) (weights φ l (m.words b)) c.kept
  pub passed : c.passed ≡ sum (take c.kept (weights φ l (m.words b)))
  pub same : n ≡ m

-- the node is cut at the largest cut, which leaves an entry: what both parts weigh, and where the right one begins
pub record Halved {K : Type 0} (φ : Form) (unpacked : List ℕ → K) (b l : ℕ) (m : Meaning) (h : Halves K) (n : Meaning) : Type 0 where
  pub within : h.kept < m.words b 1
  pub largest : Largest (λ (x : ℕ). x) (weights φ l (m.words b)) h.kept
  pub left : h.left ≡ sum (take h.kept (weights φ l (m.words b)))
  pub right : h.right ≡ sum (drop h.kept (weights φ l (m.words b)))
  pub key : h.key ≡ unpacked (entry_at φ (m.words b) h.kept).key
  pub same : n ≡ m
