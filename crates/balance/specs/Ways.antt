-- The way down from a node.
use Rattle.std.specs.Prelude.{◌≡◌, ℕ, ◌-◌, ◌<◌, List}
use Rattle.std.specs.declared.cmp.Ordering.{Ordering}
use Rattle.store.specs.Meaning.{Meaning}
use Rattle.nodes.specs.Places.{Form, block_number}
use Rattle.nodes.specs.Nodes.{Node, entry_at}
use Rattle.nodes.specs.Finds.{Found}
use Rattle.balance.specs.declared.way.Way.{Way}

-- block b is a node with an entry or more
pub record Peopled (φ : Form) (b : ℕ) (m : Meaning) : Type 0 where
  pub node : Node φ b m
  pub some : 0 < m.words b 1

-- the way of q leads to the last entry whose key is at most q, or the first: `upto` of the keys are at most q
pub record Led {K : Type 0} (φ : Form) (order : K → K → Ordering) (unpacked : List ℕ → K) (b : ℕ) (q : K) (m : Meaning) (w : Way) (n : Meaning) : Type 0 where
  pub upto : ℕ
  pub found : Found φ order unpacked b q m upto n
  pub place : w.place ≡ upto - 1
  pub child : w.child.block ≡ block_number (entry_at φ (m.words b) w.place).child
