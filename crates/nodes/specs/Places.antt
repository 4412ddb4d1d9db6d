-- Where the parts of a node stand in its block: word 0 its level, word 1 its count, then the weights, the keys
-- and the children, each for as many entries as there are places.
use Rattle.std.specs.Prelude.{ℕ, ◌+◌, ◌*◌, cond, nat_le}
use Rattle.store.specs.declared.fault.Fault.{Fault}
use Rattle.store.specs.declared.fault.Refusal.TheVariants.{Damaged}
use Rattle.store.specs.Meaning.{limit}

-- how many entries a node has places for, and how many words a key takes
pub record Form : Type 0 where
  pub places : ℕ
  pub words : ℕ

-- the most entries of a node
abbrev pub most : ℕ
most = 80

-- nodes for keys of k words
abbrev pub form : ℕ → Form
form k = record { places = most; words = k }

-- where the weight of entry i stands
abbrev pub weight_at : ℕ → ℕ
weight_at i = 2 + i

-- where the key of entry i begins
abbrev pub key_at : Form → ℕ → ℕ
key_at φ i = 2 + φ.places + φ.words * i

-- where the child of entry i stands
abbrev pub child_at : Form → ℕ → ℕ
child_at φ i = 2 + φ.places + φ.words * φ.places + i

-- how many words a node takes
abbrev pub breadth : Form → ℕ
breadth φ = 2 + 2 * φ.places + φ.words * φ.places

-- a stored word as a block number: 0, which no store grants, where it is none
abbrev pub block_number : ℕ → ℕ
block_number w = cond (nat_le w limit) w 0

-- the words of block b are no node's
abbrev pub damage : ℕ → Fault
damage b = record { refusal = Damaged; block = b; depth = 0 }
