-- When a store's blocks hold a tree: its header's words, its nodes, and nothing else granted.
use Rattle.std.specs.Prelude.{◌≡◌, ℕ, ◌<◌, ◌∷◌, slice_index}
use Rattle.store.specs.Meaning.{Meaning}
use Rattle.nodes.specs.declared.header.Header.{Header}
use Rattle.nodes.specs.Headers.{header_words}
use Rattle.tree.specs.Tree.{Tree}
use Rattle.held.specs.Held.{Kind, feet, times, bit}
use Rattle.held.specs.Roots.{Stands, tree_of}

module _ {K : Type 0} (κ : Kind K) where
  -- the first words of block b are this header's
  abbrev pub Headed : ℕ → Header → Meaning → Type 0
  Headed b h m = (j : ℕ) → j < 4 → m.words b j ≡ slice_index (header_words κ.form.words h) j

  -- The blocks hold the tree t: the header, in block b, says where its root stands and how many keys it has, and the blocks granted are the
  -- header's and the nodes', each once.
  pub record HoldsTree (b : ℕ) (h : Header) (t : Tree K) (m : Meaning) : Type 0 where
    pub stands : Stands κ h m
    pub tree_is : tree_of κ m.words h ≡ t
    pub headed : Headed b h m
    pub exact : (c : ℕ) → times c (b ∷ feet κ m.words h.root.level h.root.block) ≡ bit (m.granted c)
