-- An index whose blocks hold a tree, and what a question to it tells.
use Rattle.std.specs.Prelude.{◌≡◌, false, List, None, Some, Ok, Err, Result}
use Rattle.store.specs.Meaning.{Meaning}
use Rattle.store.specs.Calls.{Lost}
use Rattle.store.specs.declared.fault.Fault.{Fault}
use Rattle.plain.specs.declared.pair.Pair.{Pair}
use Rattle.tree.specs.Tree.{Tree, content}
use Rattle.held.specs.Held.{Kind}
use Rattle.index.specs.Holds.{HoldsTree}
use Rattle.index.specs.declared.index.Index.{Index}

-- header, tree and tally are as they were
pub record SameHandle {K S : Type 0} (i j : Index K S) : Type 0 where
  pub same_header : j.header ≡ i.header
  pub same_tree : j.tree ≡ i.tree
  pub same_tally : j.tally ≡ i.tally

module _ {K S : Type 0} (κ : Kind K) (meaning : S → Meaning) (ready : S → Type 0) where
  -- the index i can be used, and its blocks hold the tree t: its store is ready and up, and it met no fault
  pub record Open (i : Index K S) (t : Tree K) : Type 0 where
    pub is_ready : ready i.store
    pub is_up : (meaning i.store).down ≡ false
    pub no_fault : i.fault ≡ None
    pub holds : HoldsTree κ i.header i.tree.header t (meaning i.store)

  -- the store of i said 'down' with the fault f, as it raised it, and the index j remembers f
  pub record Falls (i : Index K S) (f : Fault) (j : Index K S) : Type 0 where
    pub lost : Lost (meaning i.store) f (meaning j.store)
    pub remembered : j.fault ≡ Some f
    pub is_ready : ready j.store

  -- an answer of the pairs of t, which the blocks still hold: the store means what it meant
  pub record Answers {A : Type 0} (value : List (Pair K) → A) (t : Tree K) (i : Index K S) (a : A) (j : Index K S) : Type 0 where
    pub value_is : a ≡ value (content K t)
    pub still : Open j t
    pub same : meaning j.store ≡ meaning i.store

  -- a question to an index whose blocks hold t
  abbrev pub Queried : {A : Type 0} → (List (Pair K) → A) → Index K S → Result A Fault → Index K S → Type 0
  Queried value i (Ok a) j = (t : Tree K) → Open i t → Answers value t i a j
  Queried value i (Err f) j = (t : Tree K) → Open i t → Falls i f j
