-- What an update makes of an index, or why it is refused.
use Rattle.std.specs.Prelude.{◌≡◌, ℕ, ◌*◌, None, Some, Ok, Err, Option, Result, nat_lt}
use Rattle.store.specs.Meaning.{Meaning, free}
use Rattle.store.specs.Faults.{number_of}
use Rattle.store.specs.declared.fault.Fault.{Fault}
use Rattle.nodes.specs.declared.header.Header.{Header}
use Rattle.plain.specs.Plain.{refuses_insert, refuses_delete, one_more}
use Rattle.tree.specs.Tree.{Tree, Update, adds, drops, index_shape, index_unit, content, updated, mark}
use Rattle.tree.specs.Counts.{taken}
use Rattle.balance.specs.Marks.{mark_at}
use Rattle.balance.specs.Updates.{own_refusal, Decided}
use Rattle.balance.specs.declared.marks.Marks.{Marks}
use Rattle.balance.specs.declared.update.Updated.{Updated}
use Rattle.held.specs.Held.{Kind}
use Rattle.held.specs.Roots.{tree_of}
use Rattle.index.specs.Holds.{HoldsTree}
use Rattle.index.specs.Open.{SameHandle, Open, Falls}
use Rattle.index.specs.declared.index.Index.{Index}

module _ {K : Type 0} (κ : Kind K) where
  -- Why an update of the tree t is refused while n blocks are free: for a reason of the plain list, which an insertion tells that there is no
  -- room if fewer blocks are free than it takes: one for each full node on its path, one more if the root is full.
  abbrev pub refuses : Update K → ℕ → Tree K → Option ℕ
  refuses (adds k h) n t = refuses_insert κ.order (8 * index_unit index_shape.top) k (nat_lt n (taken κ.order index_unit k t)) (content K t)
  refuses (drops k) n t = refuses_delete κ.order k (content K t)

  -- the blocks hold what the update makes of their tree, its header in the same block, with the update's marks
  pub record Rewritten (at : ℕ) (h : Header) (u : Update K) (m : Meaning) (r : Updated) (n : Meaning) : Type 0 where
    pub holds : HoldsTree κ at r.tree.header (updated κ.order index_unit (tree_of κ m.words h) u) n
    pub marks_are : (j : ℕ) → mark_at r.marks j ≡ mark κ.order index_unit j (tree_of κ m.words h) u
    pub same_down : n.down ≡ m.down
    pub same_shape : n.shape ≡ m.shape
    pub same_below : n.below ≡ m.below

  -- an update of blocks that hold a tree, its header in block `at`
  abbrev pub Rewrites : ℕ → Header → Update K → Meaning → Result Updated Fault → Meaning → Type 0
  Rewrites at h u = Decided (λ m. HoldsTree κ at h (tree_of κ m.words h) m) (λ m. refuses u (free m) (tree_of κ m.words h)) (Rewritten at h u)

  module _ {S : Type 0} (meaning : S → Meaning) (ready : S → Type 0) where
    -- the update of t was made: the index j's blocks hold what it makes of t, it answers its marks, and one update more is tallied
    pub record Accepts (u : Update K) (t : Tree K) (i : Index K S) (marks : Marks) (j : Index K S) : Type 0 where
      pub no_reason : refuses u (free (meaning i.store)) t ≡ None
      pub holds_new : Open κ meaning ready j (updated κ.order index_unit t u)
      pub marks_are : (l : ℕ) → mark_at marks l ≡ mark κ.order index_unit l t u
      pub tally_is : j.tally ≡ one_more i.tally
      pub same_header : j.header ≡ i.header
      pub same_shape : (meaning j.store).shape ≡ (meaning i.store).shape

    -- it was refused for a reason of the index's own, and nothing changed
    pub record Refuses (u : Update K) (t : Tree K) (i : Index K S) (f : Fault) (j : Index K S) : Type 0 where
      pub reason : refuses u (free (meaning i.store)) t ≡ Some (number_of f.refusal)
      pub own : f ≡ own_refusal f.refusal
      pub still : Open κ meaning ready j t
      pub same : meaning j.store ≡ meaning i.store
      pub same_handle : SameHandle i j

    -- why an update was not made
    pub data NotUpdated (u : Update K) (t : Tree K) (i : Index K S) (f : Fault) (j : Index K S) : Type 0 where
      update_fell : Falls κ meaning ready i f j → NotUpdated u t i f j
      update_refused : Refuses u t i f j → NotUpdated u t i f j

    -- an update of an index whose blocks hold t
    abbrev pub Updates : Update K → Index K S → Result Marks Fault → Index K S → Type 0
    Updates u i (Ok marks) j = (t : Tree K) → Open κ meaning ready i t → Accepts u t i marks j
    Updates u i (Err f) j = (t : Tree K) → Open κ meaning ready i t → NotUpdated u t i f j
