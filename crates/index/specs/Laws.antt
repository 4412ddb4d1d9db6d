-- How many blocks of an index's store are granted, and what a full leaf root does to them.
use Rattle.std.specs.Prelude.{◌≡◌, ℕ, false, Some}
use Rattle.store.specs.Meaning.{Meaning, count, free}
use Rattle.plain.specs.Plain.{present}
use Rattle.tree.specs.Tree.{Tree, adds, size, content}
use Rattle.tree.specs.Counts.{blocks}
use Rattle.balance.specs.declared.marks.Marks.{Marks}
use Rattle.held.specs.Held.{Kind}
use Rattle.index.specs.Open.{Open}
use Rattle.index.specs.Updated.{refuses, Accepts}
use Rattle.index.specs.declared.index.Index.{Index}

module _ {K S : Type 0} (κ : Kind K) (meaning : S → Meaning) (ready : S → Type 0) where
  -- the blocks granted are as many as the tree has nodes, and one for the header
  abbrev pub BlocksGranted : Type 0
  BlocksGranted = (i : Index K S) (t : Tree K) → Open κ meaning ready i t → count (meaning i.store) ≡ blocks K t

  -- Two blocks are granted, and four after an insertion. While one block is free, an insertion of an absent key is refused with 6.
  pub record TwoToFour (i : Index K S) (t : Tree K) : Type 0 where
    pub two : count (meaning i.store) ≡ 2
    pub four : (k : K) (h : ℕ) (marks : Marks) (j : Index K S) → Accepts κ meaning ready (adds k h) t i marks j → count (meaning j.store) ≡ 4
    pub six : (k : K) (h : ℕ) → present κ.order k (content K t) ≡ false → free (meaning i.store) ≡ 1 → refuses κ (adds k h) (free (meaning i.store)) t ≡ Some 6

  -- so it is while the tree is a leaf of 64 keys
  abbrev pub FullLeafRoot : Type 0
  FullLeafRoot = (i : Index K S) (t : Tree K) → Open κ meaning ready i t → t.level ≡ 0 → size K t ≡ 64 → TwoToFour i t
