-- What the way of a key shows before an insertion.
use Rattle.std.specs.Prelude.{ℕ, ◌*◌, cond, ◌≤◌, Option, Result, Some, None, nat_lt}
use Rattle.store.specs.Meaning.{Meaning, free}
use Rattle.store.specs.declared.fault.Fault.{Fault}
use Rattle.copies.specs.Work.{Work}
use Rattle.nodes.specs.declared.node.Node.{Node}
use Rattle.nodes.specs.declared.header.Header.{Header}
use Rattle.plain.specs.Plain.{present, refuses_insert}
use Rattle.tree.specs.Tree.{index_shape, index_unit, content}
use Rattle.tree.specs.Counts.{full_below, taken}
use Rattle.held.specs.Held.{Kind, node}
use Rattle.held.specs.Roots.{Rooted, Tells, pairs_below, tree_of}

module _ {K : Type 0} (κ : Kind K) where
  -- how many nodes below this one are full on the way of k, or nothing where k is present
  abbrev pub surveyed : Node → K → Meaning → Option ℕ
  surveyed b k m = cond (present κ.order k (pairs_below κ b m)) None (Some (full_below κ.order index_unit b.level k (node κ m.words b.level b.block)))

  -- a tree that keeps the rules stands below this node, which is no higher than a root may be
  pub record Lowly (b : Node) (m : Meaning) : Type 0 where
    pub sits : Rooted κ b m
    pub low : b.level ≤ index_shape.top

  -- where such a tree stands, the answer is that and nothing changed, or the store said 'down'
  abbrev pub Surveys : Node → K → Meaning → Result (Option ℕ) Fault → Meaning → Type 0
  Surveys b k = Work (Lowly b) (Tells (surveyed b k))

  -- why an insertion of k is refused
  abbrev pub refusal : Header → K → Meaning → Option ℕ
  refusal h k m =
      let t = tree_of κ m.words h in
      refuses_insert κ.order (8 * index_unit index_shape.top) k (nat_lt (free m) (taken κ.order index_unit k t)) (content K t)
