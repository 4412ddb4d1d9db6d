-- What the steps of a deletion promise.
use Rattle.std.specs.Prelude.{◌≡◌, ℕ, suc, ◌+◌, ◌*◌, ◌<◌, ◌≤◌, true, cond, List, [], take, drop, is_some, Option}
use Rattle.std.specs.List.{AllByRecursion}
use Rattle.store.specs.Meaning.{Meaning, limit}
use Rattle.nodes.specs.declared.node.Node.{Node}
use Rattle.nodes.specs.declared.header.Header.{Header}
use Rattle.nodes.specs.Nodes.{Node as IsNode, entry_at, entries}
use Rattle.plain.specs.Plain.{refuses_delete}
use Rattle.tree.specs.declared.mark.Mark.{Mark}
use Rattle.tree.specs.declared.mark.Mark.TheVariants.{Nothing}
use Rattle.tree.specs.Lists.{onto}
use Rattle.tree.specs.Tree.{index_shape, index_unit, Item, weight, Fit, under, size, fused_mark, mended, del, del_mark, lowered, content}
use Rattle.tree.specs.Queries.{find_down}
use Rattle.balance.specs.declared.way.Way.{Way}
use Rattle.balance.specs.declared.update.Tree.{Tree}
use Rattle.balance.specs.declared.marks.Marks.{Marks}
use Rattle.balance.specs.Marks.{mark_at}
use Rattle.held.specs.Held.{Kind, node, feet, Right, Whole, Owned, Step}
use Rattle.held.specs.Roots.{Rooted, tree_of}

module _ {K : Type 0} (κ : Kind K) where
  -- the child that a way leads to
  abbrev pub led : (w : Way) → Meaning → Item K (suc w.child.level)
  led w m = node κ m.words w.child.level w.child.block

  -- its parent's children before it, the nearest first
  abbrev pub lefts : (w : Way) → Meaning → List (Item K (suc w.child.level))
  lefts w m = onto (take w.place (node κ m.words (suc w.child.level) w.parent)) []

  -- and those after it
  abbrev pub rights : (w : Way) → Meaning → List (Item K (suc w.child.level))
  rights w m = drop (w.place + 1) (node κ m.words (suc w.child.level) w.parent)

  -- A parent whose child lost a key: every entry but the child's is right, and the child's has weight and smallest key of before.
  pub record Stale (w : Way) (m : Meaning) : Type 0 where
    pub parent : IsNode κ.form w.parent m
    pub level : m.words w.parent 0 ≡ suc w.child.level
    pub two : 2 ≤ m.words w.parent 1
    pub within : w.place < m.words w.parent 1
    pub names : (entry_at κ.form (m.words w.parent) w.place).child ≡ w.child.block
    pub number : w.child.block ≤ limit
    pub low : w.child.level ≤ index_shape.top
    pub before : AllByRecursion (Right κ m.words (suc w.child.level)) (take w.place (entries κ.form (m.words w.parent)))
    pub after : AllByRecursion (Right κ m.words (suc w.child.level)) (drop (w.place + 1) (entries κ.form (m.words w.parent)))
    pub fits_before : AllByRecursion (Fit K index_unit (suc w.child.level)) (take w.place (node κ m.words (suc w.child.level) w.parent))
    pub fits_after : AllByRecursion (Fit K index_unit (suc w.child.level)) (rights w m)
    pub weighs : (entry_at κ.form (m.words w.parent) w.place).weight ≡ suc (weight K (suc w.child.level) (led w m))
    pub whole : Whole κ m.words w.child.level w.child.block
    pub fits : AllByRecursion (Fit K index_unit w.child.level) (led w m)
    pub heavy : 2 * index_unit w.child.level ≤ suc (weight K (suc w.child.level) (led w m))
    pub light : weight K (suc w.child.level) (led w m) ≤ 8 * index_unit w.child.level
    pub owned : Owned m (feet κ m.words (suc w.child.level) w.parent)

  -- the parent's children now are those that a deletion from this child leaves
  pub record Mended (w : Way) (m : Meaning) (mark : Mark) (n : Meaning) : Type 0 where
    pub node_is : node κ n.words (suc w.child.level) w.parent ≡ mended K index_unit w.child.level (lefts w m) (led w m) (rights w m)
    pub whole : Whole κ n.words (suc w.child.level) w.parent
    pub step : Step m n (feet κ m.words (suc w.child.level) w.parent) (feet κ n.words (suc w.child.level) w.parent)
    pub marked : mark ≡ cond (under K index_unit w.child.level (led w m)) (fused_mark K index_unit w.child.level (lefts w m) (led w m) (rights w m)) Nothing

  -- a node that keeps the rules and has the key
  pub record Holding (b : Node) (k : K) (m : Meaning) : Type 0 where
    pub sits : Rooted κ b m
    pub low : b.level ≤ index_shape.top
    pub has : is_some (find_down κ.order b.level k (node κ m.words b.level b.block)) ≡ true

  -- block b holds what a deletion makes of its node: all below it rebalanced, it itself not yet
  pub record Shrank (b : Node) (k : K) (m : Meaning) (marks : Marks) (n : Meaning) : Type 0 where
    pub node_is : node κ n.words b.level b.block ≡ del κ.order index_unit b.level k (node κ m.words b.level b.block)
    pub whole : Whole κ n.words b.level b.block
    pub step : Step m n (feet κ m.words b.level b.block) (feet κ n.words b.level b.block)
    pub marked : (j : ℕ) → mark_at marks j ≡ del_mark κ.order index_unit j b.level k (node κ m.words b.level b.block)

  -- a root that lost a key: its children are rebalanced, and the header's keys are what it weighs
  pub record Topped (h : Header) (m : Meaning) : Type 0 where
    pub room : IsNode κ.form h.root.block m
    pub whole : Whole κ m.words h.root.level h.root.block
    pub owned : Owned m (feet κ m.words h.root.level h.root.block)
    pub fits : AllByRecursion (Fit K index_unit h.root.level) (node κ m.words h.root.level h.root.block)
    pub keys : h.keys ≡ size K (tree_of κ m.words h)
    pub low : h.root.level ≤ index_shape.top

  -- with one child left it gave way to it
  pub record Lowered (h : Header) (m : Meaning) (r : Tree) (n : Meaning) : Type 0 where
    pub tree_is : tree_of κ n.words r.header ≡ lowered K h.root.level (node κ m.words h.root.level h.root.block)
    pub whole : Whole κ n.words r.header.root.level r.header.root.block
    pub step : Step m n (feet κ m.words h.root.level h.root.block) (feet κ n.words r.header.root.level r.header.root.block)
    pub keys : r.header.keys ≡ size K (tree_of κ n.words r.header)

  -- why a deletion of k is refused
  abbrev pub refusal : Header → K → Meaning → Option ℕ
  refusal h k m = refuses_delete κ.order k (content K (tree_of κ m.words h))
