-- What the steps of an insertion promise.
use Rattle.std.specs.Prelude.{◌≡◌, ℕ, suc, ◌+◌, ◌*◌, ◌<◌, ◌≤◌, true, cond, [], ◌∷◌}
use Rattle.std.specs.Ordering.{ord_min}
use Rattle.std.specs.List.{AllByRecursion}
use Rattle.store.specs.Meaning.{Meaning, limit, free}
use Rattle.nodes.specs.declared.node.Node.{Node}
use Rattle.nodes.specs.Nodes.{Node as IsNode, entry_at}
use Rattle.tree.specs.declared.mark.Mark.{Mark}
use Rattle.tree.specs.declared.mark.Mark.TheVariants.{Nothing, Split}
use Rattle.tree.specs.Tree.{index_shape, index_unit, Item, weight, Fit, over, grown, left, right, ins, ins_mark}
use Rattle.tree.specs.Counts.{full_below}
use Rattle.balance.specs.declared.way.Way.{Way}
use Rattle.balance.specs.declared.marks.Marks.{Marks}
use Rattle.balance.specs.Marks.{mark_at}
use Rattle.held.specs.Held.{Kind, node, feet, smallest_words, Whole, Owned, Step, Sits}
use Rattle.held.specs.Exchange.{Exchanged}

module _ {K : Type 0} (κ : Kind K) where
  -- a node that keeps the rules, with blocks free for the splits below it
  pub record Roomy (b : Node) (k : K) (m : Meaning) : Type 0 where
    pub sits : Sits κ index_unit m b.level b.block
    pub low : b.level ≤ index_shape.top
    pub room : full_below κ.order index_unit b.level k (node κ m.words b.level b.block) ≤ free m

  -- block b holds what an insertion makes of its node: all below it rebalanced, it itself not yet
  pub record Grew (b : Node) (k : K) (h : ℕ) (m : Meaning) (marks : Marks) (n : Meaning) : Type 0 where
    pub node_is : node κ n.words b.level b.block ≡ ins κ.order index_unit b.level k h (node κ m.words b.level b.block)
    pub whole : Whole κ n.words b.level b.block
    pub step : Step m n (feet κ m.words b.level b.block) (feet κ n.words b.level b.block)
    pub spent : free n + full_below κ.order index_unit b.level k (node κ m.words b.level b.block) ≡ free m
    pub marked : (j : ℕ) → mark_at marks j ≡ ins_mark κ.order index_unit j b.level k h (node κ m.words b.level b.block)

  -- the child that a way leads to
  abbrev pub led : Meaning → (w : Way) → Item K (suc w.child.level)
  led m w = node κ m.words w.child.level w.child.block

  -- a child that one key was put into, in blocks of its own; its parent's entry names it
  pub record Heavier (w : Way) (m : Meaning) : Type 0 where
    pub parent : IsNode κ.form w.parent m
    pub within : w.place < m.words w.parent 1
    pub names : (entry_at κ.form (m.words w.parent) w.place).child ≡ w.child.block
    pub number : w.child.block ≤ limit
    pub low : w.child.level ≤ index_shape.top
    pub whole : Whole κ m.words w.child.level w.child.block
    pub owned : Owned m (w.parent ∷ feet κ m.words w.child.level w.child.block)
    pub fits : AllByRecursion (Fit K index_unit w.child.level) (led m w)
    pub heavy : 2 * index_unit w.child.level ≤ weight K (suc w.child.level) (led m w)
    pub light : weight K (suc w.child.level) (led m w) ≤ suc (8 * index_unit w.child.level)
    pub room : over K index_unit w.child.level (led m w) ≡ true → (0 < free m) × (m.words w.parent 1 < κ.form.places)

  -- its entry still has weight and smallest key of before k went in
  pub record Due (w : Way) (k : K) (m : Meaning) : Type 0 where
    pub child : Heavier w m
    pub weighs : suc (entry_at κ.form (m.words w.parent) w.place).weight ≡ weight K (suc w.child.level) (led m w)
    pub starts : smallest_words κ (suc w.child.level) (led m w) ≡ κ.packed (ord_min κ.order (κ.unpacked (entry_at κ.form (m.words w.parent) w.place).key) k)

  -- it is too heavy, and its smallest key is low
  pub record TooHeavy (w : Way) (low : K) (m : Meaning) : Type 0 where
    pub child : Heavier w m
    pub over : over K index_unit w.child.level (led m w) ≡ true
    pub starts : smallest_words κ (suc w.child.level) (led m w) ≡ κ.packed low

  -- the child's entry gave way to its own new one, or to those of the two that it was split into
  pub record Settled (w : Way) (m : Meaning) (mark : Mark) (n : Meaning) : Type 0 where
    pub entry : Exchanged κ w.parent w.place 1 w.child.level (feet κ m.words w.child.level w.child.block) (grown K index_unit w.child.level (led m w)) m n
    pub spent : free n + cond (over K index_unit w.child.level (led m w)) 1 0 ≡ free m
    pub marked : mark ≡ cond (over K index_unit w.child.level (led m w)) Split Nothing

  -- a root that weighs one key more than it may
  pub record Tall (b : Node) (keys : ℕ) (m : Meaning) : Type 0 where
    pub room : IsNode κ.form b.block m
    pub number : b.block ≤ limit
    pub whole : Whole κ m.words b.level b.block
    pub owned : Owned m (feet κ m.words b.level b.block)
    pub fits : AllByRecursion (Fit K index_unit b.level) (node κ m.words b.level b.block)
    pub weighs : weight K (suc b.level) (node κ m.words b.level b.block) ≡ suc keys
    pub full : keys ≡ 8 * index_unit b.level
    pub low : b.level < index_shape.top
    pub free : 2 ≤ free m

  -- its two halves stand under a new root
  pub record Raised (b : Node) (m : Meaning) (top : Node) (n : Meaning) : Type 0 where
    pub node_is : node κ n.words (suc b.level) top.block ≡ left K index_unit b.level (node κ m.words b.level b.block) ∷ right K index_unit b.level (node κ m.words b.level b.block) ∷ []
    pub whole : Whole κ n.words (suc b.level) top.block
    pub step : Step m n (feet κ m.words b.level b.block) (feet κ n.words (suc b.level) top.block)
    pub spent : free n + 2 ≡ free m
