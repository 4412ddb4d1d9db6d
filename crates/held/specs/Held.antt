-- When the words of a store's blocks hold a tree.
use Rattle.std.specs.Prelude.{◌≡◌, ℕ, zero, suc, ◌+◌, ◌*◌, ◌<◌, ◌≤◌, Bool, cond, List, [], ◌∷◌, map, Some, None, Option, ◌==◌}
use Rattle.std.specs.declared.cmp.Ordering.{Ordering}
use Rattle.std.specs.List.{AllByRecursion}
use Rattle.store.specs.Meaning.{Meaning, limit}
use Rattle.keys.specs.Orders.{Orderly, Packing}
use Rattle.nodes.specs.Places.{Form, form, breadth}
use Rattle.nodes.specs.Nodes.{Entry, entries}
use Rattle.plain.specs.Plain.{Sorted}
use Rattle.tree.specs.Lists.{joined}
use Rattle.tree.specs.Tree.{Item, weight, pairs, smallest, Fit, Kids}

-- what the blocks need to know of a kind of key: the form of its nodes, its order and its packing
pub record Kind (K : Type 0) : Type 0 where
  pub form : Form
  pub order : K → K → Ordering
  pub packed : K → List ℕ
  pub unpacked : List ℕ → K

-- a kind whose keys take k words
abbrev pub kind : {K : Type 0} → ℕ → (K → K → Ordering) → (K → List ℕ) → (List ℕ → K) → Kind K
kind k order packed unpacked = record { form = form k; order = order; packed = packed; unpacked = unpacked }

-- the laws of a kind
pub record Lawful {K : Type 0} (κ : Kind K) : Type 0 where
  pub ordered : Orderly κ.order
  pub packing : Packing κ.form.words κ.packed κ.unpacked

module _ {K : Type 0} (κ : Kind K) where
  -- the item of level l that an entry stands for: a pair, or the node in the block that it names
  abbrev pub item : (ℕ → ℕ → ℕ) → (l : ℕ) → Entry → Item K l
  item ω zero e = record { key = κ.unpacked e.key; handle = e.child }
  item ω (suc l) e = map (item ω l) (entries κ.form (ω e.child))

  -- the node of level l in block b
  abbrev pub node : (ℕ → ℕ → ℕ) → (l : ℕ) → ℕ → Item K (suc l)
  node ω l b = map (item ω l) (entries κ.form (ω b))

  -- the blocks of an entry's item
  abbrev pub foot : (ℕ → ℕ → ℕ) → ℕ → Entry → List ℕ
  foot ω zero e = []
  foot ω (suc l) e = e.child ∷ joined (foot ω l) (entries κ.form (ω e.child))

  -- the blocks of a node
  abbrev pub feet : (ℕ → ℕ → ℕ) → ℕ → ℕ → List ℕ
  feet ω l b = b ∷ joined (foot ω l) (entries κ.form (ω b))

  -- the words of a key, none where there is none
  abbrev pub words_of : Option K → List ℕ
  words_of None = []
  words_of (Some k) = κ.packed k

  -- the words of an item's smallest key
  abbrev pub smallest_words : (l : ℕ) → Item K l → List ℕ
  smallest_words l x = words_of (smallest K l x)

  -- an entry of a node of level l says what it should of its item: weight, smallest key, block, level and count; and so does each below it
  abbrev pub Right : (ℕ → ℕ → ℕ) → ℕ → Entry → Type 0
  Right ω zero e = Unit {0}
  Right ω (suc l) e =
      (e.weight ≡ weight K (suc l) (item ω (suc l) e)) × (e.key ≡ smallest_words (suc l) (item ω (suc l) e)) × (e.child ≤ limit)
      × (ω e.child 0 ≡ l) × (ω e.child 1 ≤ κ.form.places) × AllByRecursion (Right ω l) (entries κ.form (ω e.child))

  -- block b holds a node of level l
  abbrev pub Whole : (ℕ → ℕ → ℕ) → ℕ → ℕ → Type 0
  Whole ω l b = (ω b 0 ≡ l) × (ω b 1 ≤ κ.form.places) × AllByRecursion (Right ω l) (entries κ.form (ω b))

-- how often a number occurs
abbrev pub times : ℕ → List ℕ → ℕ
times c [] = 0
times c (d ∷ ds) = cond (c == d) 1 0 + times c ds

-- 1 for a grant
abbrev pub bit : Bool → ℕ
bit b = cond b 1 0

-- no number occurs in F more often than it is granted: not twice, and not at all if it isn't granted
abbrev pub Owned : Meaning → List ℕ → Type 0
Owned m F = (c : ℕ) → times c F ≤ bit (m.granted c)

-- from m to n the blocks F became the blocks G: what was taken in between is in G and not in F, what was given back is in F and not in G, and what
-- was granted besides is as it was
pub record Step (m n : Meaning) (F G : List ℕ) : Type 0 where
  pub same_shape : n.shape ≡ m.shape
  pub same_below : n.below ≡ m.below
  pub same_down : n.down ≡ m.down
  pub moved : (c : ℕ) → times c G + bit (m.granted c) ≡ times c F + bit (n.granted c)
  pub kept : (c : ℕ) → times c F < bit (m.granted c) → n.words c ≡ m.words c

-- a node of level l in block b that keeps the rules, in blocks of its own
pub record Sits {K : Type 0} (κ : Kind K) (unit : ℕ → ℕ) (m : Meaning) (l b : ℕ) : Type 0 where
  pub wide : breadth κ.form ≤ m.shape.width
  pub whole : Whole κ m.words l b
  pub owned : Owned m (feet κ m.words l b)
  pub kids : Kids K unit l (node κ m.words l b)
  pub fits : AllByRecursion (Fit K unit l) (node κ m.words l b)
  pub light : weight K (suc l) (node κ m.words l b) ≤ 8 * unit l
  pub ascending : Sorted κ.order (pairs K (suc l) (node κ m.words l b))
