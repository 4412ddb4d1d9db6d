-- Entries of a node that gave way to others, with their items and blocks.
use Rattle.std.specs.Prelude.{◌≡◌, ℕ, suc, ◌+◌, ◌≤◌, List, ◌∷◌, ◌++◌, map, take, drop}
use Rattle.std.specs.List.{AllByRecursion}
use Rattle.store.specs.Meaning.{Meaning}
use Rattle.nodes.specs.Nodes.{Entry, entries}
use Rattle.tree.specs.Lists.{joined}
use Rattle.tree.specs.Tree.{Item}
use Rattle.held.specs.Held.{Kind, item, foot, Right, Step}

-- In block p the entries at the places from i on, as many as `old`, whose items had the blocks F, gave way to entries that stand for the items xs.
pub record Exchanged {K : Type 0} (κ : Kind K) (p i old l : ℕ) (F : List ℕ) (xs : List (Item K (suc l))) (m n : Meaning) : Type 0 where
  pub new : List Entry
  pub entries_are : entries κ.form (n.words p) ≡ take i (entries κ.form (m.words p)) ++ (new ++ drop (i + old) (entries κ.form (m.words p)))
  pub few : n.words p 1 ≤ κ.form.places
  pub level : n.words p 0 ≡ m.words p 0
  pub items : map (item κ n.words (suc l)) new ≡ xs
  pub right : AllByRecursion (Right κ n.words (suc l)) new
  pub step : Step m n (p ∷ F) (p ∷ joined (foot κ n.words (suc l)) new)
