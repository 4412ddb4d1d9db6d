-- What making an index in a store answers.
use Rattle.std.specs.Prelude.{◌≡◌, ℕ, ◌⊎◌, false, cond, ◌&&◌, None, Some, Ok, Err, Option, Result, ◌==◌, nat_lt}
use Rattle.store.specs.Meaning.{Meaning, count, free}
use Rattle.store.specs.Calls.{Lost}
use Rattle.store.specs.declared.fault.Fault.{Fault}
use Rattle.store.specs.declared.fault.Refused.{Refused}
use Rattle.nodes.specs.Places.{breadth}
use Rattle.tree.specs.Tree.{empty}
use Rattle.balance.specs.Updates.{RefusedFor, Decided}
use Rattle.balance.specs.declared.update.Tree.{Tree}
use Rattle.held.specs.Held.{Kind}
use Rattle.index.specs.Holds.{HoldsTree}
use Rattle.index.specs.Open.{Open}
use Rattle.index.specs.declared.index.Created.{Created}

module _ {K : Type 0} (κ : Kind K) where
  -- why no index can be made in a store: 10 if its width is not the kind's or a block is granted, then 6 if fewer than two blocks are free
  abbrev pub refuses_create : Meaning → Option ℕ
  refuses_create m = cond (m.shape.width == breadth κ.form && count m == 0) (cond (nat_lt (free m) 2) (Some 6) None) (Some 10)

  -- the blocks hold an empty tree, its header in the first block of `made`
  pub record Laid (m : Meaning) (made : ℕ × Tree) (n : Meaning) : Type 0 where
    pub holds : HoldsTree κ made.0 made.1.header (empty K) n
    pub is_up : n.down ≡ false
    pub same_shape : n.shape ≡ m.shape
    pub same_below : n.below ≡ m.below

  -- laying out the blocks of an empty index
  abbrev pub LaysOut : Meaning → Result (ℕ × Tree) Fault → Meaning → Type 0
  LaysOut = Decided (λ _. Unit {0}) refuses_create Laid

  module _ {S : Type 0} (meaning : S → Meaning) (ready : S → Type 0) where
    -- an index that holds nothing, in the store s, with the number of its header
    pub record IsNew (s : S) (c : Created K S) : Type 0 where
      pub no_reason : refuses_create (meaning s) ≡ None
      pub holds_none : Open κ meaning ready c.index (empty K)
      pub header_is : c.header ≡ c.index.header
      pub tally_is : c.index.tally ≡ 0
      pub same_shape : (meaning c.index.store).shape ≡ (meaning s).shape
      pub same_below : (meaning c.index.store).below ≡ (meaning s).below

    -- no index, and the store is handed back: it is down, or it means what it meant
    pub record NotMade (s : S) (r : Refused Fault S) : Type 0 where
      pub is_ready : ready r.back
      pub because : Lost (meaning s) r.cause (meaning r.back) ⊎ RefusedFor (refuses_create (meaning s)) (meaning s) r.cause (meaning r.back)

    -- what making an index in a ready store answers
    abbrev pub Creates : S → Result (Created K S) (Refused Fault S) → Type 0
    Creates s (Ok c) = ready s → IsNew s c
    Creates s (Err r) = ready s → NotMade s r
