-- A step that an index takes on its store.
use Rattle.std.specs.Prelude.{◌≡◌, Option, Result, Ok, Err, Some, None, ◌≢◌}
use Rattle.std.specs.Fn.{Once}
use denote.Ref.{MutBor}
use Rattle.store.specs.declared.fault.Fault.{Fault}
use Rattle.store.specs.declared.fault.Refusal.TheVariants.{Down}
use Rattle.ask.specs.declared.report.Stopped.{Stopped}
use Rattle.balance.specs.declared.update.Tree.{Tree}

-- at a `&mut` to the store s and the tree t, the step f may give r and leave s'
pub record StepsAt {F S R : Type 0} (g : Once F (MutBor S × (Tree × Unit {0})) (R × (MutBor S × Unit {0}))) (f : F) (s : S) (t : Tree) (r : R) (s' : S) : Type 0 where
  pub shown : MutBor S
  pub shows : shown.now ≡ s
  pub left : MutBor S
  pub met : g.post f (shown, (t, tt)) (r, (left, tt))
  pub leaves : left.now ≡ s'

-- a fault that says 'down' is remembered, and no other
pub record Noted (f : Fault) (o : Option Fault) : Type 0 where
  pub down : f.refusal ≡ Down → o ≡ Some f
  pub other : (f.refusal ≢ Down) → o ≡ None

-- what an index that remembered no fault remembers after an answer
abbrev pub Remembers : {A : Type 0} → Result A Fault → Option Fault → Type 0
Remembers (Ok a) o = o ≡ None
Remembers (Err f) o = Noted f o

-- the same of a report, whose 'down' is remembered
abbrev pub Recalls : {A : Type 0} → Result A Stopped → Option Fault → Type 0
Recalls (Ok a) o = o ≡ None
Recalls (Err e) o = e.fault.refusal ≡ Down → o ≡ Some e.fault
