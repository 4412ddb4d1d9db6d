-- Where a case is taken up again.
use Rattle.std.specs.Prelude.{ℕ, ◌%◌, ◌^◌, Bool, cond, List, Some, None, Option, ◌==◌}
use Rattle.keys.specs.Checkpoints.{order, below}
use Rattle.keys.specs.declared.checkpoint.Checkpoint.{Checkpoint}
use Rattle.plain.specs.Plain.{Plain, Call, Answer, nearest, step, floor}
use Rattle.plain.specs.declared.pair.Pair.{Pair}

-- the pair, if it belongs to the case
abbrev pub of_case : ℕ → Option (Pair Checkpoint) → Option (Pair Checkpoint)
of_case case None = None
of_case case (Some p) = cond (p.key.case == case) (Some p) None

-- the largest checkpoint that a case can have; a case has 32 bits
abbrev pub last_of : ℕ → Checkpoint
last_of case = record { case = case % 2 ^ 32; step = 4294967295; fits = (below case, below 4294967295) }

-- the floor of the case's largest checkpoint, or nothing if that is another case's
abbrev pub resume : ℕ → List (Pair Checkpoint) → Option (Pair Checkpoint)
resume case ps = of_case case (floor order (last_of case) ps)

-- the calls on a list of checkpoints: those of any list, and resume
pub data CheckpointCall : Type 0 where
  any : Call Checkpoint → CheckpointCall
  resume_case : ℕ → CheckpointCall

-- what such a call answers and leaves
abbrev pub checkpoint_step : ℕ → Plain Checkpoint → CheckpointCall → Bool → Answer Checkpoint × Plain Checkpoint
checkpoint_step most s (any call) no_room = step order most s call no_room
checkpoint_step most s (resume_case case) no_room = (nearest (resume case s.pairs), s)
