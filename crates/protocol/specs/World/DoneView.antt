-- What came of a job, without pointers.
use Rattle.std.specs.Prelude.{◌≡◌, ℕ, ℤ, List, Some}
use Rattle.ckpt_codec.specs.Common.{Code, Standing}
use Rattle.proc_step.specs.Turns.{IsTurn}
use Rattle.protocol.specs.Node.JobView.{JobView}

-- a job that was run: where its process stands after it, how many items of each channel it took, and what it sent on
-- each
pub record DoneView : Type 0 where
  pub job : JobView
  pub after : Standing
  pub taken : List ℕ
  pub sent : List (List ℤ)

-- what comes back is a turn of the job's own code, whatever network that is of
abbrev pub IsTurnOfJob : JobView → Standing → List ℕ → List (List ℤ) → Type 0
IsTurnOfJob job after taken sent =
    (code : Code) → job.code ≡ Some code → IsTurn code job.standing job.items job.room after taken sent
