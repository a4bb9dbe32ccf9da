-- When two jobs are the same.
use Rattle.std.specs.Prelude.{◌≡◌, slice_get}
use Rattle.kahn_net.specs.Common.{network_of, standing_of}
use Rattle.proc_step.specs.declared.job.Job.{Job}

-- Two jobs for the same process, with the same code, at the same version, from the same state, with the same items and
-- the same room.
pub record IsSameJob (job other : Job) : Type 0 where
  pub process : job.process ≡ other.process
  pub code : slice_get (network_of job.net.value.program).codes job.process
      ≡ slice_get (network_of other.net.value.program).codes other.process
  pub version : job.version ≡ other.version
  pub state : standing_of job.state ≡ standing_of other.state
  pub items : job.items.items ≡ other.items.items
  pub room : job.room.items ≡ other.room.items
