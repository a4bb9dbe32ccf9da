-- What came of a job, as data.
use Rattle.protocol.specs.Node.Common.{standing_of}
use Rattle.proc_step.specs.declared.job.Done.{Done}
use Rattle.protocol.specs.World.Common.{DoneView}
pub use Rattle.node.specs.Memory.{job_view}

-- a `Done` without pointers
abbrev pub done_view : Done → DoneView
done_view done =
    record { job = job_view done.job.value; after = standing_of done.state; taken = done.taken.items; sent = done.sent.items }
