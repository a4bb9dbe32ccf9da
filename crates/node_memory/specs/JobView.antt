-- A job as data: two jobs are the same where these are equal.
use Rattle.std.specs.Prelude.{slice_get}
use Rattle.protocol.specs.Node.Common.{network_of, standing_of, Job, JobView}
use Rattle.std.specs.declared.alloc.Global.{Global}
use Rattle.std.specs.declared.sync.Arc.{Arc}

abbrev pub job_view : Job → JobView
job_view job = record {
  process = job.process;
  code = slice_get (network_of job.net.value.program).codes job.process;
  version = job.version;
  standing = standing_of job.state;
  items = job.items.items;
  room = job.room.items;
}

-- a job of which several have a share
abbrev pub shared_view : Arc Job Global → JobView
shared_view job = job_view job.value
