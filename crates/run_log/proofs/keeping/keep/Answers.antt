use Rattle.std.proofs.Common.{ap, sym}
use Rattle.world.specs.Events.{done_view, event_view, job_view}
use Rattle.replay.specs.Armed.{OfWorld}
use Rattle.run_log.proofs.keeping.keep.Goals as goal

-- of a turn that came back, the share is of its job
pub returns-in_ok-try_clone-in-Install : goal.returns-in_ok-try_clone-in-Install
returns-in_ok-try_clone-in-Install c = (
  done_view c.in-Install.done,
  ap (λ event. OfWorld (event_view event)) c.in-Install.is,
  ap job_view (sym c.in_ok-try_clone-in-Install.ensures),
)
