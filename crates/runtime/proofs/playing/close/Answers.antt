use Rattle.runtime.proofs.Causes.{ok_so}
use Rattle.runtime.proofs.playing.close.Goals as goal

-- where the driver was told that the run is stopped, there is a cause
pub end_for-end-requires : goal.end_for-end-requires
end_for-end-requires g c = record { caused = ok_so c.args.driven.end c.close_stopped-world.ensures.cause c.args.driven.told }
