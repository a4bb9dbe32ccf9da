use Rattle.run_log.specs.ArmedWorlds.{armed_view}
use Rattle.runtime.proofs.Completeness.{has_been}
use Rattle.runtime.proofs.hub.Hub.status.Goals as goal

pub returns-then-status : goal.returns-then-status
returns-then-status g c =
    let log = c.deref_mut.result.now.log in
    has_been _ _ _ _ log.lines.items log.passed (armed_view log.armed) c.end_if_complete-complete.result log.replays
    c.end_if_complete-complete.ensures.quiet

pub returns-else-status : goal.returns-else-status
returns-else-status g c =
    let log = c.deref_mut.result.now.log in
    has_been _ _ _ _ log.lines.items log.passed (armed_view log.armed) c.end_if_complete-complete.result log.replays
    c.end_if_complete-complete.ensures.quiet
