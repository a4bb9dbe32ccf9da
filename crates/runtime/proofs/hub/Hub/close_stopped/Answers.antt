use Rattle.std.proofs.Common.{◌≡◌, true, sym, ap, subst}
use Rattle.protocol.specs.World.Common.{WorldView}
use Rattle.runtime.specs.Causes.{is_caused}
use Rattle.runtime.specs.Ending.{is_over}
use Rattle.world.specs.WholeView.{world_of}
use Rattle.std.proofs.Common.{arith}
use Rattle.std.proofs.lemmas.Grind.{elements, pieces}
use Rattle.runtime.proofs.hub.Hub.close_stopped.Goals as goal

-- where the driver was told that the run is stopped, the log is, and what is locked keeps its cause
pub returns-clause-cause : goal.returns-clause-cause
returns-clause-cause g c told =
    let run = g.ThisRun.HubRun in
    let locked = c.into_inner-log.result in
    subst (λ (w : WorldView). is_caused (is_over run.channels run.bounds) run.may_stop w locked.cause ≡ true)
    (sym (ap world_of c.close-world.ensures.world)) (locked.caused (c.close-world.ensures.stopped told))

pub returns-clause-begun : goal.returns-clause-begun
returns-clause-begun g c = search (pieces, arith) depth 5 fits 300

pub invariant_of-into_inner : goal.invariant_of-into_inner
invariant_of-into_inner g c = search (pieces, arith) depth 5 fits 300

pub returns-clause-rounds : goal.returns-clause-rounds
returns-clause-rounds g c = grind (arith, elements)
