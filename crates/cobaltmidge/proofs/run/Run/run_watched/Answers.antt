use Rattle.std.proofs.lemmas.Grind.{elements}
use Rattle.std.proofs.Common.{List, subst, arith}
use Rattle.kahn_net.specs.Syntax.{network_of}
use Rattle.replay.specs.declared.kept.ScriptedEvent.{ScriptedEvent}
use Rattle.runtime.specs.Logs.{happenings}
use Rattle.world.specs.WholeView.{world_of}
use Rattle.cobaltmidge.specs.Runs.{IsEnd}
use Rattle.cobaltmidge.proofs.run.Run.run_watched.Goals as goal

pub returns-in-Ok-clause-end : goal.returns-in-Ok-clause-end
returns-in-Ok-clause-end g c =
    let run = c.args.self in
    let ended = c.in-Ok.ended in
    subst (λ (script : List ScriptedEvent). IsEnd run.settings (network_of run.network.now.net.value.program) run.inputs
    script (happenings ended.history.lines.items) (world_of ended.world)) c.events_or_none-script.ensures
    c.in-Ok.ensures.end

pub returns-in-Ok-clause-begun : goal.returns-in-Ok-clause-begun
returns-in-Ok-clause-begun g c = grind (arith, elements)
