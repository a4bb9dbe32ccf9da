use Rattle.std.proofs.lemmas.Grind.{elements}
use Rattle.std.proofs.Common.{◌∙◌, ℤ, List, Some, subst, arith}
use Rattle.std.proofs.Math.Logic.{∥∥₁_map}
use Rattle.kahn_net.specs.Syntax.{network_of}
use Rattle.protocol.specs.Node.Common.{Network}
use Rattle.protocol.specs.World.Common.{are_quiet}
use Rattle.replay.specs.declared.kept.ScriptedEvent.{ScriptedEvent}
use Rattle.runtime.specs.Ending.{IsOver}
use Rattle.runtime.specs.Logs.{happenings}
use Rattle.world.specs.WholeView.{world_of}
use Rattle.cobaltmidge.specs.Remaining.{IsFarFrom}
use Rattle.cobaltmidge.specs.Runs.{bounds_of, IsEndFrom, IsRun, released_streams}
use Rattle.cobaltmidge.proofs.Beginnings.{beginning_same, end_of}
use Rattle.cobaltmidge.proofs.run.Run.resume.Goals as goal

pub returns-in-Ok-run_from-clause-run : goal.returns-in-Ok-run_from-clause-run
returns-in-Ok-run_from-clause-run g c =
    let run = c.args.self in
    let net = network_of run.network.now.net.value.program in
    let first = world_of c.in-Ok.world in
    let now = world_of c.in-Ok-run_from.ended.world in
    let begins = beginning_same (Some c.args.held.now) net run.inputs run.settings.room first c.in-Ok.ensures.begins in
    subst (λ (i : List (List ℤ)). IsRun net i (released_streams net now.stations) (are_quiet now)) begins.1
    (subst (λ (n : Network). IsRun n first.inputs (released_streams n now.stations) (are_quiet now)) begins.0
    c.in-Ok-run_from.ensures.run)

pub returns-in-Ok-run_from-clause-end : goal.returns-in-Ok-run_from-clause-end
returns-in-Ok-run_from-clause-end g c =
    let run = c.args.self in
    let net = network_of run.network.now.net.value.program in
    let first = world_of c.in-Ok.world in
    let ended = c.in-Ok-run_from.ended in
    let now = world_of ended.world in
    let happened = happenings ended.history.lines.items in
    end_of (Some c.args.held.now) run.settings net run.inputs _ happened first now c.in-Ok.ensures.begins
    (subst (λ (script : List ScriptedEvent). IsEndFrom first run.settings first.net script happened now)
    c.events_or_none-script.ensures c.in-Ok-run_from.ensures.end)

pub returns-in-Ok-run_from-clause-over : goal.returns-in-Ok-run_from-clause-over
returns-in-Ok-run_from-clause-over g c =
    let run = c.args.self in
    let net = network_of run.network.now.net.value.program in
    let first = world_of c.in-Ok.world in
    let ended = c.in-Ok-run_from.ended in
    let begins = beginning_same (Some c.args.held.now) net run.inputs run.settings.room first c.in-Ok.ensures.begins in
    subst (λ (n : Network). IsOver n.channels (bounds_of run.settings) (world_of ended.world) ended.end) begins.0
    c.in-Ok-run_from.ensures.over

pub returns-in-Ok-run_from-clause-same : goal.returns-in-Ok-run_from-clause-same
returns-in-Ok-run_from-clause-same g c =
    let run = c.args.self in
    let net = network_of run.network.now.net.value.program in
    let first = world_of c.in-Ok.world in
    let begins = beginning_same (Some c.args.held.now) net run.inputs run.settings.room first c.in-Ok.ensures.begins in
    ∥∥₁_map c.in-Ok-run_from.ensures.same (λ s. (s.0 ∙ begins.0, s.1 ∙ begins.1))

pub returns-in-Ok-run_from-clause-begun : goal.returns-in-Ok-run_from-clause-begun
returns-in-Ok-run_from-clause-begun g c = grind (arith, elements)

pub returns-in-Err-run_from-clause-err : goal.returns-in-Err-run_from-clause-err
returns-in-Err-run_from-clause-err g c =
    let run = c.args.self in
    let first = world_of c.in-Ok.world in (
      c.in-Err-run_from.ensures.err,
      (
        first,
        c.in-Ok.ensures.begins,
        subst (λ (script : List ScriptedEvent). IsFarFrom first run.settings script c.in-Err-run_from.unfinished.left)
            c.events_or_none-script.ensures c.in-Err-run_from.ensures.left,
      ),
    )
