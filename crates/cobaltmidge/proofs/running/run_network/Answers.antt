use Rattle.std.proofs.Common.{true, ◌≡◌, subst}
use Rattle.std.specs.Prelude.{IfErr, IfOk}
use Rattle.std.proofs.lemmas.Result.{IfErr-weaker, err_from_is_err_and}
use Rattle.protocol.specs.Node.Common.{network_of}
use Rattle.protocol.specs.World.Common.{are_quiet, WorldView}
use Rattle.runtime.specs.Ending.{IsOver}
use Rattle.world.specs.WholeView.{world_of}
use Rattle.runtime.specs.Logs.{happenings}
use Rattle.cobaltmidge.specs.Runs.{bounds_of, IsEndFrom, IsRun, released_streams}
use Rattle.cobaltmidge.specs.Remaining.{IsFarFrom, IsLeft}
use Rattle.cobaltmidge.specs.declared.unfinished.Unfinished.{Unfinished}
use Rattle.cobaltmidge.proofs.Remaining.{left_far, left_outputs}
use Rattle.cobaltmidge.proofs.running.run_network.Goals as goal

pub returns-in_err-world-clause-err : goal.returns-in_err-world-clause-err
returns-in_err-world-clause-err g c =
    let p = err_from_is_err_and c.from_residual.result c.from_residual.ensures.1 in
    rw (p.1, p.2) (c.in_err-world.ensures.err true)

pub returns-in_err-world-clause-left : goal.returns-in_err-world-clause-left
returns-in_err-world-clause-left g c =
    let p = err_from_is_err_and c.from_residual.result c.from_residual.ensures.1 in
    rw (p.1, p.2) (left_outputs c.args.settings (network_of c.args.net.now.value.program) c.args.inputs c.args.script.items c.args.outputs.items
    _ c.in_err-world.ensures.handed_back)

-- how far a run came that was refused
pub returns-clause-left : goal.returns-clause-left
returns-clause-left g c =
    let net = network_of c.args.net.now.value.program in
    IfErr-weaker c.run_from.result
    (λ (unfinished : Unfinished _ _). IsFarFrom (world_of c.in_ok-world.world) c.args.settings c.args.script.items unfinished.left)
    (λ (unfinished : Unfinished _ _). IsLeft c.args.settings net c.args.inputs c.args.script.items c.args.outputs.items unfinished.left)
    (λ unfinished is. left_far c.args.settings net c.args.inputs c.args.script.items c.args.outputs.items unfinished.left
    (subst (λ (w : WorldView). IsFarFrom w c.args.settings c.args.script.items unfinished.left) c.in_ok-world.ensures.first is))
    c.run_from.ensures.left

pub returns-clause-run : goal.returns-clause-run
returns-clause-run g c =
    subst (λ (w : WorldView). IfOk c.run_from.result (λ now. IsRun w.net w.inputs
    (released_streams w.net (world_of now.world).stations) (are_quiet (world_of now.world)))) c.in_ok-world.ensures.first
    c.run_from.ensures.run

pub returns-clause-end : goal.returns-clause-end
returns-clause-end g c =
    subst (λ (w : WorldView). IfOk c.run_from.result (λ now. IsEndFrom w c.args.settings w.net c.args.script.items
    (happenings now.history.lines.items) (world_of now.world))) c.in_ok-world.ensures.first c.run_from.ensures.end

pub returns-clause-over : goal.returns-clause-over
returns-clause-over g c =
    subst (λ (w : WorldView). IfOk c.run_from.result (λ now. IsOver w.net.channels (bounds_of c.args.settings)
    (world_of now.world) now.end)) c.in_ok-world.ensures.first c.run_from.ensures.over

pub returns-clause-same : goal.returns-clause-same
returns-clause-same g c =
    subst (λ (w : WorldView). IfOk c.run_from.result (λ now. ∥ ((world_of now.world).net ≡ w.net)
    × ((world_of now.world).inputs ≡ w.inputs) ∥₁)) c.in_ok-world.ensures.first c.run_from.ensures.same
