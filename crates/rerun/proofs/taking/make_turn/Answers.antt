use Rattle.std.proofs.Common.{◌≡◌, subst, rules}
use Rattle.std.proofs.Math.Logic.{∥∥₁_map}
use Rattle.kahn_net.specs.Processes.{Standing}
use Rattle.kahn_net.specs.States.{standing_of}
use Rattle.proc_step.specs.Turns.{IsTurn}
use Rattle.rerun.specs.TableOf.{table_view}
use Rattle.rerun.specs.Tables.{items_from, room_from}
use Rattle.rerun.proofs.Places.{standing_at}
use Rattle.rerun.proofs.taking.make_turn.Goals as goal

pub returns-in-Ok : goal.returns-in-Ok
returns-in-Ok c code before is stands =
    let net = c.args.net.now.value in
    let done = c.in-Ok.done in
    let same : standing_of c.index-state.result.now ≡ before =
    standing_at c.args.table.now.states.items c.args.process c.index-state.result.now before (search rules)
    c.index-state.ensures stands in
    ∥∥₁_map (c.in-Ok.ensures code is)
    (λ turn. subst (λ (s : Standing). IsTurn code s
    (items_from c.args.inputs.now (table_view c.args.table.now) c.args.process 0 net.program.channels.items)
    (room_from c.args.limits.now (table_view c.args.table.now) c.args.process 0 net.program.channels.items)
    (standing_of done.state) done.taken.items done.sent.items) same turn)
