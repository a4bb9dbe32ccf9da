use Rattle.std.proofs.Common.{◌≡◌, ap, ◌∙◌}
use Rattle.std.proofs.Math.Logic.{∥∥₁_map}
use Rattle.kahn_net.specs.States.{standing_of}
use Rattle.net_check.specs.declared.net.Net.{Net}
use Rattle.proc_step.specs.declared.job.Job.{Job}
use Rattle.rerun.specs.TableOf.{table_view}
use Rattle.rerun.specs.Tables.{items_from, room_from}
use Rattle.rerun.proofs.Own.{own_turn}
use Rattle.rerun.proofs.taking.turn_from.Goals as goal

pub returns-in-Ok : goal.returns-in-Ok
returns-in-Ok c code is =
    let net = c.args.net.now.value in
    let job = c.in_ok-job.job in
    let done = c.in-Ok.done in
    let same : done.job.value ≡ job = cc (c.in-Ok.ensures, c.in_ok-new.ensures.ok) in
    ∥∥₁_map done.turn
    (own_turn net.program c.args.process (standing_of c.args.state.now)
    (items_from c.args.inputs.now (table_view c.args.table.now) c.args.process 0 net.program.channels.items)
    (room_from c.args.limits.now (table_view c.args.table.now) c.args.process 0 net.program.channels.items)
    done.job.value
    done.state done.taken.items done.sent.items code
    (ap (λ (j : Job). j.net.value.program) same ∙ ap (λ (n : Net). n.program) c.in_ok-job.ensures.net)
    (ap (λ (j : Job). j.process) same ∙ c.in_ok-job.ensures.process)
    (ap (λ (j : Job). standing_of j.state) same ∙ c.in_ok-job.ensures.state)
    (ap (λ (j : Job). j.items.items) same ∙ c.in_ok-job.ensures.items)
    (ap (λ (j : Job). j.room.items) same ∙ c.in_ok-job.ensures.room) is)
