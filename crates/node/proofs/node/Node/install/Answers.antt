use Rattle.std.proofs.Common.{ap, sym, subst}
use Rattle.protocol.specs.Node.Common.{IsOut, TakesTurn, ModeView}
use Rattle.node.specs.NodeView.{mode_view}
use Rattle.node_memory.specs.JobView.{job_view}
use Rattle.node.proofs.node.Node.install.Goals as goal

pub install-requires : goal.install-requires
install-requires g c out =
    let done = c.args.done.now in
    let runs = ap mode_view c.in-Running.is in
    subst (λ (m : ModeView). TakesTurn c.args.channels.now done.job.value.process done.taken.items done.sent.items m) runs
    (c.requires (subst (λ (m : ModeView). IsOut (job_view done.job.value) m) (sym runs) out))
