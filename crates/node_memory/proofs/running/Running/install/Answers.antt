use Rattle.std.proofs.Common.{◌≡◌, List, ℕ, ℤ, Some, sym, subst}
use Rattle.protocol.specs.Node.Common.{Job, ImageTakes}
use Rattle.node_memory.specs.JobView.{job_view}
use Rattle.node_memory.specs.RunningView.{running_view}
use Rattle.std.proofs.Common.{arith}
use Rattle.std.proofs.lemmas.Grind.{elements}
use Rattle.node_memory.proofs.running.Running.install.Goals as goal

pub install_from-requires-clause-takes : goal.install_from-requires-clause-takes
install_from-requires-clause-takes c =
    let done = c.args.done.now in
    let running = c.args.self.now in
    let out : (running_view running).out ≡ Some (job_view done.job.value) =
    subst (λ (job : Job). (running_view running).out ≡ Some (job_view job)) c.deref-job.ensures
    (c.is_out.ensures.0 c.if-not-is_out.false) in
    let takes : ImageTakes c.args.channels.now done.job.value.process done.taken.items done.sent.items running.current =
    c.requires out in
    subst (λ (taken : List ℕ). ImageTakes c.args.channels.now c.deref-job.result.now.process taken c.deref-2.result.now
    running.current) (sym c.deref.ensures.value)
    (subst (λ (sent : List (List ℤ)). ImageTakes c.args.channels.now c.deref-job.result.now.process done.taken.items sent
    running.current) (sym c.deref-2.ensures.value)
    (subst (λ (job : Job). ImageTakes c.args.channels.now job.process done.taken.items done.sent.items running.current)
    (sym c.deref-job.ensures) takes))

pub returns-clause-step : goal.returns-clause-step
returns-clause-step c = grind (arith, elements)

pub returns-then-not-is_out-clause-step : goal.returns-then-not-is_out-clause-step
returns-then-not-is_out-clause-step c = grind (arith, elements)
