use Rattle.std.proofs.Common.{subst}
use Rattle.proc_step.specs.Turns.{IsOwnTurn}
use Rattle.proc_step.specs.declared.job.Job.{Job}
use Rattle.proc_step.proofs.job.Job.run.Goals as goal

-- what came back is of the job that is shared
pub invariant_of-result : goal.invariant_of-result
invariant_of-result c =
    let after = c.in-Ok.after in
    record {
      turn = subst
          (λ (job : Job). ∥ IsOwnTurn job.net.value.program job.process job.state job.items.items job.room.items
          after.state after.taken.items after.sent.items ∥₁) c.deref.ensures c.in-Ok.ensures;
    }
