use Rattle.std.proofs.Common.{rules}
use Rattle.sector_disk.proofs.NextArmed.{one_behind}
use Rattle.sector_disk.proofs.schedule.FaultSchedule.arm.Goals as goal

pub invariant_of-self-2-clause-none_before : goal.invariant_of-self-2-clause-none_before
invariant_of-self-2-clause-none_before c =
    rw c.in_ok-push.ensures.items
    (one_behind c.args.self.now.armed.items c.args.fault c.args.self.now.next c.min-self.result c.args.self.now.calls
    c.args.self.now.none_before (search rules) (λ _. search rules))
