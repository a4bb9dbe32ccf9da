use Rattle.std.proofs.Common.{rules}
use Rattle.sector_disk.specs.FaultSchedule.{state_of}
use Rattle.sector_disk.proofs.NextArmed.{none_met, still_none}
use Rattle.sector_disk.proofs.schedule.FaultSchedule.count_call.Goals as goal

pub invariant_of-self-clause-none_before : goal.invariant_of-self-clause-none_before
invariant_of-self-clause-none_before c =
    still_none c.args.self.now.armed.items c.args.self.now.next c.args.self.now.next c.args.self.now.calls _
    c.args.self.now.none_before (search rules) (search rules)

pub returns-then-self-clause-fails : goal.returns-then-self-clause-fails
returns-then-self-clause-fails c =
    rw (none_met (state_of c.args.self.now) c.args.self.now.next c.args.self.now.none_before
    c.if-self-lt-GREATEST_COUNT.true c.if-self.true) (search rules)

pub returns-then-self-clause-counted : goal.returns-then-self-clause-counted
returns-then-self-clause-counted c =
    rw (none_met (state_of c.args.self.now) c.args.self.now.next c.args.self.now.none_before
    c.if-self-lt-GREATEST_COUNT.true c.if-self.true) (search rules)
