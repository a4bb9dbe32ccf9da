use Rattle.std.proofs.Common.{None, ◌+◌}
use Rattle.proc_step.specs.Stepping.{WentOn, held}
use Rattle.proc_step.proofs.machine.Machine.go_straight.Given as goal

abbrev pub invariant-loop-instruction : goal.invariant-loop-instruction
invariant-loop-instruction l =
    WentOn l.code l.instruction-index l.room (held l.fn.self l.fn.self.place l.fn.stack) None
    (held l.self (l.fn.self.place + l.instruction-index) l.stack)
