use Rattle.std.proofs.Common.{None}
use Rattle.proc_step.specs.Stepping.{WentOn, held}
use Rattle.proc_step.proofs.machine.Machine.play_round.Given as goal

abbrev pub invariant-loop : goal.invariant-loop
invariant-loop l =
    WentOn l.code l.counter l.room (held l.initial.self l.initial.self.place l.initial.stack) None
    (held l.self l.self.place l.stack)
