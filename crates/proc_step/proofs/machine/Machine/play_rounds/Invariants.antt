use Rattle.std.proofs.Common.{None, ◌*◌, length}
use Rattle.proc_step.specs.Stepping.{WentOn, held}
use Rattle.proc_step.proofs.machine.Machine.play_rounds.Given as goal

abbrev pub invariant-loop : goal.invariant-loop
invariant-loop l =
    WentOn l.code (l.counter * length l.code) l.room (held l.initial.self l.initial.self.place l.initial.stack) None
    (held l.self l.self.place l.stack)
