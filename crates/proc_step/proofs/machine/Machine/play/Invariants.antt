use Rattle.std.proofs.Common.{None, ◌+◌, ◌*◌, length, take}
use Rattle.kahn_net.specs.declared.limits.TheConstants.{MAX_NESTED_TIMES}
use Rattle.kahn_net.specs.Common.{total}
use Rattle.proc_step.specs.Stepping.{WentOn}
use Rattle.proc_step.proofs.machine.Machine.play.Given as goal

abbrev pub invariant-loop-list : goal.invariant-loop-list
invariant-loop-list l =
    WentOn l.code ((total (take l.list-index l.items) + 2) * (MAX_NESTED_TIMES * length l.code)) l.room l.fn.self None
    l.self
