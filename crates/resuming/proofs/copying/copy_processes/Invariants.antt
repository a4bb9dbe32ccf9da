use Rattle.std.proofs.Common.{◌≡◌, ◌++◌, drop, map}
use Rattle.kahn_net.specs.States.{standing_of}
use Rattle.kahn_net.specs.Syntax.{code_of}
use Rattle.resuming.specs.Images.{image_processes}
use Rattle.resuming.proofs.copying.copy_processes.Given as goal

-- what was copied, and then what is to come
abbrev pub invariant-loop-number : goal.invariant-loop-number
invariant-loop-number l =
    l.saved.items ++ image_processes (map standing_of l.states) l.home l.number (map code_of (drop l.number l.processes))
    ≡ image_processes (map standing_of l.states) l.home 0 (map code_of l.processes)
