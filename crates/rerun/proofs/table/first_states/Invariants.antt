use Rattle.std.proofs.Common.{◌≡◌, map, take}
use Rattle.kahn_net.specs.States.{standing_of}
use Rattle.kahn_net.specs.Syntax.{code_of}
use Rattle.rerun.specs.Tables.{not_begun}
use Rattle.rerun.proofs.table.first_states.Given as goal

abbrev pub invariant-loop-process : goal.invariant-loop-process
invariant-loop-process l =
    map standing_of l.states.items ≡ map not_begun (map code_of (take l.process-index l.processes))
