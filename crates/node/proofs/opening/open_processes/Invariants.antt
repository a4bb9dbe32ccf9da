use Rattle.std.proofs.Common.{◌≡◌, ◌++◌, map, drop}
use Rattle.protocol.specs.Node.Common.{code_of}
use Rattle.protocol.specs.Node.Opening.{opening_processes}
use Rattle.node.proofs.opening.open_processes.Given as goal

-- what is listed, and then what is to come
abbrev pub invariant-loop-number : goal.invariant-loop-number
invariant-loop-number l =
    l.saved.items ++ opening_processes l.home l.number (map code_of (drop l.number l.processes))
    ≡ opening_processes l.home 0 (map code_of l.processes)
