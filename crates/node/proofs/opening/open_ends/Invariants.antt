use Rattle.std.proofs.Common.{◌≡◌, ◌++◌, drop}
use Rattle.protocol.specs.Node.Common.{network_of, opening_ends}
use Rattle.node.proofs.opening.open_ends.Given as goal

abbrev pub invariant-loop-number : goal.invariant-loop-number
invariant-loop-number l =
    l.ends.items ++ opening_ends (network_of l.net.program) l.home l.number (drop l.number l.channels)
    ≡ opening_ends (network_of l.net.program) l.home 0 l.channels
