use Rattle.std.proofs.Common.{◌≡◌, ◌++◌, ◌-◌, map, length}
use Rattle.protocol.specs.Node.Common.{network_of, numbers_where, is_outgoing}
use Rattle.protocol.specs.Node.Opening.{new_outbox, opening_outboxes}
use Rattle.node.proofs.opening.open_outboxes.Given as goal

-- what is listed, and then what is to come
abbrev pub invariant-loop-number : goal.invariant-loop-number
invariant-loop-number l =
    l.outboxes.items
    ++ map new_outbox
    (numbers_where (is_outgoing (network_of l.net.program) l.home) l.number
    (length l.net.program.channels.items - l.number)) ≡ opening_outboxes (network_of l.net.program) l.home
