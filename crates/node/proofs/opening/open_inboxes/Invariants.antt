use Rattle.std.proofs.Common.{◌≡◌, ◌++◌, ◌-◌, map, length}
use Rattle.protocol.specs.Node.Common.{network_of, numbers_where, is_incoming}
use Rattle.protocol.specs.Node.Opening.{new_inbox, opening_inboxes}
use Rattle.node.proofs.opening.open_inboxes.Given as goal

-- what is listed, and then what is to come
abbrev pub invariant-loop-number : goal.invariant-loop-number
invariant-loop-number l =
    l.inboxes.items
    ++ map new_inbox
    (numbers_where (is_incoming (network_of l.net.program) l.home) l.number
    (length l.net.program.channels.items - l.number)) ≡ opening_inboxes (network_of l.net.program) l.home
