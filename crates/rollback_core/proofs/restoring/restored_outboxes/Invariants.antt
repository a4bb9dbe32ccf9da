use Rattle.std.proofs.Common.{◌≡◌, ◌++◌, ◌-◌, map, length}
use Rattle.kahn_net.specs.Syntax.{network_of}
use Rattle.protocol.specs.Node.Layout.{numbers_where, is_outgoing, outgoing_on}
use Rattle.protocol.specs.Node.Recovering.{restored_outbox}
use Rattle.rollback_core.proofs.restoring.restored_outboxes.Given as goal

-- what is listed, and then what is to come
abbrev pub invariant-loop-channel : goal.invariant-loop-channel
invariant-loop-channel l =
    l.outboxes.items
    ++ map (restored_outbox l.image)
    (numbers_where (is_outgoing (network_of l.net.program) l.home) l.channel
    (length l.net.program.channels.items - l.channel))
    ≡ map (restored_outbox l.image) (outgoing_on (network_of l.net.program) l.home)
