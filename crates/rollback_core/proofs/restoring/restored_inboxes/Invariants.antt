use Rattle.std.proofs.Common.{◌≡◌, ◌++◌, ◌-◌, map, length}
use Rattle.kahn_net.specs.Syntax.{network_of}
use Rattle.protocol.specs.Node.Layout.{numbers_where, is_incoming, incoming_on}
use Rattle.protocol.specs.Node.Recovering.{restored_inbox}
use Rattle.rollback_core.proofs.restoring.restored_inboxes.Given as goal

-- what is listed, and then what is to come
abbrev pub invariant-loop-channel : goal.invariant-loop-channel
invariant-loop-channel l =
    l.inboxes.items
    ++ map (restored_inbox l.image l.epoch)
    (numbers_where (is_incoming (network_of l.net.program) l.home) l.channel
    (length l.net.program.channels.items - l.channel))
    ≡ map (restored_inbox l.image l.epoch) (incoming_on (network_of l.net.program) l.home)
