use Rattle.std.proofs.Common.{◌≡◌, ◌++◌, drop}
use Rattle.protocol.specs.Node.Common.{room_from}
use Rattle.protocol.specs.Node.Sharing.{share_in}
use Rattle.node_memory.proofs.granting.list_room.Given as goal

abbrev pub invariant-loop-number : goal.invariant-loop-number
invariant-loop-number l =
    l.room.items ++ room_from (share_in l.rooms l.share) l.image l.process l.number (drop l.number l.channels)
    ≡ room_from (share_in l.rooms l.share) l.image l.process 0 l.channels
