use Rattle.std.proofs.Common.{◌≡◌, ◌++◌, drop}
use Rattle.approximations.specs.AtHand.{room_from}
use Rattle.approximations.proofs.at_hand.list_room.Given as goal

abbrev pub invariant-loop-channel : goal.invariant-loop-channel
invariant-loop-channel l =
    l.room.items ++ room_from l.process (drop l.channel-index l.channels) ≡ room_from l.process l.channels
