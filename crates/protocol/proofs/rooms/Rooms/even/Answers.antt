use Rattle.protocol.proofs.RoomLaws.{even_are_rooms}
use Rattle.protocol.proofs.rooms.Rooms.even.Goals as goal

pub invariant_of-result : goal.invariant_of-result
invariant_of-result c = even_are_rooms c.args.items c.requires
