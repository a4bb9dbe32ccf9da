use Rattle.std.proofs.Common.{◌≡◌, map, take}
use Rattle.std.specs.Prelude.{All}
use Rattle.protocol.specs.Node.Common.{IsPacket}
use Rattle.protocol.specs.World.Common.{sending_of}
use Rattle.station.proofs.network.spell_all.Given as goal

-- those that were looked at may be written, and are
abbrev pub invariant-loop-packet : goal.invariant-loop-packet
invariant-loop-packet l =
    (l.sendings.items ≡ map sending_of (take l.packet-index l.packets)) × All IsPacket (take l.packet-index l.packets)
