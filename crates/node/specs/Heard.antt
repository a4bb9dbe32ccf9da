-- Packets that say something of one channel alone.
use Rattle.std.specs.Prelude.{Bool, true, false}
use Rattle.datagram.specs.declared.packet.Body.{Body}
use Rattle.datagram.specs.declared.packet.Body.TheVariants.{Data, Ack, Kept}

-- a packet says something of one channel, and nothing of a checkpoint: it has an item of it, or tells how far it has
-- come, or what its receiver keeps for good
abbrev pub is_of_channel : Body → Bool
is_of_channel (Data channel position item) = true
is_of_channel (Ack channel epoch next) = true
is_of_channel (Kept channel count) = true
is_of_channel body = false
