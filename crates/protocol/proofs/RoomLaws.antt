-- The rooms of channels, made and changed.
use Rattle.std.proofs.Common.{ℕ, ◌*◌, arith}
use Rattle.std.proofs.Math.Nat.{min-le_right, le-min}
use Rattle.std.proofs.lemmas.List.{length-replicate}
use Rattle.std.proofs.lemmas.List.Elements.{All-replicate}
use Rattle.ckpt_codec.specs.declared.lengths.TheConstants.{MAX_RETAINED_ITEMS}
use Rattle.kahn_net.specs.declared.limits.TheConstants.{MAX_CHANNELS}
use Rattle.protocol.specs.Node.Sharing.{AreRooms, IsRoom, even_rooms, wider}

-- the same room for each
pub even_are_rooms : (room : ℕ) → IsRoom room → AreRooms (even_rooms room)
even_are_rooms room is = record {
  count = length-replicate MAX_CHANNELS room;
  each = All-replicate IsRoom MAX_CHANNELS room is;
}

-- twice the room of a channel is one that a channel may be given
pub wider_is_room : (room : ℕ) → IsRoom room → IsRoom (wider room)
wider_is_room room is =
    let least = is.0 in
    let most = min-le_right (room * 2) MAX_RETAINED_ITEMS in (
      le-min (omega (arith, least)) (omega arith),
      most,
    )
