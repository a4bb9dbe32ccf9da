-- What a node's turn gives room to is a channel that a process needs.
use Rattle.std.proofs.Common.{◌≡◌, ℕ, Some}
use Rattle.protocol.specs.World.Common.{WorldInvariant, WorldView}
use Rattle.protocol.specs.World.RoomNeeds.{needed_for}
use Rattle.protocol_laws.specs.World.RoomNeedLaws.{node_need_is_found}
use Rattle.replay.specs.Replay.{IsNeeded}

pub is_needed : (world : WorldView) (node channel : ℕ) → WorldInvariant world → needed_for world node ≡ Some channel
    → IsNeeded channel world
is_needed world node channel inv is = ∣ node_need_is_found world node channel inv.valid is ∣₁
