-- What is true of the channel that needs more room.
use Rattle.std.specs.Prelude.{◌≡◌, ◌==◌, ℕ, ◌<◌, true, false, Some, IfSome, find, slice_get, slice_index}
use Rattle.ckpt_codec.specs.Common.{Code, Process, SavedProcessView}
use Rattle.kahn_net.specs.Common.{IsValid, Puts}
use Rattle.protocol.specs.Node.Choosing.{has_room, next_at}
use Rattle.protocol.specs.Node.NodeView.{RunningNode, running_of}
use Rattle.protocol.specs.Node.Sharing.{AreRooms, full_share, log_share, retained_share}
use Rattle.protocol.specs.World.Invariant.{WorldInvariant, outputs_of}
use Rattle.protocol.specs.World.RoomNeeds.{NeedsRoom, needed_for, widened_at}
use Rattle.protocol.specs.World.Stances.{is_leaving, stance_of}
use Rattle.protocol.specs.World.StationView.{StationView}
use Rattle.protocol.specs.World.Steps.{WorldView}
use Rattle.protocol.specs.World.Still.{stands_still}

-- A process is held at a put on a channel for want of room: nothing is on its way out of the channel's log, there is no
-- place in it, and there would be one if the channel had all the room that it may have.
pub record PutIsHeld (world : WorldView) (p c : ℕ) : Type 0 where
  pub code : Code
  pub station : StationView
  pub node : RunningNode
  pub saved : SavedProcessView
  pub coded : slice_get world.net.codes p ≡ Some code
  pub there : slice_get world.stations code.node ≡ Some station
  pub runs : running_of station.node ≡ Some node
  pub found : find (λ (s : SavedProcessView). s.number == p) node.current.processes ≡ Some saved
  pub next : next_at (slice_get world.net.codes saved.number) saved.standing ≡ Puts c
  pub settled : is_leaving world.net world.stations node (outputs_of station.outlets) c ≡ false
  pub no_place : has_room (retained_share world.rooms node.current) node.current c (slice_get world.net.channels c)
      ≡ false
  pub place : has_room (full_share node.current) node.current c (slice_get world.net.channels c) ≡ true

-- Where a world stands still for want of room, some node finds a channel.
abbrev pub StillShowsNeed : Type 0
StillShowsNeed =
    (world : WorldView) → WorldInvariant world → stands_still world ≡ true
    → (node channel : ℕ) × (needed_for world node ≡ Some channel)

-- The channel that is found for a node is one for which a process needs more room.
abbrev pub NodeNeedIsFound : Type 0
NodeNeedIsFound =
    (world : WorldView) (node channel : ℕ) → IsValid world.net → needed_for world node ≡ Some channel
    → (process : ℕ)
    × NeedsRoom world.net (stance_of world.net world.inputs world.rooms world.stations) process channel

-- And a process that needs more room is found by its node: a channel is found there that some process needs.
abbrev pub NeedIsShown : Type 0
NeedIsShown =
    (world : WorldView) (process channel : ℕ) (code : Code) → slice_get world.net.codes process ≡ Some code
    → NeedsRoom world.net (stance_of world.net world.inputs world.rooms world.stations) process channel
    → (found : ℕ) × (needed_for world code.node ≡ Some found)

-- A process that needs more room for a channel puts there, its put is held for want of it, and the channel hasn't all the
-- room that it may have.
abbrev pub NeedIsHeld : Type 0
NeedIsHeld =
    (world : WorldView) (process channel : ℕ) → IsValid world.net
    → NeedsRoom world.net (stance_of world.net world.inputs world.rooms world.stations) process channel
    → (held : PutIsHeld world process channel)
    × IfSome (slice_get world.net.channels channel) (λ ends. ends.producer ≡ Process process)
    × (slice_index world.rooms channel < log_share held.node.current)

-- That channel gets more, where it gets twice its room.
abbrev pub NeedGetsMore : Type 0
NeedGetsMore =
    (world : WorldView) (process channel : ℕ) → IsValid world.net → AreRooms world.rooms
    → NeedsRoom world.net (stance_of world.net world.inputs world.rooms world.stations) process channel
    → slice_index world.rooms channel < slice_index (widened_at channel world).rooms channel
