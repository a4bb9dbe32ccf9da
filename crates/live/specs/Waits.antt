-- For which inputs of a network processes wait.
use Rattle.std.specs.Prelude.{◌==◌, ℕ, Bool, false, Option, Some, None, slice_get}
use Rattle.kahn_net.specs.Common.{Code}
use Rattle.protocol.specs.Node.NodeView.{RunningNode, running_of}
use Rattle.protocol.specs.Node.Stances.{own_stance}
use Rattle.protocol.specs.World.Common.{WorldView}
use Rattle.protocol.specs.World.RoomNeeds.{getter_of}
use Rattle.protocol.specs.World.StationView.{StationView}
use Rattle.protocol.specs.declared.stance.Stance.{Stance}
use Rattle.protocol.specs.declared.stance.Stance.TheVariants.{GoesOn, Ended, Waits, Held, Full}

-- it gets from this channel, and nothing of it is at hand
abbrev pub is_at_get : ℕ → Stance → Bool
is_at_get channel GoesOn = false
is_at_get channel Ended = false
is_at_get channel (Waits other) = other == channel
is_at_get channel (Held other) = false
is_at_get channel (Full other) = false

module _ (world : WorldView) where
  -- a process of this node, if that runs, is at a get from a channel
  abbrev pub waits_on : ℕ → ℕ → Option RunningNode → Bool
  waits_on channel process None = false
  waits_on channel process (Some node) = is_at_get channel (own_stance world.net world.inputs world.rooms process node)

  abbrev pub waits_at : ℕ → ℕ → Option StationView → Bool
  waits_at channel process None = false
  waits_at channel process (Some station) = waits_on channel process (running_of station.node)

  abbrev pub waits_by : ℕ → ℕ → Option Code → Bool
  waits_by channel process None = false
  waits_by channel process (Some code) = waits_at channel process (slice_get world.stations code.node)

  abbrev pub waits_with : ℕ → Option ℕ → Bool
  waits_with channel None = false
  waits_with channel (Some process) = waits_by channel process (slice_get world.net.codes process)

  -- the process that gets from this channel is at a get from it, and nothing of it is at hand there
  abbrev pub waits_for : ℕ → Bool
  waits_for channel = waits_with channel (getter_of (slice_get world.net.channels channel))
