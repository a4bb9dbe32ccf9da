-- The worlds with which runs begin.
use Rattle.std.specs.Prelude.{◌≡◌, ◌==◌, ◌/◌, min, max, ℕ, ℤ, Bool, true, false, if◌then◌else◌, List, [], ◌∷◌, length, drop, map, Option, Some, None, replicate, slice_index_or}
use Rattle.std.specs.List.{list_all}
use Rattle.ckpt_codec.specs.declared.lengths.TheConstants.{MAX_RETAINED_ITEMS}
use Rattle.outlet.specs.declared.fault.OutletFault.{OutletFault}
use Rattle.outlet.specs.declared.fault.OutletFault.TheVariants as outlet
use Rattle.protocol.specs.Node.Common.{Channel, Network, node_count}
use Rattle.protocol.specs.Node.Sharing.{even_rooms}
use Rattle.protocol.specs.World.Common.{goes_outside, output_channels, OutletView, OutputView, with_rooms, WorldView}
use Rattle.protocol.specs.declared.limits.TheConstants.{DEFAULT_ROOM}
use Rattle.rerun.specs.Tables.{first_table, HasRerun, KeepsLimits, TableView}
use Rattle.rerun.specs.declared.stopped.Stopped.{Stopped}
use Rattle.resuming.specs.CatchingUp.{HaveTakenAll, IsBehindBy, StoppedSince}
use Rattle.resuming.specs.Images.{records_there}
use Rattle.world.specs.Reopening.{world_again}
use Rattle.cobaltmidge.specs.FirstWorld.{first_world, nearest_room}
use Rattle.cobaltmidge.specs.declared.going_on.BeginFault.{BeginFault}
use Rattle.cobaltmidge.specs.declared.going_on.BeginFault.TheVariants.{NoMemory, Outlet, Astray}

-- ---- how far processes are run again

-- how many items may lie on a channel between two processes, of so many channels: as many as a run has room for by default, and no more than a
-- record has room for
abbrev pub inner_limit : ℕ → ℕ
inner_limit channels = min DEFAULT_ROOM (MAX_RETAINED_ITEMS / max channels 1)

-- the limit of a channel: of an output as many items as it held, where the first of these numbers is of it
abbrev pub limit_of : ℕ → List ℕ → Channel → ℕ
limit_of inner held channel = if goes_outside channel.consumer then slice_index_or held 0 0 else inner

-- what these outputs held, but for the first one where this channel is one
abbrev pub held_behind : List ℕ → Channel → List ℕ
held_behind held channel = if goes_outside channel.consumer then drop 1 held else held

abbrev pub limits_from : ℕ → List ℕ → List Channel → List ℕ
limits_from inner held [] = []
limits_from inner held (channel ∷ channels) =
    limit_of inner held channel ∷ limits_from inner (held_behind held channel) channels

-- the limits of all channels, where each output, in order, held so many items
abbrev pub limits_of : List Channel → List ℕ → List ℕ
limits_of channels held = limits_from (inner_limit (length channels)) held channels

-- what left by an outlet
abbrev pub left_by : OutletView → OutputView
left_by outlet = record { channel = outlet.channel; taken = outlet.taken }

-- The network's processes were run again, alone, and this is the world there: each node is down, with the record that its image is, nothing is in
-- flight, and what has left is what these outlets took. They were run until each output had as many items as it held, or until none could move;
-- or they put nothing on any output for a long time. No output had more than it held.
pub record IsWorldAgain (net : Network) (inputs : List (List ℤ)) (room : ℕ) (held : List ℕ) (first : WorldView) : Type 0 where
  pub table : TableView
  pub rerun : ∥ HasRerun net inputs table ∥₁
  pub stopped : Stopped
  pub since : StoppedSince net inputs (limits_of net.channels held) table stopped
  pub within : KeepsLimits net (limits_of net.channels held) (first_table net) table
  pub outlets : List OutletView
  pub listed : map (λ (outlet : OutletView). outlet.channel) outlets ≡ output_channels 0 net.channels
  pub taken : HaveTakenAll net inputs table (map left_by outlets)
  pub is : first
      ≡ with_rooms (even_rooms (nearest_room room))
      (world_again net inputs (records_there net table) (replicate (node_count net) 0) outlets)

-- ---- with what a run begins

-- no output held an item
abbrev pub held_nothing : List ℕ → Bool
held_nothing held = list_all (λ (items : ℕ). items == 0) held

-- where no output held an item the network's first world, and else one where its processes were run again
abbrev pub BeginsBehind : Bool → Network → List (List ℤ) → ℕ → List ℕ → WorldView → Type 0
BeginsBehind true net inputs room held first = first ≡ first_world net inputs room
BeginsBehind false net inputs room held first = IsWorldAgain net inputs room held first

-- A run that doesn't go on begins with the network's first world. One that does begins behind what its outputs held, each so many items.
abbrev pub IsBeginning : Option (List ℕ) → Network → List (List ℤ) → ℕ → WorldView → Type 0
IsBeginning None net inputs room first = first ≡ first_world net inputs room
IsBeginning (Some held) net inputs room first = BeginsBehind (held_nothing held) net inputs room held first

-- ---- why none does

-- what is told of an outlet that refused
abbrev pub outlet_fault : OutletFault → BeginFault
outlet_fault outlet.NoMemory = NoMemory
outlet_fault outlet.Failed = Outlet

-- Why a run doesn't go on, by the outlets' counts of failures before and after: it is an outlet only where one failed.
abbrev pub IsBeginStop : List ℕ → List ℕ → BeginFault → Type 0
IsBeginStop before after NoMemory = Unit {0}
IsBeginStop before after Outlet = IsBehindBy before after outlet.Failed
IsBeginStop before after Astray = Unit {0}
