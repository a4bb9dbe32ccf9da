-- The event that is next for a node is one of that node.
use Rattle.std.proofs.Common.{◌≡◌, ◌∙◌, ℕ, ℤ, Bool, true, false, ◌&&◌, not, cond, List, length, Option, Some, None, refl}
use Rattle.std.proofs.Common.{slice_get}
use Rattle.std.specs.Prelude.{is_some, nat_lt}
use Rattle.protocol.specs.Node.Common.{Network, live_in, node_job, is_down, may_decide}
use Rattle.protocol.specs.World.Common.{Traffic, choice, EventView, ByNode, Release, event_node, WorldInvariant}
use Rattle.protocol.specs.World.Common.{StationView, WorldView, next_release, turns_of}
use Rattle.protocol.specs.World.Choice.{choice_of, deliver_or, due_place, has_sent, may_recover, own_choice}
use Rattle.protocol.specs.World.Choice.{station_choice, wants_checkpoint}
use Rattle.protocol.specs.declared.event.Deed.TheVariants as event
use Rattle.protocol.specs.declared.limits.TheConstants.{MAX_GRANTS}

-- whatever is due of what a node does by itself
own_from : (leaves grants decides starts sends : Bool) (number : ℕ)
    → event_node (cond leaves (Release number) (cond grants (ByNode number event.Grant) (cond decides
    (ByNode number event.Decide) (cond starts (ByNode number event.Start) (cond sends (ByNode number event.Send)
    (ByNode number event.Idle))))))
    ≡ number
own_from true grants decides starts sends number = refl
own_from false true decides starts sends number = refl
own_from false false true starts sends number = refl
own_from false false false true sends number = refl
own_from false false false false true number = refl
own_from false false false false false number = refl

own_at_home : (net : Network) (inputs : List (List ℤ)) (rooms : List ℕ) (nodes round : ℕ) (station : StationView)
    → event_node (own_choice net inputs rooms nodes round station) ≡ station.number
own_at_home net inputs rooms nodes round station =
    own_from (is_some (next_release round station))
    (nat_lt (turns_of round station.turns).granted MAX_GRANTS && is_some (node_job net inputs rooms station.node))
    (may_decide station.number station.node.kept (live_in station.node.mode)) (wants_checkpoint nodes round station)
    (not (is_down station.node.mode) && not (has_sent round station)) station.number

delivered : (number : ℕ) (place : Option ℕ) (other : EventView) → event_node other ≡ number
    → event_node (deliver_or number place other) ≡ number
delivered number None other is = is
delivered number (Some place) other is = refl

recovered : (recovers : Bool) (number : ℕ) (other : EventView) → event_node other ≡ number
    → event_node (cond recovers (ByNode number event.Recover) other) ≡ number
recovered true number other is = refl
recovered false number other is = is

station_at_home : (net : Network) (inputs : List (List ℤ)) (rooms : List ℕ) (traffic : Traffic) (nodes round : ℕ)
    (station : StationView) → event_node (station_choice net inputs rooms traffic nodes round station) ≡ station.number
station_at_home net inputs rooms traffic nodes round station =
    recovered (may_recover round station) station.number
    (deliver_or station.number (due_place traffic round station) (own_choice net inputs rooms nodes round station))
    (delivered station.number (due_place traffic round station) (own_choice net inputs rooms nodes round station)
    (own_at_home net inputs rooms nodes round station))

pub choice_at_home : (world : WorldView) → WorldInvariant world → (node : ℕ) → event_node (choice world node) ≡ node
choice_at_home world inv node = at (slice_get world.stations node) refl
  where
    at : (found : Option StationView) → slice_get world.stations node ≡ found
        → event_node (choice_of world node found) ≡ node
    at None is = refl
    at (Some station) is =
        station_at_home world.net world.inputs world.rooms world.traffic (length world.stations) world.round station
        ∙ (inv.numbered node station is).0
