-- What the laws of checkpoints that several nodes take together say, in one form for all events.
use Rattle.std.specs.Prelude.{◌≡◌, ℕ, ℤ, Bool, if◌then◌else◌, List, [], length, Some, slice_get, slice_set}
use Rattle.protocol.specs.Node.Common.{node_count, Network, IsValid, RecordView, next_record}
use Rattle.protocol.specs.World.Common.{Traffic, all_sent, opening_traffic, plan_of, IsJoined, AreInLine, AreEither}
use Rattle.protocol.specs.World.Common.{HasRun, RunsOn, DoneView, AreSound, IsNumbered, StationInvariant, records_of}
use Rattle.protocol.specs.World.Common.{has_happened, ReplyView, OutletView, StationView, Setting, StationPlan}
use Rattle.protocol.specs.World.Common.{traffic_left, traffic_acted, next_release, IsPlanned, IsInstalled, IsRelease}
use Rattle.protocol.specs.World.Common.{TrafficIsSound}
use Rattle.protocol.specs.declared.event.Deed.{Deed}
use Rattle.protocol.specs.declared.event.NetworkAct.{NetworkAct}
use Rattle.protocol.specs.World.OpeningWorld.{opening_stations}
use Rattle.protocol.specs.World.Steps.{plan_sendings}
use Rattle.protocol.specs.declared.outcome.Outcome.{Outcome}

-- nothing has left by these outlets
abbrev pub HaveTakenNothing : List OutletView → Type 0
HaveTakenNothing outlets = (i : ℕ) (outlet : OutletView) → slice_get outlets i ≡ Some outlet → outlet.taken ≡ []

-- what is in flight after a deed that came out and was answered so: as before, where nothing happened
abbrev pub traffic_by : Traffic → ℕ → ℕ → StationPlan → Outcome → ReplyView → Traffic
traffic_by traffic k round plan came answer =
    if has_happened answer
    then all_sent round (plan_sendings plan came) (traffic_left traffic k plan.came) else traffic

-- What has to be known of the station of a node and of its world: the network is valid, there is one station a node, by
-- their numbers, and both the station and what is in flight are sound.
pub record StandsIn (setting : Setting) (stations : List StationView) (k : ℕ) (old : StationView) : Type 0 where
  pub valid : IsValid setting.net
  pub count : length stations ≡ node_count setting.net
  pub there : slice_get stations k ≡ Some old
  pub number : old.number ≡ k
  pub node : old.node.kept.node ≡ k
  pub sound : StationInvariant setting.net setting.inputs old
  pub joined : IsJoined setting.net old
  pub traffic : TrafficIsSound setting.net setting.inputs setting.traffic

-- An opening world of outlets that have taken nothing has run, with no step.
abbrev pub OpeningHasRun : Type 0
OpeningHasRun =
    (net : Network) (failures : List ℕ) (outlets : List OutletView) → HaveTakenNothing outlets
    → ∥ HasRun net (opening_stations net failures outlets) opening_traffic ∥₁

-- However a deed of a node comes out, on which device call ever its device fails, the world goes on by steps of the
-- machine: the deed is some, and so is half of it with the crash behind it.
abbrev pub DeedsRun : Type 0
DeedsRun =
    (setting : Setting) (stations : List StationView) (k : ℕ) (old new : StationView) (deed : Deed)
    (fits : RecordView → Bool) (came : Outcome) (answer : ReplyView) → StandsIn setting stations k old
    → IsPlanned fits setting.round (plan_of setting k deed old) came old answer new
    → ∥ HasRun setting.net stations setting.traffic ∥₁
    → ∥ RunsOn setting.net stations setting.traffic (slice_set stations k new)
    (traffic_by setting.traffic k setting.round (plan_of setting k deed old) came answer) ∥₁

-- Whatever records a crash leaves in a deed, of each station the one of before or of this one the one that the deed
-- puts, the line that follows from them is in order.
abbrev pub DeedsKeepTheLine : Type 0
DeedsKeepTheLine =
    (setting : Setting) (stations : List StationView) (k : ℕ) (old new : StationView) (deed : Deed)
    (records : List RecordView) → StandsIn setting stations k old → new.outlets ≡ old.outlets
    → AreEither (records_of stations)
    (slice_set (records_of stations) k (next_record (plan_of setting k deed old).prospect old.node.kept)) records
    → ∥ HasRun setting.net stations setting.traffic ∥₁
    → AreInLine setting.net stations (slice_set stations k new) records

-- A turn that comes back is one step.
abbrev pub InstallsRun : Type 0
InstallsRun =
    (net : Network) (inputs : List (List ℤ)) (stations : List StationView) (k : ℕ) (old new : StationView)
    (done : DoneView) (answer : ReplyView) (traffic : Traffic) → slice_get stations k ≡ Some old
    → old.node.kept.node ≡ k → StationInvariant net inputs old → StationInvariant net inputs new
    → IsInstalled net.channels done old answer new → ∥ HasRun net stations traffic ∥₁
    → ∥ RunsOn net stations traffic (slice_set stations k new) traffic ∥₁

-- An item that leaves is two steps, one in which it leaves and one in which the log lets go of it; where the outlet
-- failed it may be the second alone. The line is in order whatever leaves.
abbrev pub ReleasesRun : Type 0
ReleasesRun =
    (net : Network) (inputs : List (List ℤ)) (stations : List StationView) (k : ℕ) (old new : StationView)
    (round : ℕ) (answer : ReplyView) (traffic : Traffic) → slice_get stations k ≡ Some old → IsNumbered stations
    → AreSound net inputs stations → IsNumbered (slice_set stations k new)
    → AreSound net inputs (slice_set stations k new) → IsRelease round (next_release round old) old answer new
    → ∥ HasRun net stations traffic ∥₁ → ∥ RunsOn net stations traffic (slice_set stations k new) traffic ∥₁

-- A release puts no record: the line of those that are kept is in order, with what had left and with what has left
-- then.
abbrev pub ReleasesKeepTheLine : Type 0
ReleasesKeepTheLine =
    (net : Network) (inputs : List (List ℤ)) (stations : List StationView) (k : ℕ) (old new : StationView)
    (round : ℕ) (answer : ReplyView) (traffic : Traffic) (records : List RecordView) → slice_get stations k ≡ Some old
    → IsNumbered stations → AreSound net inputs stations → IsNumbered (slice_set stations k new)
    → AreSound net inputs (slice_set stations k new) → IsRelease round (next_release round old) old answer new
    → AreEither (records_of stations) (records_of stations) records → ∥ HasRun net stations traffic ∥₁
    → AreInLine net stations (slice_set stations k new) records

-- What the network does to a packet in flight is no step at all.
abbrev pub NetworkRuns : Type 0
NetworkRuns =
    (net : Network) (stations : List StationView) (k place : ℕ) (act : NetworkAct) (traffic : Traffic)
    → ∥ HasRun net stations traffic ∥₁
    → ∥ RunsOn net stations traffic stations (traffic_acted act traffic k place) ∥₁

-- The line of the records that the stations keep is in order at any time.
abbrev pub LinesAreSound : Type 0
LinesAreSound =
    (net : Network) (stations : List StationView) (traffic : Traffic) → ∥ HasRun net stations traffic ∥₁
    → AreInLine net stations stations (records_of stations)

-- ---- what may be said

-- After each deed, however it comes out, what a station keeps and collects may be said to other nodes; and so it is of
-- each station of an opening world.
abbrev pub DeedsStayJoined : Type 0
DeedsStayJoined =
    (setting : Setting) (stations : List StationView) (k : ℕ) (old new : StationView) (deed : Deed)
    (fits : RecordView → Bool) (came : Outcome) (answer : ReplyView) → StandsIn setting stations k old
    → IsPlanned fits setting.round (plan_of setting k deed old) came old answer new → IsJoined setting.net new

abbrev pub OpeningIsJoined : Type 0
OpeningIsJoined =
    (net : Network) (failures : List ℕ) (outlets : List OutletView) (k : ℕ) (station : StationView)
    → slice_get (opening_stations net failures outlets) k ≡ Some station → IsJoined net station
