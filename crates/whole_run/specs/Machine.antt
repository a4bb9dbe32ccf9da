-- A run of worlds as a run of the abstract machine of recovery lines.
use Rattle.std.specs.Prelude.{◌≡◌, ◌==◌, if◌then◌else◌, ℕ, List, [], ◌∷◌, length}
use Rattle.protocol.specs.Node.Common.{Network, RecordView}
use Rattle.protocol.specs.World.Common.{flights_to, net_seen, OutputView, Reachable, records_seen, World, world_seen}
use Rattle.protocol.specs.World.Common.{WorldView}
use Rattle.protocol_laws.specs.Join.Flown.{all_flown}
use Rattle.recovery_line.specs.Line.{Covers, Sound}
use Rattle.recovery_line.specs.Records.{effective}
use Rattle.recovery_line.specs.Starts.{IsStart}
use Rattle.recovery_line.specs.Worlds.{Run}

-- a world as the machine sees it, where just that is under way which is in flight
abbrev pub machine_world : WorldView → World
machine_world world = world_seen world.stations (all_flown world.traffic)

-- Steps of the machine lead from the earlier world to the later one, and to the earlier one from where its runs begin.
pub record IsOneRun (earlier last : WorldView) : Type 0 where
  pub reached : Reachable (net_seen earlier.net) (machine_world earlier)
  pub worlds : List World
  pub run : Run (net_seen earlier.net) (machine_world earlier) worlds (machine_world last)

-- Two of these make one, since the second begins with the very world with which the first ends.
abbrev pub RunsMakeOne : Type 0
RunsMakeOne = (first next last : WorldView) → next.net ≡ first.net → IsOneRun first next → IsOneRun next last
    → IsOneRun first last

-- With this world a run of the machine may begin, and nothing is in flight.
pub record IsMachineStart (world : WorldView) : Type 0 where
  pub start : ∥ IsStart (net_seen world.net) (machine_world world) ∥₁
  pub nothing : (to : ℕ) → flights_to world.traffic to ≡ []

-- how many items the output of a channel took
abbrev pub count_left : List OutputView → ℕ → ℕ
count_left [] c = 0
count_left (output ∷ outputs) c = if output.channel == c then length output.taken else count_left outputs c

-- The recovery line of these records is sound where these outputs have what has left, and covers that.
pub record IsSoundLine (net : Network) (records : List RecordView) (outputs : List OutputView) : Type 0 where
  pub sound : Sound (net_seen net) (effective (records_seen records)) (count_left outputs)
  pub covers : Covers (net_seen net) (records_seen records) (count_left outputs)
