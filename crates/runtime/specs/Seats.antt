-- What several seats were answered, and shown.
use Rattle.std.specs.Prelude.{◌≡◌, ℕ, List, map, sum_by}
use Rattle.std.specs.List.{All, range_with_len}
use Rattle.journal.specs.Histories.{Begins, seen}
use Rattle.run_log.specs.Numbers.{Numbers, numbers}
use Rattle.run_log.specs.declared.history.Line.{Line}
use Rattle.run_log.specs.declared.seat_count.Run.{Ghosts as RunWords}
use Rattle.runtime.specs.declared.hub_run.HubRun.{Ghosts as HubWords}
use Rattle.runtime.specs.declared.seat.DriverSeat.{DriverSeat}
use Rattle.runtime.specs.declared.seat.NodeSeat.{NodeSeat}

-- the numbers of these seats, added up
abbrev pub numbers_of_seats : {ThisRun : Type 0} {hub : HubWords ThisRun} {run : RunWords ThisRun} → List (NodeSeat ThisRun hub run) → Numbers
numbers_of_seats {ThisRun} {hub} {run} seats =
    numbers (sum_by (λ (seat : NodeSeat ThisRun hub run). seat.count.entries.amount) seats)
    (sum_by (λ (seat : NodeSeat ThisRun hub run). seat.count.nothings.amount) seats)
    (sum_by (λ (seat : NodeSeat ThisRun hub run). seat.count.not_yets.amount) seats)
    (sum_by (λ (seat : NodeSeat ThisRun hub run). seat.count.no_mores.amount) seats)
    (sum_by (λ (seat : NodeSeat ThisRun hub run). seat.count.stops.amount) seats)

-- one of each of so many nodes, by number
abbrev pub AreOfNodes : {ThisRun : Type 0} {hub : HubWords ThisRun} {run : RunWords ThisRun} → ℕ → List (NodeSeat ThisRun hub run) → Type 0
AreOfNodes {ThisRun} {hub} {run} nodes seats =
    map (λ (seat : NodeSeat ThisRun hub run). seat.node) seats ≡ map (λ (number : ℕ). number) (range_with_len 0 nodes)

-- What each of these seats was shown last begins this history, and so does what the driver's was.
abbrev pub AreShown : {ThisRun : Type 0} {hub : HubWords ThisRun} {run : RunWords ThisRun} → List Line → List (NodeSeat ThisRun hub run) → DriverSeat ThisRun hub run
    → Type 0
AreShown {ThisRun} {hub} {run} history seats driver =
    All (λ (seat : NodeSeat ThisRun hub run). Begins (seen seat.reader) history) seats × Begins (seen driver.reader) history
