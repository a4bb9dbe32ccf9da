-- Whatever happens while the disks are there is steps of the abstract machine.
use Rattle.std.proofs.Common.{inl, inr, List, [], ◌∷◌, refl, ap}
use Rattle.std.proofs.Math.Logic.{∥∥₁_map, ∥∥₁_map₂}
use Rattle.protocol.specs.Node.Common.{RecordView}
use Rattle.protocol.specs.World.Common.{net_seen, OutputView, records_of, records_seen, WorldInvariant, WorldView}
use Rattle.protocol.specs.World.Coordination.{last_of}
use Rattle.protocol_laws.specs.World.StepKeeps.{step_runs_on}
use Rattle.recovery_line.proofs.Theorems.{line_never_falls_back}
use Rattle.recovery_line.specs.Line.{NotBehind}
use Rattle.recovery_line.specs.Worlds.{Send}
use Rattle.starting_again.proofs.Again.{runs_on_again}
use Rattle.whole_run.proofs.Going.{goes, goes_there, lies, starts_again}
use Rattle.whole_run.proofs.Inside.{LeadsToLeft}
use Rattle.whole_run.proofs.Joining.{runs_as_one, runs_still, runs_then}
use Rattle.whole_run.specs.Machine.{IsOneRun, machine_world}
use Rattle.whole_run.specs.Runs.{ByEvent, ByItems, ByNothing, ByRooms, ByStop, EachNext, GoesOn}

module _ (world : WorldView) (records : List RecordView) (outputs : List OutputView) (inv : WorldInvariant world)
    (leads : LeadsToLeft world records outputs) where
  -- to the world that leaves what lies there at a moment
  pub one_there : ∥ IsOneRun world leads.next ∥₁
  one_there = elim leads.comes [
    | inl same ↦ ∥∥₁_map inv.run (runs_still world leads.next (ap machine_world same))
    | inr event ↦ ∥∥₁_map (step_runs_on event.0 event.1 world event.2 leads.next inv event.3)
        (runs_as_one world leads.next)
  ]

pub one_next : (old new : WorldView) → WorldInvariant old → GoesOn old new → ∥ IsOneRun old new ∥₁
one_next old new inv (ByEvent fits event answer step) =
    ∥∥₁_map (step_runs_on fits event old answer new inv step) (runs_as_one old new)
one_next old new inv (ByRooms rooms is) = ∥∥₁_map inv.run (runs_still old new (ap machine_world is))
one_next old new inv (ByItems inputs later is) = ∥∥₁_map inv.run (runs_still old new (ap machine_world is))
one_next old new inv (ByNothing same) = ∥∥₁_map inv.run (runs_still old new (ap machine_world same))
one_next old new inv (ByStop records outputs there later opens) =
    let leads = lies old records outputs inv there in
    let next = leads.next in
    let again = starts_again old new records outputs inv leads later opens in
    let sound = (goes_there old records outputs inv leads).sound in
    ∥∥₁_map₂ (one_there old records outputs inv leads) sound.run
    (λ one run. runs_then old next new leads.same_net one
    (runs_as_one next new
    (runs_on_again next.net next.stations new.stations next.traffic new.traffic again.stations again.nothing run)))

pub one_all : (world : WorldView) (worlds : List WorldView) → WorldInvariant world → EachNext GoesOn world worlds
    → ∥ IsOneRun world (last_of world worlds) ∥₁
one_all world [] inv all = ∥∥₁_map inv.run (runs_still world world refl)
one_all world (next ∷ worlds) inv all =
    let gone = goes world next inv all.0 in
    ∥∥₁_map₂ (one_next world next inv all.0) (one_all next worlds gone.sound all.1)
    (runs_then world next (last_of next worlds) gone.same_net)

-- ---- and so the line doesn't fall back

pub line_not_behind : (earlier last : WorldView) → IsOneRun earlier last
    → NotBehind (records_seen (records_of earlier.stations)) (records_seen (records_of last.stations))
line_not_behind earlier last one =
    (line_never_falls_back (net_seen earlier.net) (machine_world earlier) (machine_world last) (machine_world last)
    one.worlds (records_seen (records_of last.stations)) (machine_world last).outlets one.reached one.run
    (Send (record { records = refl; modes = refl; outlets = refl; flight = λ packet is. inl is }))
    (record { of_records = inl refl; of_outlets = inl refl })).0
