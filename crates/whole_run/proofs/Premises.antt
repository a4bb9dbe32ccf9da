-- What the calls of a world promise is what may happen in a run.
use Rattle.std.proofs.Common.{◌≡◌, ℕ, ℤ, List, [], ◌∷◌, ◌++◌, map, ◌⊎◌, Some, None, refl, sym, ap, subst, ◌∙◌}
use Rattle.std.specs.Prelude.{IsPermutation}
use Rattle.std.proofs.lemmas.List.{map-append}
use Rattle.std.proofs.lemmas.List.Sorted.{IsPermutation-map}
use Rattle.sector_disk.specs.declared.disk.Disk.{Ghosts as DiskWords}
use Rattle.gate_cell.specs.declared.cell.StableCell.{Ghosts as CellWords}
use Rattle.slot_cell.specs.SplitCell.{whole_of}
use Rattle.slot_cell.specs.declared.slot_cell.SlotCell.{Ghosts as SlotWords}
use Rattle.slot_cell.specs.declared.split.SplitCell.{SplitCell}
use Rattle.ckpt_store.specs.StoreView.{record_spelled}
use Rattle.outlet.specs.declared.outlet.Outlet.{Ghosts as OutletWords}
use Rattle.protocol.specs.Node.Common.{cell_in, Network, record_in, RecordView}
use Rattle.protocol.specs.World.Common.{AreInLine, EventView, IsStep, output_channels, outputs_of, OutputView}
use Rattle.protocol.specs.World.Common.{records_of, WorldInvariant, WorldView}
use Rattle.protocol.specs.declared.outcome.Outcome.TheVariants as outcome
use Rattle.protocol.specs.declared.reply.Reply.TheVariants as reply
use Rattle.growing.specs.LaterInputs.{AreLaterInputs}
use Rattle.starting_again.proofs.Leaving.{gives_back_its_own}
use Rattle.starting_again.specs.WasLeft.{OpensOver, outputs_by_station, outputs_left}
use Rattle.station.specs.OutputView.{output_view, outputs_view}
use Rattle.station.specs.StationView.{outlet_views, station_view}
use Rattle.station.specs.declared.output.Output.{Output}
use Rattle.station.specs.declared.station.Station.{Station}
use Rattle.world.specs.Closing.{all_outputs, disk_of, disks_of}
use Rattle.world.specs.Left.{record_on, records_on}
use Rattle.world.specs.WholeView.{world_of}
use Rattle.world.specs.declared.world.World.{World}
use Rattle.whole_run.specs.Premises.{CrashIsFound, EventGoesOn}
use Rattle.whole_run.specs.Moments.{AsPromised, Between}
use Rattle.whole_run.specs.Runs.{ByEvent, ByNothing, ByStop, GoesOn}

-- ---- an event

pub event_goes_on : {C O : Type 0} {cell : CellWords C} {slots : SlotWords C} {outlet : OutletWords O}
    (old new : World C O slots cell outlet) → EventGoesOn old new
event_goes_on old new event None applied = ByNothing applied.refused
event_goes_on old new event (Some answer) applied = ByEvent _ event answer applied.step

-- an event that isn't due changes nothing
not_due : (event : EventView) (world : WorldView) → IsStep [] event world reply.NotDue world
not_due event world = record {
  net = refl;
  inputs = refl;
  came = outcome.NotDue;
  act = (refl, refl);
  traffic = refl;
  round = refl;
  rooms = refl;
}

pub crash_is_found : {C O : Type 0} {cell : CellWords C} {slots : SlotWords C} {outlet : OutletWords O}
    (old new : World C O slots cell outlet) → CrashIsFound old new
crash_is_found old new event None lefts records outputs applied left spelled are =
    AsPromised [] event reply.NotDue (world_of old) (not_due event (world_of old))
    (subst (λ (w : WorldView). AreInLine (world_of old).net (world_of old).stations w.stations records) applied.refused
    (applied.line.in_line lefts records left spelled))
    (subst (λ (w : WorldView). (outputs ≡ outputs_left (world_of old)) ⊎ (outputs ≡ outputs_left w)) applied.refused are)
crash_is_found old new event (Some answer) lefts records outputs applied left spelled are =
    AsPromised _ event answer _ applied.step (applied.line.in_line lefts records left spelled) are

-- ---- a stop

outputs_shown : {O : Type 0} (taken : O → List ℤ) (failures : O → ℕ) (outputs : List (Output O))
    → outputs_of (outlet_views taken failures outputs) ≡ outputs_view taken outputs
outputs_shown taken failures [] = refl
outputs_shown taken failures (output ∷ outputs) =
    ap (λ (rest : List OutputView). output_view taken output ∷ rest) (outputs_shown taken failures outputs)

pub channels_shown : {O : Type 0} (taken : O → List ℤ) (outputs : List (Output O))
    → map (λ (output : OutputView). output.channel) (outputs_view taken outputs)
    ≡ map (λ (output : Output O). output.channel) outputs
channels_shown taken [] = refl
channels_shown taken (output ∷ outputs) =
    ap (λ (rest : List ℕ). output.channel ∷ rest) (channels_shown taken outputs)

module _ {D O : Type 0} {disk : DiskWords D} {cell : CellWords (SplitCell D disk)}
    {slots : SlotWords (SplitCell D disk)} (taken : O → List ℤ) (failures : O → ℕ)
    (shows : (c : SplitCell D disk) → slots.whole c ≡ whole_of c) where
  -- the record of a station is the one on its disk
  record_there : (station : Station (SplitCell D disk) O slots cell)
      → record_in station.node.store ≡ record_on disk.sector_count disk.content (disk_of station)
  record_there station = ap record_spelled (shows (cell_in station.node.store))

  kept_on_disks : (stations : List (Station (SplitCell D disk) O slots cell))
      → records_of (map (station_view taken failures) stations)
      ≡ records_on disk.sector_count disk.content (disks_of stations)
  kept_on_disks [] = refl
  kept_on_disks (station ∷ stations) =
      ap (λ (kept : RecordView). kept ∷ records_of (map (station_view taken failures) stations)) (record_there station)
      ∙ ap (λ (rest : List RecordView). record_on disk.sector_count disk.content (disk_of station) ∷ rest)
      (kept_on_disks stations)

  outputs_there : (stations : List (Station (SplitCell D disk) O slots cell))
      → outputs_by_station (map (station_view taken failures) stations) ≡ outputs_view taken (all_outputs stations)
  outputs_there [] = refl
  outputs_there (station ∷ stations) =
      ap (λ (own : List OutputView). own ++ outputs_by_station (map (station_view taken failures) stations))
      (outputs_shown taken failures station.outputs.items)
      ∙ (ap (λ (rest : List OutputView). outputs_view taken station.outputs.items ++ rest) (outputs_there stations)
      ∙ sym (map-append (output_view taken) station.outputs.items (all_outputs stations)))

  given_back : (world : WorldView) (stations : List (Station (SplitCell D disk) O slots cell))
      (outputs : List (Output O)) → WorldInvariant world → world.stations ≡ map (station_view taken failures) stations
      → IsPermutation (all_outputs stations) outputs
      → map (λ (output : Output O). output.channel) outputs ≡ output_channels 0 world.net.channels
      → outputs_view taken outputs ≡ outputs_left world
  given_back world stations outputs inv same moved listed =
      gives_back_its_own world (outputs_view taken outputs) inv
      (subst (λ (list : List OutputView). IsPermutation list (outputs_view taken outputs))
      (sym (ap outputs_by_station same ∙ outputs_there stations))
      (IsPermutation-map (output_view taken) (all_outputs stations) outputs moved))
      (channels_shown taken outputs ∙ listed)

  pub stop_goes_on : (old new : WorldView) (stations : List (Station (SplitCell D disk) O slots cell)) (net : Network)
      (inputs : List (List ℤ)) (outputs : List (Output O)) → WorldInvariant old
      → old.stations ≡ map (station_view taken failures) stations
      → IsPermutation (all_outputs stations) outputs
      → map (λ (output : Output O). output.channel) outputs ≡ output_channels 0 old.net.channels
      → net ≡ old.net → AreLaterInputs old.net old.inputs inputs
      → OpensOver net inputs (records_on disk.sector_count disk.content (disks_of stations))
      (outputs_view taken outputs)
      new
      → GoesOn old new
  stop_goes_on old new stations net inputs outputs inv same moved listed same_net later opens =
      ByStop (records_on disk.sector_count disk.content (disks_of stations)) (outputs_view taken outputs)
      (Between (sym (ap records_of same ∙ kept_on_disks stations))
      (given_back old stations outputs inv same moved listed))
      (subst (AreLaterInputs old.net old.inputs) (sym opens.same_inputs) later)
      (subst (λ (n : Network). OpensOver n new.inputs (records_on disk.sector_count disk.content (disks_of stations))
      (outputs_view taken outputs) new) same_net
      (subst (λ (i : List (List ℤ)). OpensOver net i (records_on disk.sector_count disk.content (disks_of stations))
      (outputs_view taken outputs) new) (sym opens.same_inputs) opens))
