-- What a world leaves on its disks and in its outlets.
use Rattle.std.proofs.Common.{◌≡◌, ℕ, ℤ, List, [], ◌∷◌, ◌++◌, map, refl, sym, ap, subst, ◌∙◌}
use Rattle.std.specs.Prelude.{IsPermutation}
use Rattle.std.specs.List.{AllByRecursion}
use Rattle.std.proofs.lemmas.List.{map-append}
use Rattle.std.proofs.lemmas.List.Sorted.{IsPermutation-map}
use Rattle.sector_disk.specs.declared.disk.Disk.{Ghosts as DiskWords}
use Rattle.gate_cell.specs.declared.cell.StableCell.{Ghosts as CellWords}
use Rattle.slot_cell.specs.SplitCell.{may_leave_whole_of, whole_of}
use Rattle.slot_cell.specs.declared.slot_cell.SlotCell.{Ghosts as SlotWords}
use Rattle.slot_cell.specs.declared.split.SplitCell.{SplitCell}
use Rattle.ckpt_store.specs.StoreView.{record_spelled}
use Rattle.protocol.specs.Node.Common.{cell_in, record_in, RecordView, Spells, Whole}
use Rattle.protocol.specs.World.Common.{output_channels, outputs_of, OutputView, records_of, WorldInvariant}
use Rattle.protocol.specs.World.Common.{WorldView}
use Rattle.starting_again.proofs.Leaving.{gives_back_its_own, leaves_its_own}
use Rattle.starting_again.specs.WasLeft.{outputs_by_station, WasLeft}
use Rattle.station.proofs.Cells.{own_spelled}
use Rattle.station.specs.OutputView.{output_view, outputs_view}
use Rattle.station.specs.StationView.{outlet_views, station_view}
use Rattle.station.specs.declared.output.Output.{Output}
use Rattle.station.specs.declared.station.Station.{Station}
use Rattle.world.specs.Closing.{all_outputs, disk_of, disks_of}
use Rattle.world.specs.Left.{AreLeft, HoldsRecord, record_on, records_on}

-- the outputs as they are seen by their outlets, and as they are
pub outputs_shown : {O : Type 0} (taken : O → List ℤ) (failures : O → ℕ) (outputs : List (Output O))
    → outputs_of (outlet_views taken failures outputs) ≡ outputs_view taken outputs
outputs_shown taken failures [] = refl
outputs_shown taken failures (output ∷ outputs) =
    ap (λ (rest : List OutputView). output_view taken output ∷ rest) (outputs_shown taken failures outputs)

channels_shown : {O : Type 0} (taken : O → List ℤ) (outputs : List (Output O))
    → map (λ (output : OutputView). output.channel) (outputs_view taken outputs)
    ≡ map (λ (output : Output O). output.channel) outputs
channels_shown taken [] = refl
channels_shown taken (output ∷ outputs) =
    ap (λ (rest : List ℕ). output.channel ∷ rest) (channels_shown taken outputs)

module _ {D O : Type 0} {disk : DiskWords D} {cell : CellWords (SplitCell D disk)}
    {slots : SlotWords (SplitCell D disk)} (taken : O → List ℤ) (failures : O → ℕ)
    (shows : (c : SplitCell D disk) → slots.whole c ≡ whole_of c)
    (leaves : (c : SplitCell D disk) (left : Whole) → may_leave_whole_of c left → slots.may_leave_whole c left) where
  -- the record of a station is the one on its disk
  record_there : (station : Station (SplitCell D disk) O slots cell)
      → record_in station.node.store ≡ record_on disk.sector_count disk.content (disk_of station)
  record_there station = ap record_spelled (shows (cell_in station.node.store))

  disk_held : (station : Station (SplitCell D disk) O slots cell)
      → HoldsRecord disk.sector_count disk.content disk.may_leave (disk_of station)
  disk_held station = record {
    long = (cell_in station.node.store).sectors;
    alone = λ left might. subst (λ (kept : RecordView). ∥ Spells kept left ∥₁) (record_there station)
        (own_spelled cell slots station.node.store station.node.kept.settled left
        (leaves (cell_in station.node.store) left might));
  }

  all_held : (stations : List (Station (SplitCell D disk) O slots cell))
      → AllByRecursion (HoldsRecord disk.sector_count disk.content disk.may_leave) (disks_of stations)
  all_held [] = tt
  all_held (station ∷ stations) = (disk_held station, all_held stations)

  records_there : (stations : List (Station (SplitCell D disk) O slots cell))
      → records_of (map (station_view taken failures) stations)
      ≡ records_on disk.sector_count disk.content (disks_of stations)
  records_there [] = refl
  records_there (station ∷ stations) =
      ap (λ (kept : RecordView). kept ∷ records_of (map (station_view taken failures) stations)) (record_there station)
      ∙ ap (λ (rest : List RecordView). record_on disk.sector_count disk.content (disk_of station) ∷ rest)
      (records_there stations)

  outputs_there : (stations : List (Station (SplitCell D disk) O slots cell))
      → outputs_by_station (map (station_view taken failures) stations) ≡ outputs_view taken (all_outputs stations)
  outputs_there [] = refl
  outputs_there (station ∷ stations) =
      ap (λ (own : List OutputView). own ++ outputs_by_station (map (station_view taken failures) stations))
      (outputs_shown taken failures station.outputs.items)
      ∙ (ap (λ (rest : List OutputView). outputs_view taken station.outputs.items ++ rest) (outputs_there stations)
      ∙ sym (map-append (output_view taken) station.outputs.items (all_outputs stations)))

  pub closed_left : (world : WorldView) (stations : List (Station (SplitCell D disk) O slots cell))
      (sorted : List (Output O)) (disks : List D) → WorldInvariant world
      → world.stations ≡ map (station_view taken failures) stations → disks ≡ disks_of stations
      → IsPermutation (all_outputs stations) sorted
      → map (λ (output : Output O). output.channel) sorted ≡ output_channels 0 world.net.channels
      → AreLeft disk.sector_count disk.content disk.may_leave taken world.net world.inputs disks sorted
  closed_left world stations sorted disks inv same are moved listed =
      let seen : IsPermutation (outputs_by_station world.stations) (outputs_view taken sorted) =
      subst (λ (list : List OutputView). IsPermutation list (outputs_view taken sorted))
      (sym (ap outputs_by_station same ∙ outputs_there stations))
      (IsPermutation-map (output_view taken) (all_outputs stations) sorted moved) in
      subst (λ (list : List D). AreLeft disk.sector_count disk.content disk.may_leave taken world.net world.inputs list
      sorted) (sym are)
      (record {
        held = all_held stations;
        left = subst (λ (records : List RecordView). WasLeft world.net world.inputs records (outputs_view taken sorted))
            (ap records_of same ∙ records_there stations)
            (subst (WasLeft world.net world.inputs (records_of world.stations))
            (sym (gives_back_its_own world (outputs_view taken sorted) inv seen (channels_shown taken sorted ∙ listed)))
            (leaves_its_own world inv));
      })
