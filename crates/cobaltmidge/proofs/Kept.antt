-- What the outlets of a run took is what has left.
use Rattle.std.proofs.Common.{◌≡◌, ◌∙◌, ℕ, suc, ◌+◌, ℤ, List, [], ◌∷◌, map, Some, refl, sym, ap, arith}
use Rattle.std.specs.List.{All}
use Rattle.std.specs.Prelude.{slice_get, IsPermutation}
use Rattle.std.proofs.lemmas.List.Elements.{All-nil, All-cons, All-head, All-tail, All-append}
use Rattle.std.proofs.lemmas.List.Sorted.{All-permutation}
use Rattle.gate_cell.specs.declared.cell.StableCell.{Ghosts as CellWords}
use Rattle.slot_cell.specs.declared.slot_cell.SlotCell.{Ghosts as SlotWords}
use Rattle.protocol.specs.World.Common.{OutletView, output_channels, released_of, StationView, WorldInvariant, WorldView}
use Rattle.protocol_laws.specs.Join.Leaves.{left_is}
use Rattle.station.specs.StationView.{outlet_view, outlet_views, station_view}
use Rattle.station.specs.declared.output.Output.{Output}
use Rattle.station.specs.declared.station.Station.{Station}
use Rattle.world.specs.Closing.{all_outputs}
use Rattle.cobaltmidge.specs.KeptOutlets.{taken_streams}
use Rattle.cobaltmidge.specs.Runs.{released_streams}

-- its outlet took what has left by its channel
abbrev HasLeft : {O : Type 0} → (O → List ℤ) → WorldView → Output O → Type 0
HasLeft taken world output = taken output.outlet ≡ released_of output.channel world.stations

module _ {O : Type 0} (taken : O → List ℤ) (failures : O → ℕ) (world : WorldView) (inv : WorldInvariant world) where
  -- so it is with the outputs of a station, of which these are the last ones
  of_station : (k : ℕ) (station : StationView) → slice_get world.stations k ≡ Some station → (first : ℕ)
      (outputs : List (Output O))
      → ((j : ℕ) (outlet : OutletView) → slice_get (outlet_views taken failures outputs) j ≡ Some outlet
      → slice_get station.outlets (first + j) ≡ Some outlet)
      → All (HasLeft taken world) outputs
  of_station k station there first [] each = All-nil (HasLeft taken world)
  of_station k station there first (output ∷ outputs) each =
      All-cons (HasLeft taken world) output outputs
      (sym (left_is world.net world.inputs world.stations k station there inv.numbered inv.stations (first + 0)
      (outlet_view taken failures output) (each 0 (outlet_view taken failures output) refl)))
      (of_station k station there (suc first) outputs
      (λ j outlet is. (let place : first + suc j ≡ suc first + j = omega arith in
      ap (slice_get station.outlets) (sym place) ∙ each (suc j) outlet is)))

  streams_of : (outputs : List (Output O)) → All (HasLeft taken world) outputs
      → taken_streams taken outputs
      ≡ map (λ (channel : ℕ). released_of channel world.stations) (map (λ (output : Output O). output.channel) outputs)
  streams_of [] all = refl
  streams_of (output ∷ outputs) all =
      ap (λ (stream : List ℤ). stream ∷ taken_streams taken outputs)
      (All-head (HasLeft taken world) output outputs all)
      ∙ ap (λ (rest : List (List ℤ)). released_of output.channel world.stations ∷ rest)
      (streams_of outputs (All-tail (HasLeft taken world) output outputs all))

  module _ {C : Type 0} {cell : CellWords C} {slots : SlotWords C} where
    -- and with those of all stations, of which these are the last ones
    of_stations : (first : ℕ) (stations : List (Station C O slots cell))
        → ((k : ℕ) (station : StationView) → slice_get (map (station_view taken failures) stations) k ≡ Some station
        → slice_get world.stations (first + k) ≡ Some station)
        → All (HasLeft taken world) (all_outputs stations)
    of_stations first [] each = All-nil (HasLeft taken world)
    of_stations first (station ∷ stations) each =
        All-append (HasLeft taken world) station.outputs.items (all_outputs stations)
        (of_station (first + 0) (station_view taken failures station)
        (each 0 (station_view taken failures station) refl) 0 station.outputs.items
        (λ j outlet is. (let place : 0 + j ≡ j = omega arith in
        ap (slice_get (outlet_views taken failures station.outputs.items)) place ∙ is)))
        (of_stations (suc first) stations
        (λ k next is. (let place : first + suc k ≡ suc first + k = omega arith in
        ap (slice_get world.stations) (sym place) ∙ each (suc k) next is)))

    -- the outputs that a world gives back, in order of their channels
    pub closed_streams : (stations : List (Station C O slots cell)) (closed : List (Output O))
        → world.stations ≡ map (station_view taken failures) stations → IsPermutation (all_outputs stations) closed
        → map (λ (output : Output O). output.channel) closed ≡ output_channels 0 world.net.channels
        → taken_streams taken closed ≡ released_streams world.net world.stations
    closed_streams stations closed same moved listed =
        streams_of closed
        (All-permutation (HasLeft taken world) (all_outputs stations) closed moved
        (of_stations 0 stations
        (λ k station is. (let place : 0 + k ≡ k = omega arith in
        ap (slice_get world.stations) place ∙ (ap (λ (list : List StationView). slice_get list k) same ∙ is)))))
        ∙ ap (map (λ (channel : ℕ). released_of channel world.stations)) listed
