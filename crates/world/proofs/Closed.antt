-- The outputs of a world's stations are those of its network.
use Rattle.std.proofs.Common.{◌≡◌, ℕ, suc, ◌+◌, ℤ, List, [], ◌∷◌, ◌++◌, length, map, Some, refl, sym, ap, ◌∙◌, arith}
use Rattle.std.specs.Prelude.{slice_get, IsPermutation}
use Rattle.std.specs.List.Sorted.{IsNonDecreasingBy}
use Rattle.std.proofs.lemmas.List.{map-append}
use Rattle.protocol.specs.Node.Common.{Network}
use Rattle.gate_cell.specs.declared.cell.StableCell.{Ghosts as CellWords}
use Rattle.slot_cell.specs.declared.slot_cell.SlotCell.{Ghosts as SlotWords}
use Rattle.protocol.specs.World.Common.{outputs_of, WorldInvariant, OutputView, output_channels, outputs_on}
use Rattle.protocol.specs.World.Common.{StationView, WorldView}
use Rattle.protocol_laws.specs.World.ClosedLaws.{joined, AreOutputsFrom, closed_channels}
use Rattle.world.specs.Closing.{all_outputs}
use Rattle.station.specs.StationView.{outlet_views}
use Rattle.station.specs.StationView.{station_view}
use Rattle.station.specs.declared.output.Output.{Output}
use Rattle.station.specs.declared.station.Station.{Station}

shown_channels : {O : Type 0} (taken : O → List ℤ) (failures : O → ℕ) (outputs : List (Output O))
    → map (λ (output : OutputView). output.channel) (outputs_of (outlet_views taken failures outputs))
    ≡ map (λ (output : Output O). output.channel) outputs
shown_channels taken failures [] = refl
shown_channels taken failures (x ∷ outputs) =
    ap (λ (rest : List ℕ). x.channel ∷ rest) (shown_channels taken failures outputs)

module _ {C O : Type 0} {cell : CellWords C} {slots : SlotWords C} (taken : O → List ℤ) (failures : O → ℕ) where
  channels_by_station : List (Station C O slots cell) → List (List ℕ)
  channels_by_station stations =
      map (λ (s : Station C O slots cell). map (λ (output : Output O). output.channel) s.outputs.items) stations

  outputs_from : (net : Network) (first : ℕ) (stations : List (Station C O slots cell))
      → ((k : ℕ) (s : StationView) → slice_get (map (station_view taken failures) stations) k ≡ Some s
      → map (λ (output : OutputView). output.channel) (outputs_of s.outlets) ≡ outputs_on net (first + k))
      → AreOutputsFrom net first (channels_by_station stations)
  unfolding channels_by_station
  outputs_from net first [] each = tt
  outputs_from net first (s ∷ stations) each =
      let here : first + 0 ≡ first = omega arith in (
        sym (shown_channels taken failures s.outputs.items)
            ∙ (each 0 (station_view taken failures s) refl ∙ ap (outputs_on net) here),
        outputs_from net (suc first) stations
            (λ k t is. (let sum : first + suc k ≡ suc first + k = omega arith in
            each (suc k) t is ∙ ap (outputs_on net) sum)),
      )

  all_joined : (stations : List (Station C O slots cell))
      → map (λ (output : Output O). output.channel) (all_outputs stations) ≡ joined (channels_by_station stations)
  unfolding channels_by_station
  all_joined [] = refl
  all_joined (s ∷ stations) =
      map-append (λ (output : Output O). output.channel) s.outputs.items (all_outputs stations)
      ∙ ap (λ (rest : List ℕ). map (λ (output : Output O). output.channel) s.outputs.items ++ rest)
      (all_joined stations)

  as_many : (stations : List (Station C O slots cell))
      → length (channels_by_station stations) ≡ length (map (station_view taken failures) stations)
  unfolding channels_by_station
  as_many [] = refl
  as_many (s ∷ stations) = ap suc (as_many stations)

  pub closed_listed : (world : WorldView) (stations : List (Station C O slots cell)) (sorted : List (Output O))
      → WorldInvariant world
      → world.stations ≡ map (station_view taken failures) stations → IsPermutation (all_outputs stations) sorted
      → IsNonDecreasingBy (λ (output : Output O). output.channel) sorted
      → map (λ (output : Output O). output.channel) sorted ≡ output_channels 0 world.net.channels
  closed_listed world stations sorted inv same moved rising =
      closed_channels world inv (λ (output : Output O). output.channel) (all_outputs stations) sorted
      (channels_by_station stations)
      (outputs_from world.net 0 stations (λ k s is.
      (let there : slice_get world.stations k ≡ Some s =
      ap (λ (list : List StationView). slice_get list k) same ∙ is in
      let place : k ≡ 0 + k = omega arith in
      (inv.stations k s there).kept.listed ∙ ap (outputs_on world.net) ((inv.numbered k s there).1 ∙ place))))
      (as_many stations ∙ sym (ap (length {A = StationView}) same)) (all_joined stations) moved rising
