-- The line of a world with an event: from what a crash leaves of each station to the line of all.
use Rattle.std.proofs.Common.{◌≡◌, ◌∙◌, ℕ, Bool, List, ℤ, [], ◌∷◌, map, refl, ap}
use Rattle.std.specs.List.{AllZip}
use Rattle.std.proofs.Math.Logic.{∥∥₁_map₂}
use Rattle.protocol.specs.Node.Common.{Network, Whole, RecordView, Spells, record_in}
use Rattle.gate_cell.specs.declared.cell.StableCell.{Ghosts as CellWords}
use Rattle.slot_cell.specs.declared.slot_cell.SlotCell.{Ghosts as SlotWords}
use Rattle.protocol.specs.World.Common.{Traffic, EventView, event_node, WorldInvariant, AreEither, records_of}
use Rattle.protocol.specs.World.Common.{ReplyView, IsAct, Setting, WorldView, setting_of}
use Rattle.protocol.specs.World.RecoveryLine.{next_for}
use Rattle.protocol_laws.specs.World.LineLaws.{act_in_line, line_goes_on}
use Rattle.protocol.specs.declared.outcome.Outcome.{Outcome}
use Rattle.world.specs.RecoveryLine.{MayBeLeft, AreLeftSince, KeepsLine, HasOneLine, StaysInLine}
use Rattle.station.specs.StationView.{station_view}
use Rattle.station.specs.declared.station.Station.{Station}
use Rattle.station.proofs.Cells.{own_alone, own_spelled}

module _ {C O : Type 0} {cell : CellWords C} {slots : SlotWords C} (taken : O → List ℤ) (failures : O → ℕ)
    (setting : Setting)
    (event : EventView) where
  -- each choice spells a record of each node
  all_spelled : (olds news : List (Station C O slots cell)) (lefts : List Whole)
      → AllZip (StaysInLine taken failures setting event) olds news → AreLeftSince olds news lefts
      → ∥ ((records : List RecordView) × AllZip Spells records lefts) ∥₁
  all_spelled [] [] [] stays since = ∣ ([], tt) ∣₁
  all_spelled [] [] (left ∷ lefts) stays since = absurd since
  all_spelled [] (new ∷ news) lefts stays since = absurd since
  all_spelled (old ∷ olds) [] lefts stays since = absurd since
  all_spelled (old ∷ olds) (new ∷ news) [] stays since = absurd since
  all_spelled (old ∷ olds) (new ∷ news) (left ∷ lefts) stays since =
      ∥∥₁_map₂ (stays.0 left since.0).something (all_spelled olds news lefts stays.1 since.1)
      (λ one others. (one.0 ∷ others.0, (one.1, others.1)))

  -- of each node the one of before, or the one that the event puts there
  all_either : (olds news : List (Station C O slots cell)) (lefts : List Whole) (records : List RecordView)
      → AllZip (StaysInLine taken failures setting event) olds news → AreLeftSince olds news lefts
      → AllZip Spells records lefts
      → AreEither (records_of (map (station_view taken failures) olds))
      (map (next_for setting event) (map (station_view taken failures) olds)) records
  all_either [] [] [] [] stays since spelled = tt
  all_either [] [] [] (kept ∷ records) stays since spelled = absurd spelled
  all_either [] [] (left ∷ lefts) records stays since spelled = absurd since
  all_either [] (new ∷ news) lefts records stays since spelled = absurd since
  all_either (old ∷ olds) [] lefts records stays since spelled = absurd since
  all_either (old ∷ olds) (new ∷ news) [] records stays since spelled = absurd since
  all_either (old ∷ olds) (new ∷ news) (left ∷ lefts) [] stays since spelled = absurd spelled
  all_either (old ∷ olds) (new ∷ news) (left ∷ lefts) (kept ∷ records) stays since spelled =
      ((stays.0 left since.0).one_of kept spelled.0, all_either olds news lefts records stays.1 since.1 spelled.1)

  -- so an event keeps the line
  pub keeps_line : (net : Network) (inputs : List (List ℤ)) (olds news : List (Station C O slots cell)) (round : ℕ)
      (channel_rooms : List ℕ) (flying : Traffic) (rooms : List (RecordView → Bool)) (came : Outcome) (answer : ReplyView)
      (number : ℕ)
      → WorldInvariant
      (record {
        net = net;
        inputs = inputs;
        stations = map (station_view taken failures) olds;
        traffic =
            flying;
        round = round;
        rooms = channel_rooms;
      })
      → setting
      ≡ setting_of
      (record {
        net = net;
        inputs = inputs;
        stations = map (station_view taken failures) olds;
        traffic =
            flying;
        round = round;
        rooms = channel_rooms;
      })
      → number ≡ event_node event
      → IsAct setting number rooms event came (map (station_view taken failures) olds) answer
      (map (station_view taken failures) news)
      → AllZip (StaysInLine taken failures setting event) olds news → KeepsLine taken failures net olds news
  keeps_line net inputs olds news round channel_rooms flying rooms came answer number inv same_setting same_number act stays =
      let world : WorldView =
      record {
        net = net;
        inputs = inputs;
        stations = map (station_view taken failures) olds;
        traffic =
            flying;
        round = round;
        rooms = channel_rooms;
      } in
      record {
        spelled = λ lefts since. all_spelled olds news lefts stays since;
        in_line = λ lefts records since spelled. act_in_line rooms event came world answer setting number
            (map (station_view taken failures) news) records inv same_setting same_number act
            (all_either olds news lefts records stays since spelled);
        goes_on =
            line_goes_on rooms event came world answer setting number (map (station_view taken failures) news) inv
            same_setting same_number act;
      }

module _ {C O : Type 0} {cell : CellWords C} {slots : SlotWords C} (taken : O → List ℤ) (failures : O → ℕ) where
  -- what a crash leaves now is what the nodes keep
  kept_spelled : (stations : List (Station C O slots cell)) (lefts : List Whole)
      → AllZip MayBeLeft stations lefts
      → ∥ AllZip Spells (records_of (map (station_view taken failures) stations)) lefts ∥₁
  kept_spelled [] [] may = ∣ tt ∣₁
  kept_spelled [] (left ∷ lefts) may = absurd may
  kept_spelled (station ∷ stations) [] may = absurd may
  kept_spelled (station ∷ stations) (left ∷ lefts) may =
      ∥∥₁_map₂ (own_spelled cell slots station.node.store station.node.kept.settled left may.0)
      (kept_spelled stations lefts may.1) (λ one others. (one, others))

  kept_alone : (stations : List (Station C O slots cell)) (lefts : List Whole) (records : List RecordView)
      → AllZip MayBeLeft stations lefts → AllZip Spells records lefts
      → records ≡ records_of (map (station_view taken failures) stations)
  kept_alone [] [] [] may spelled = refl
  kept_alone [] [] (kept ∷ records) may spelled = absurd spelled
  kept_alone [] (left ∷ lefts) records may spelled = absurd may
  kept_alone (station ∷ stations) [] records may spelled = absurd may
  kept_alone (station ∷ stations) (left ∷ lefts) [] may spelled = absurd spelled
  kept_alone (station ∷ stations) (left ∷ lefts) (kept ∷ records) may spelled =
      ap (λ (one : RecordView). one ∷ records)
      (own_alone cell slots station.node.store station.node.kept.settled left may.0 kept spelled.0)
      ∙ ap (λ (others : List RecordView). record_in station.node.store ∷ others)
      (kept_alone stations lefts records may.1 spelled.1)

  pub one_line : (stations : List (Station C O slots cell)) → HasOneLine taken failures stations
  one_line stations = record { spelled = kept_spelled stations; alone = kept_alone stations }
