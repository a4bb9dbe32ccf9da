-- What has left the stations of a list, after an event at one of them, and what a crash meanwhile leaves of each.
use Rattle.std.proofs.lemmas.Bool.{eq-eqb}
use Rattle.std.proofs.Common.{◌≡◌, ◌⊎◌, inl, inr, ℕ, ◌<◌, Bool, cond, List, ℤ, length, get_or, map, refl, sym, ap}
use Rattle.std.proofs.Common.{subst}
use Rattle.std.specs.Prelude.{Result, Ok, Err, IfOk, OnErr, slice_set}
use Rattle.std.specs.List.{AllZip}
use Rattle.std.specs.declared.alloc.AllocError.{AllocError}
use Rattle.protocol.specs.Node.Common.{Network, RecordView, cell_in, record_in, Whole}
use Rattle.station.proofs.Cells.{leaves_own, own_left}
use Rattle.gate_cell.specs.declared.cell.StableCell.{Ghosts as CellWords}
use Rattle.slot_cell.specs.declared.slot_cell.SlotCell.{Ghosts as SlotWords}
use Rattle.protocol.specs.World.Common.{EventView, event_node, outputs_of, AreSound, StationInvariant, OutputView}
use Rattle.protocol.specs.World.Common.{HasMoved, next_kept, Traffic, StationView, Setting, IsSoundSetting}
use Rattle.protocol.specs.World.Common.{IsSoundStation}
use Rattle.protocol.specs.World.Growing.{EachBegins}
use Rattle.protocol_laws.specs.World.GrowLaws.{begins_same, step_begins, has_grown, still_grown}
use Rattle.protocol_laws.specs.World.LineLaws.{next_ahead}
use Rattle.protocol_laws.specs.World.OutputLaws.{map_at}
use Rattle.station.specs.OutputView.{outputs_view}
use Rattle.protocol_laws.specs.World.PairLaws.{pairs_refl, pairs_set}
use Rattle.protocol.specs.World.Covered.{LeavesEither}
use Rattle.protocol.specs.World.Pairs.{HasGrown}
use Rattle.protocol.specs.World.RecoveryLine.{next_for}
use Rattle.world.specs.RecoveryLine.{StaysInLine}
use Rattle.station.specs.Coming.{HasCome}
use Rattle.station.specs.ReplyView.{reply_view}
use Rattle.station.specs.StationView.{outlet_views}
use Rattle.protocol_laws.specs.World.StepKeeps.{station_keeps}
use Rattle.station.specs.StationView.{station_view}
use Rattle.world.specs.WorldView.{IsGrown}
use Rattle.station.specs.ReplyView.{Reply}
use Rattle.station.specs.declared.station.Station.{Station}
use Rattle.world.proofs.Views.{same_outputs}

module _ (setting : Setting) (sure : IsSoundSetting setting) (room : RecordView → Bool) (event : EventView) where
  -- what is seen after an event that was refused, or wasn't
  sound_then : (old : StationView) (new : StationView) (flown : Traffic)
      (result : Result Reply AllocError) → IsSoundStation setting old
      → IfOk result (λ reply. HasCome setting room event old (reply_view reply) new flown) → OnErr result (new ≡ old)
      → StationInvariant setting.net setting.inputs new
  sound_then old new flown (Ok reply) sound come same =
      station_keeps setting sure room event come.came old (reply_view reply) new sound come.step
  sound_then old new flown (Err e) sound come same = subst (StationInvariant setting.net setting.inputs) (sym same) sound.inv

  begins_then : (old : StationView) (new : StationView) (flown : Traffic)
      (result : Result Reply AllocError)
      → IfOk result (λ reply. HasCome setting room event old (reply_view reply) new flown) → OnErr result (new ≡ old)
      → EachBegins (outputs_of old.outlets) (outputs_of new.outlets)
  begins_then old new flown (Ok reply) come same =
      step_begins setting room event come.came old (reply_view reply) new come.step
  begins_then old new flown (Err e) come same =
      subst (λ (s : StationView). EachBegins (outputs_of old.outlets) (outputs_of s.outlets)) (sym same)
      (begins_same (outputs_of old.outlets))

module _ {C O : Type 0} {cell : CellWords C} {slots : SlotWords C} (taken : O → List ℤ) (failures : O → ℕ)
    (only_now : (c : C) (left : Whole) → slots.left_since_whole c (cell.moment c) left → slots.may_leave_whole c left)
    (net : Network) (inputs : List (List ℤ)) where
  -- as it is seen, so it is
  seen_grown : (old new : Station C O slots cell)
      → HasGrown cell.moment slots.left_since_whole (cell_in old.node.store) (cell_in new.node.store)
      (outputs_of (station_view taken failures old).outlets) (outputs_of (station_view taken failures new).outlets)
      → IsGrown taken old new
  seen_grown old new grown =
      subst (λ (after : List OutputView). HasGrown cell.moment slots.left_since_whole (cell_in old.node.store)
      (cell_in new.node.store) (outputs_view taken old.outputs.items) after)
      (same_outputs taken failures new.outputs.items)
      (subst (λ (before : List OutputView). HasGrown cell.moment slots.left_since_whole (cell_in old.node.store)
      (cell_in new.node.store) before (outputs_of (station_view taken failures new).outlets))
      (same_outputs taken failures old.outputs.items) grown)

  -- a station that nobody touched
  still : (station : Station C O slots cell) → StationInvariant net inputs (station_view taken failures station)
      → IsGrown taken station station
  still station inv =
      seen_grown station station
      (still_grown cell.moment slots.left_since_whole slots.may_leave_whole only_now (record_in station.node.store)
      (outlet_views taken failures station.outputs.items) (cell_in station.node.store) inv.kept.covered
      (leaves_own cell slots station.node.store station.node.kept.settled))

  -- the stations of a list that nobody touched
  pub all_still : (stations : List (Station C O slots cell))
      → AreSound net inputs (map (station_view taken failures) stations) → AllZip (IsGrown taken) stations stations
  all_still stations sound =
      pairs_refl (IsGrown taken) stations
      (λ i station is. still station
      (sound i (station_view taken failures station) (map_at (station_view taken failures) stations i station is)))

  -- what a crash leaves of a station whose cell nobody called is the record of before
  untouched_in_line : (setting : Setting) (event : EventView) (old new : Station C O slots cell)
      → cell_in old.node.store ≡ cell_in new.node.store → StaysInLine taken failures setting event old new
  untouched_in_line setting event old new same left since =
      own_left cell slots old.node.store (next_for setting event (station_view taken failures old))
      old.node.kept.settled left
      (only_now (cell_in old.node.store) left
      (subst (λ (c : C). slots.left_since_whole c (cell.moment (cell_in old.node.store)) left) (sym same) since))

  pub all_still_in_line : (setting : Setting) (event : EventView) (stations : List (Station C O slots cell))
      → AllZip (StaysInLine taken failures setting event) stations stations
  all_still_in_line setting event stations =
      pairs_refl (StaysInLine taken failures setting event) stations
      (λ i station is. untouched_in_line setting event station station refl)

module _ {C O : Type 0} {cell : CellWords C} {slots : SlotWords C} (taken : O → List ℤ) (failures : O → ℕ)
    (only_now : (c : C) (left : Whole) → slots.left_since_whole c (cell.moment c) left → slots.may_leave_whole c left)
    (setting : Setting) (sure : IsSoundSetting setting) (room : RecordView → Bool) (event : EventView) where
  -- what a crash leaves of the station of an event
  event_in_line : (old new : Station C O slots cell) → (station_view taken failures old).number ≡ event_node event
      → HasMoved cell.moment slots.left_since_whole (cell_in old.node.store) (cell_in new.node.store)
      (record_in old.node.store) (next_kept setting event (station_view taken failures old))
      (outlet_views taken failures old.outputs.items) (outlet_views taken failures new.outputs.items)
      → StaysInLine taken failures setting event old new
  event_in_line old new here moved left since = at moved.apart
    where
      own : next_kept setting event (station_view taken failures old)
          ≡ next_for setting event (station_view taken failures old)
      own = ap (λ (b : Bool). cond b (next_kept setting event (station_view taken failures old))
          (record_in old.node.store)) (sym (eq-eqb (station_view taken failures old).number (event_node event) here))

      at : (cell_in old.node.store ≡ cell_in new.node.store)
          ⊎ ((outlet_views taken failures old.outputs.items ≡ outlet_views taken failures new.outputs.items)
          × ((other : Whole)
          → slots.left_since_whole (cell_in new.node.store) (cell.moment (cell_in old.node.store)) other
          → LeavesEither (record_in old.node.store) (next_kept setting event (station_view taken failures old))
          other))
          → LeavesEither (record_in old.node.store) (next_for setting event (station_view taken failures old)) left
      at (inl same) =
          untouched_in_line taken failures only_now setting.net setting.inputs setting event old new same left since
      at (inr through) =
          subst (λ (next : RecordView). LeavesEither (record_in old.node.store) next left) own (through.1 left since)

  -- the stations of a list of which one had an event
  module _ (stations : List (Station C O slots cell)) (place : ℕ) (x y : Station C O slots cell) (flown : Traffic)
      (result : Result Reply AllocError) (here : IsSoundStation setting (station_view taken failures x))
      (sound : AreSound setting.net setting.inputs (map (station_view taken failures) stations))
      (within : place < length stations) (is : x ≡ get_or stations place x)
      (moved : HasMoved cell.moment slots.left_since_whole (cell_in x.node.store) (cell_in y.node.store)
      (record_in x.node.store) (next_kept setting event (station_view taken failures x))
      (outlet_views taken failures x.outputs.items) (outlet_views taken failures y.outputs.items))
      (step : IfOk result
      (λ reply. HasCome setting room event (station_view taken failures x) (reply_view reply)
      (station_view taken failures y) flown))
      (same : OnErr result (station_view taken failures y ≡ station_view taken failures x)) where
    later : StationInvariant setting.net setting.inputs (station_view taken failures y)
    later = sound_then setting sure room event (station_view taken failures x) (station_view taken failures y) flown
        result here step same

    pub all_grown : AllZip (IsGrown taken) stations (slice_set stations place y)
    all_grown =
        pairs_set (IsGrown taken) stations place x y
        (λ i station at. still taken failures only_now setting.net setting.inputs station
        (sound i (station_view taken failures station)
        (map_at (station_view taken failures) stations i station at))) within is
        (seen_grown taken failures only_now setting.net setting.inputs x y
        (has_grown cell.moment slots.left_since_whole slots.may_leave_whole only_now (record_in x.node.store)
        (next_kept setting event (station_view taken failures x)) (record_in y.node.store).permanent
        (outlet_views taken failures x.outputs.items) (outlet_views taken failures y.outputs.items)
        (cell_in x.node.store) (cell_in y.node.store) here.inv.kept.covered later.kept.covered
        (leaves_own cell slots y.node.store y.node.kept.settled)
        (next_ahead setting sure event (station_view taken failures x) here) moved
        (begins_then setting sure room event (station_view taken failures x) (station_view taken failures y) flown
        result step same)))

    pub all_in_line : (station_view taken failures x).number ≡ event_node event
        → AllZip (StaysInLine taken failures setting event) stations (slice_set stations place y)
    all_in_line numbered =
        pairs_set (StaysInLine taken failures setting event) stations place x y
        (λ i station at. untouched_in_line taken failures only_now setting.net setting.inputs setting event station
        station refl) within is (event_in_line x y numbered moved)
