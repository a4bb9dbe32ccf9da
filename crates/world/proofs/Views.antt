-- Views of stations.
use Rattle.std.proofs.Common.{◌≡◌, ℕ, zero, suc, ◌<◌, ◌≤◌, Bool, List, ℤ, [], ◌∷◌, length, get_or, Option, Some, map}
use Rattle.std.proofs.Common.{refl}
use Rattle.std.proofs.Common.{sym, ap, subst, ◌∙◌, arith}
use Rattle.std.specs.Prelude.{Result, Ok, Err, IfOk, OnErr, slice_get, slice_set}
use Rattle.std.proofs.lemmas.List.{length-map, map-set}
use Rattle.std.proofs.lemmas.Option.{slice_get_past, slice_get_read}
use Rattle.std.specs.declared.alloc.AllocError.{AllocError}
use Rattle.protocol.specs.Node.Common.{Network, node_count, RecordView}
use Rattle.protocol.specs.World.Common.{Traffic, outputs_of, AreSound, IsNumbered, IsSoundStation, OutputView}
use Rattle.protocol.specs.World.Common.{StationView, setting_of, IsActOf, IsStep, Setting, WorldView, round_after}
use Rattle.protocol.specs.World.Common.{traffic_after, ReplyView, EventView, event_node}
use Rattle.protocol.specs.World.Invariant.{AreJoined}
use Rattle.protocol_laws.specs.World.OutputLaws.{map_at}
use Rattle.station.specs.OutputView.{output_view, outputs_view}
use Rattle.station.specs.StationView.{outlet_views}
use Rattle.protocol.specs.World.Steps.{setting_in}
use Rattle.protocol.specs.declared.reply.Reply.TheVariants.{NotDue}
use Rattle.protocol.specs.declared.outcome.Outcome.TheVariants as outcome
use Rattle.world.specs.Acting.{HasActed}
use Rattle.station.specs.Coming.{HasCome}
use Rattle.station.specs.Leaving.{IsCellUnchanged}
use Rattle.station.specs.ReplyView.{reply_view}
use Rattle.station.specs.declared.station.Station.{Station}
use Rattle.gate_cell.specs.declared.cell.StableCell.{Ghosts as CellWords}
use Rattle.slot_cell.specs.declared.slot_cell.SlotCell.{Ghosts as SlotWords}
use Rattle.station.specs.declared.output.Output.{Output}
use Rattle.station.specs.ReplyView.{Reply}

-- Stations of a world

-- an event at the station of this place is one of the list of stations
pub acted : {S : Type 0} (setting : Setting) (view : S → StationView) (room : S → RecordView → Bool)
    (event : EventView) (xs : List S) (place : ℕ) (x y : S) (flown : Traffic) (result : Result Reply AllocError)
    → place < length xs → x ≡ get_or xs place x
    → IfOk result (λ reply. HasCome setting (room x) event (view x) (reply_view reply) (view y) flown)
    → IfOk result
    (λ reply. HasActed setting place (map room xs) event (map view xs) (reply_view reply)
    (map view (slice_set xs place y)) flown)
acted setting view room event xs place x y flown (Err e) within is come = tt
acted {S} setting view room event xs place x y flown (Ok reply) within is come =
    let there : slice_get xs place ≡ Some x = slice_get_read xs (length xs) place x refl within is in
    let fits : slice_get (map room xs) place ≡ Some (room x) = map_at room xs place x there in
    let seen : slice_get (map view xs) place ≡ Some (view x) = map_at view xs place x there in
    record {
      came = come.came;
      act = subst (λ (f : Option (RecordView → Bool)). IsActOf setting place f (slice_get (map view xs) place) event
          come.came (map view xs) (reply_view reply) (map view (slice_set xs place y))) (sym fits)
          (subst (λ (s : Option StationView). IsActOf setting place (Some (room x)) s event come.came (map view xs)
          (reply_view reply) (map view (slice_set xs place y))) (sym seen)
          (record { later = view y; step = come.step; stations = map-set view xs place y }));
      traffic =
          come.traffic ∙ ap (traffic_after setting event come.came (reply_view reply)) (sym seen);
    }

-- the setting of a world by its stations, as they are and as they are seen
pub setting_is : {S : Type 0} (view : S → StationView) (net : Network) (inputs : List (List ℤ)) (traffic : Traffic)
    (xs : List S) (round : ℕ) (channel_rooms : List ℕ)
    → setting_in net inputs traffic round channel_rooms
    ≡ setting_of
    (record {
      net = net;
      inputs = inputs;
      stations = map view xs;
      traffic = traffic;
      round = round;
      rooms = channel_rooms;
    })
setting_is view net inputs traffic xs round channel_rooms = refl

-- the station of this place is a sound one
pub sound_at : {S : Type 0} (view : S → StationView) (net : Network) (inputs : List (List ℤ)) (traffic : Traffic)
    (xs : List S) (place : ℕ) (x : S) (round : ℕ) (channel_rooms : List ℕ)
    → length (map view xs) ≡ node_count net → IsNumbered (map view xs) → AreSound net inputs (map view xs)
    → AreJoined net (map view xs) → place < length xs → x ≡ get_or xs place x
    → IsSoundStation (setting_in net inputs traffic round channel_rooms) (view x)
sound_at view net inputs traffic xs place x round channel_rooms all numbered sound joined within is =
    let there : slice_get (map view xs) place ≡ Some (view x) =
    map_at view xs place x (slice_get_read xs (length xs) place x refl within is) in
    record {
      inv = sound place (view x) there;
      named = (let named = numbered place (view x) there in named.1 ∙ sym named.0);
      below = (let few = length-map xs view in let number = (numbered place (view x) there).0 in
          omega (arith, within, few, all, number));
      joined = joined place (view x) there;
    }

-- what is true of the station of this place
pub seen_at : {S : Type 0} (view : S → StationView) (xs : List S) (place : ℕ) (x : S) → place < length xs
    → x ≡ get_or xs place x → slice_get (map view xs) place ≡ Some (view x)
seen_at view xs place x within is = map_at view xs place x (slice_get_read xs (length xs) place x refl within is)

-- a cell that nobody called
pub cell_stays : {C O : Type 0} {cell : CellWords C} {slots : SlotWords C} (station : Station C O slots cell)
    → IsCellUnchanged station station
cell_stays station = refl

-- a refused event leaves the list of stations as it is seen
pub refused_at : {S : Type 0} (view : S → StationView) (P : Type 0) (xs : List S) (place : ℕ) (x y : S)
    (result : Result Reply AllocError) → place < length xs → x ≡ get_or xs place x
    → OnErr result ((view y ≡ view x) × P) → OnErr result ((map view (slice_set xs place y) ≡ map view xs) × P)
refused_at view P xs place x y (Ok reply) within is same = tt
refused_at {S} view P xs place x y (Err e) within is same =
    let there : slice_get xs place ≡ Some x = slice_get_read xs (length xs) place x refl within is in
    (same_seen xs place there, same.1)
  where
    same_seen : (xs : List S) (place : ℕ) → slice_get xs place ≡ Some x → map view (slice_set xs place y) ≡ map view xs
    same_seen [] place h = refl
    same_seen (z ∷ xs) zero h = let first : z ≡ x = cc in
        ap (λ (v : StationView). v ∷ map view xs) (same.0 ∙ ap view (sym first))
    same_seen (z ∷ xs) (suc k) h = ap (λ (rest : List StationView). view z ∷ rest) (same_seen xs k h)

-- what has left by the outlets, as it is seen
pub same_outputs : {O : Type 0} (taken : O → List ℤ) (failures : O → ℕ) (outputs : List (Output O))
    → outputs_of (outlet_views taken failures outputs) ≡ outputs_view taken outputs
same_outputs taken failures [] = refl
same_outputs taken failures (output ∷ outputs) =
    ap (λ (rest : List OutputView). output_view taken output ∷ rest) (same_outputs taken failures outputs)

-- what was an event at the station of this number is a step of the world
pub world_steps : (rooms : List (RecordView → Bool)) (e : EventView) (old : WorldView) (answer : ReplyView)
    (setting : Setting) (number round : ℕ) (stations : List StationView) (flown : Traffic) → setting ≡ setting_of old
    → number ≡ event_node e → HasActed setting number rooms e old.stations answer stations flown
    → round ≡ round_after answer old.round stations
    → IsStep rooms e old answer
    (record {
      net = old.net;
      inputs = old.inputs;
      stations = stations;
      traffic = flown;
      round = round;
      rooms = old.rooms;
    })
world_steps rooms e old answer setting number round stations flown same_setting same_number acted later =
    let here =
    subst (λ (n : ℕ). HasActed (setting_of old) n rooms e old.stations answer stations flown) same_number
    (subst (λ (s : Setting). HasActed s number rooms e old.stations answer stations flown) same_setting acted) in
    record {
      net = refl;
      inputs = refl;
      came = here.came;
      act = here.act;
      traffic = here.traffic;
      round = later;
      rooms = refl;
    }

-- where there is no station, nothing happens
pub none_acted : {S : Type 0} (setting : Setting) (view : S → StationView) (room : S → RecordView → Bool)
    (event : EventView) (xs : List S) (place : ℕ) → length xs ≤ place
    → HasActed setting place (map room xs) event (map view xs) NotDue (map view xs) setting.traffic
none_acted setting view room event xs place past = record {
  came = outcome.NotDue;
  act = subst (λ (f : Option (RecordView → Bool)). IsActOf setting place f (slice_get (map view xs) place) event
      outcome.NotDue (map view xs) NotDue (map view xs))
      (sym (slice_get_past (map room xs) place (let many = length-map xs room in omega (arith, past, many))))
      (refl, refl);
  traffic = refl;
}
