-- Turns of a run.
use Rattle.std.proofs.Common.{◌≡◌, ◌++◌, Ok, Err, inl, inr, ◌∙◌, ◌∷◌, [], ◌+◌, ◌≤◌, ℕ, zero, suc, ℤ}
use Rattle.std.proofs.Common.{Bool, true, false, List, map, refl, sym, ap, subst, arith}
use Rattle.std.specs.List.{AllByRecursion}
use Rattle.std.specs.Prelude.{replicate, IfOk, Result}
use Rattle.std.proofs.Math.Logic.{∥∥₁_elim, ∥∥₁_map, ∥∥₁_prop}
use Rattle.replay.proofs.Replays.{replays_stay}
use Rattle.protocol.specs.Node.Common.{node_count, Network, IsValid, slot_room_on, StoreFault, opening_record}
use Rattle.protocol.specs.Node.Common.{RecordView, fits_in, SECTORS}
use Rattle.ckpt_codec.specs.declared.lengths.TheConstants.{MAX_RECORD_BYTES}
use Rattle.ckpt_store.specs.declared.fault.StoreFault.TheVariants.{NoMemory, Device, TooLarge, Reopen, Truncated}
use Rattle.ckpt_store.specs.declared.fault.StoreFault.TheVariants.{Version, Malformed, HoldsOther, PastNumber, NotHeld}
use Rattle.ckpt_store.specs.declared.fault.StoreFault.TheVariants.{Unsettled, Spent}
use Rattle.protocol_laws.specs.Node.PlaceLaws.{nodes_few}
use Rattle.protocol_laws.specs.Node.SizeLaws.{opening_within}
use Rattle.protocol_laws.specs.World.RoomLaws.{bounded_image}
use Rattle.gate_cell.specs.declared.cell.StableCell.{Ghosts as CellWords}
use Rattle.slot_cell.specs.declared.slot_cell.SlotCell.{Ghosts as SlotWords}
use Rattle.protocol.specs.World.Common.{opening_traffic, opening_world, output_channels, OutletView, WorldView}
use Rattle.protocol.specs.World.Common.{with_rooms}
use Rattle.protocol.specs.Node.Sharing.{IsRoom, even_rooms}
use Rattle.protocol.specs.World.OpeningWorld.{opening_outlet, opening_stations}
use Rattle.world.specs.OpeningWorld.{IsUnused}
use Rattle.station.specs.StationView.{outlet_view, outlet_views}
use Rattle.protocol.specs.declared.limits.TheConstants.{DEFAULT_ROOM}
use Rattle.replay.specs.Replay.{Happening, LeadsTo}
use Rattle.runtime.specs.Logs.{HasRun}
use Rattle.replay.specs.declared.kept.ScriptedEvent.{ScriptedEvent}
use Rattle.world.specs.WorldView.{capacities, rooms}
use Rattle.station.specs.StationView.{station_view}
use Rattle.world.specs.OpeningWorld.{opening_length, HasNoRoom, IsOpeningRefusal, IsWorldRefusal}
use Rattle.station.specs.declared.output.Output.{Output}
use Rattle.station.specs.declared.station.Station.{Station}
use Rattle.runtime.specs.Causes.{last_round}
use Rattle.runtime.specs.Ending.{is_over, was_refused}
use Rattle.runtime.specs.Turning.{EndsByTurns, IsRunByTurns}
use Rattle.runtime.specs.declared.ending.RunEnd.{RunEnd}
use Rattle.runtime.specs.declared.ending.RunEnd.TheVariants.{Complete, Rounds, Items, Refused, Stopped}
use Rattle.cobaltmidge.specs.FirstWorld.{first_world, HasNoFailures, IsRunRoom, nearest_room, run_rooms, unused_outlet}
use Rattle.runtime.specs.Logs.{HubFault}
use Rattle.runtime.specs.Logs as hub
use Rattle.cobaltmidge.specs.Failing.{HasFailedAtOnce, hub_fault, IsRunFault, store_fault}
use Rattle.cobaltmidge.specs.Runs.{HasComeFrom, IsEndFrom, bounds_of}
use Rattle.cobaltmidge.specs.declared.settings.Settings.{Settings}

-- one more of which it holds
pub each_more : {X : Type 0} (P : X → Type 0) (xs : List X) (x : X) → AllByRecursion P xs → P x
    → AllByRecursion P (xs ++ x ∷ [])
each_more P [] x all one = (one, tt)
each_more P (y ∷ xs) x all one = (all.0, each_more P xs x all.1 one)

-- one more of which nothing is counted
pub none_more : {X : Type 0} (count : X → ℕ) (xs : List X) (x : X) (many : ℕ) → map count xs ≡ replicate many 0
    → count x ≡ 0
    → map count (xs ++ x ∷ []) ≡ replicate (many + 1) 0
none_more count [] x zero none one = ap (λ (n : ℕ). n ∷ []) one
none_more count [] x (suc many) none one = absurd (cc)
none_more count (y ∷ xs) x zero none one = absurd (cc)
none_more count (y ∷ xs) x (suc many) none one =
    let first : count y ≡ 0 = cc in
    let rest : map count xs ≡ replicate many 0 = cc in
    let sum : suc (many + 1) ≡ suc many + 1 = omega arith in
    ap (λ (n : ℕ). n ∷ map count (xs ++ x ∷ [])) first
    ∙ (ap (λ (list : List ℕ). 0 ∷ list) (none_more count xs x many rest one) ∙ ap (λ (n : ℕ). replicate n 0) sum)

-- the room of each station's cell

module _ {C O : Type 0} {cell : CellWords C} {slots : SlotWords C} where
  pub rooms_are : (taken : O → List ℤ) (failures : O → ℕ) (stations : List (Station C O slots cell))
      → AllByRecursion IsRunRoom (capacities stations)
      → rooms stations ≡ run_rooms (map (station_view taken failures) stations)
  rooms_are taken failures [] room = refl
  rooms_are taken failures (s ∷ stations) room =
      ap (λ (n : ℕ). fits_in n ∷ rooms stations) room.0
      ∙ ap (λ (rest : List (RecordView → Bool)). fits_in (slot_room_on SECTORS) ∷ rest)
      (rooms_are taken failures stations room.1)

-- what the disks of a run have room for
pub rooms_given : {D : Type 0} (sectors : D → ℕ) (disks : List D) (rooms : List ℕ)
    → rooms ≡ map (λ (disk : D). slot_room_on (sectors disk)) disks
    → AllByRecursion (λ (disk : D). sectors disk ≡ SECTORS) disks
    → AllByRecursion IsRunRoom rooms
rooms_given {D} sectors disks rooms are all = subst (AllByRecursion IsRunRoom) (sym are) (at disks all)
  where
    at : (list : List D) → AllByRecursion (λ (disk : D). sectors disk ≡ SECTORS) list
        → AllByRecursion IsRunRoom (map (λ (disk : D). slot_room_on (sectors disk)) list)
    at [] all = tt
    at (d ∷ list) all = (ap slot_room_on all.0, at list all.1)

-- Why a run isn't opened: no disk is too small for an opening record
pub run_refused : {D : Type 0} (threads : Bool) (sectors : D → ℕ) (net : Network) (number : ℕ) (disks : List D)
    (fault : StoreFault) → IsValid net
    → AllByRecursion (λ (disk : D). sectors disk ≡ SECTORS) disks
    → IsWorldRefusal net number (map (λ (disk : D). sectors disk) disks) fault → (fault ≡ Device → HasFailedAtOnce)
    → IsRunFault threads (store_fault fault)
run_refused threads sectors net number [] fault valid all refused failed =
    subst (λ (f : StoreFault). IsRunFault threads (store_fault f)) (sym refused) tt
run_refused {D} threads sectors net number (d ∷ disks) fault valid all (inr refused) failed =
    run_refused threads sectors net (suc number) disks fault valid all.1 refused failed
run_refused {D} threads sectors net number (d ∷ disks) fault valid all (inl refused) failed = at fault refused failed
  where
    short : opening_length net number ≤ MAX_RECORD_BYTES
    short = bounded_image (opening_record net (node_count net) number)
        (opening_within net (node_count net) number valid (nodes_few net valid))

    has_room : HasNoRoom (sectors d) (opening_length net number) → ⊥
    has_room none = small (subst (λ (n : ℕ). HasNoRoom n (opening_length net number)) all.0 none)
      where
        small : HasNoRoom SECTORS (opening_length net number) → ⊥
        small (inl few) = omega (arith, few)
        small (inr little) = omega (arith, little, short)

    at : (f : StoreFault) → IsOpeningRefusal (sectors d) (opening_length net number) f → (f ≡ Device → HasFailedAtOnce)
        → IsRunFault threads (store_fault f)
    at NoMemory why failed = tt
    at Device why failed = ∣ failed refl ∣₁
    at TooLarge why failed = absurd (has_room why)
    at Reopen why failed = absurd why
    at Truncated why failed = absurd why
    at Version why failed = absurd why
    at Malformed why failed = absurd why
    at HoldsOther why failed = absurd why
    at PastNumber why failed = absurd why
    at NotHeld why failed = absurd why
    at Unsettled why failed = absurd why
    at Spent why failed = absurd why

-- a run's room is one that a channel may be given
pub nearest_is_room : (asked : ℕ) → IsRoom (nearest_room asked)
nearest_is_room asked = (omega arith, omega arith)

-- The first world

module _ {O : Type 0} (taken : O → List ℤ) (failures : O → ℕ) where
  unused_outlets : (outputs : List (Output O)) → AllByRecursion (IsUnused taken) outputs
      → AllByRecursion (HasNoFailures failures) outputs
      → map opening_outlet (outlet_views taken failures outputs)
      ≡ map opening_outlet (map unused_outlet (map (λ (output : Output O). output.channel) outputs))
  unused_outlets [] unused none = refl
  unused_outlets (output ∷ outputs) unused none =
      let first : opening_outlet (outlet_view taken failures output) ≡ opening_outlet (unused_outlet output.channel)
      = ap (λ (items : List ℤ). opening_outlet
      (record {
        channel = output.channel;
        taken = items;
        failed = output.failed;
        failures = failures output.outlet;
      })) unused.0
      ∙ ap (λ (n : ℕ). opening_outlet
      (record { channel = output.channel; taken = []; failed = output.failed; failures = n }))
      none.0 in
      ap (λ (outlet : OutletView). outlet ∷ map opening_outlet (outlet_views taken failures outputs)) first
      ∙ ap (λ (rest : List OutletView). opening_outlet (unused_outlet output.channel) ∷ rest)
      (unused_outlets outputs unused.1 none.1)

  pub opens_first : (net other : Network) (inputs : List (List ℤ)) (room : ℕ) (outputs : List (Output O))
      (first opened : WorldView) → other ≡ net
      → (failed : List ℕ) → failed ≡ replicate (node_count net) 0
      → first ≡ with_rooms (even_rooms (nearest_room room)) opened
      → opened ≡ opening_world other inputs failed (outlet_views taken failures outputs)
      → map (λ (output : Output O). output.channel) outputs ≡ output_channels 0 net.channels
      → AllByRecursion (IsUnused taken) outputs → AllByRecursion (HasNoFailures failures) outputs
      → first ≡ first_world net inputs room
  opens_first net other inputs room outputs first opened same_net failed never set opening listed
      unused none =
      let views = outlet_views taken failures outputs in
      set
      ∙ ap (with_rooms (even_rooms (nearest_room room))) (opening
      ∙ (ap (λ (list : List ℕ). opening_world other inputs list views) never
      ∙ (ap (λ (n : Network). opening_world n inputs (replicate (node_count net) 0) views) same_net
      ∙ ap (λ (outlets : List OutletView). record {
        net = net;
        inputs = inputs;
        stations =
            opening_stations net (replicate (node_count net) 0) outlets;
        traffic = opening_traffic;
        round = 0;
        rooms = even_rooms DEFAULT_ROOM;
      })
      (unused_outlets outputs unused none
      ∙ ap (λ (channels : List ℕ). map opening_outlet (map unused_outlet channels)) listed))))

-- a run by turns that wasn't refused went on until it was over
until_over : (over : WorldView → Bool) (nodes : ℕ) (fits : List (RecordView → Bool)) (script : List ScriptedEvent) (first now : WorldView)
    (end : RunEnd) → was_refused end ≡ false → EndsByTurns over nodes fits script first now end
    → IsRunByTurns over nodes fits script first now
until_over over nodes fits script first now Complete unrefused ends = ends
until_over over nodes fits script first now Rounds unrefused ends = ends
until_over over nodes fits script first now Items unrefused ends = ends
until_over over nodes fits script first now (Refused fault) unrefused ends = absurd (cc)
until_over over nodes fits script first now Stopped unrefused ends = absurd ends

-- How far a run came that began with this world
pub come_so : {C O : Type 0} {cell : CellWords C} {slots : SlotWords C} (taken : O → List ℤ) (failures : O → ℕ)
    (stations : List (Station C O slots cell)) (settings : Settings) (script : List ScriptedEvent) (happened : List Happening)
    (first now : WorldView) → AllByRecursion IsRunRoom (capacities stations)
    → first.stations ≡ map (station_view taken failures) stations → HasRun (rooms stations) script first now
    → (settings.history ≡ true → LeadsTo (rooms stations) script first happened now)
    → HasComeFrom first settings script happened now
come_so taken failures stations settings script happened first now room same run leads =
    record {
      run = subst (λ (fits : List (RecordView → Bool)). HasRun fits script first now) fitting run;
      history = λ yes. subst (λ (fits : List (RecordView → Bool)). LeadsTo fits script first happened now) fitting (leads yes);
    }
  where
    fitting : rooms stations ≡ run_rooms first.stations
    fitting = rooms_are taken failures stations room ∙ ap run_rooms (sym same)

-- How a run comes to its end that began with this world
pub ended_so : {C O : Type 0} {cell : CellWords C} {slots : SlotWords C} (taken : O → List ℤ) (failures : O → ℕ)
    (stations : List (Station C O slots cell)) (settings : Settings) (script : List ScriptedEvent) (happened : List Happening)
    (first now : WorldView) (end : RunEnd) (nodes : ℕ) → AllByRecursion IsRunRoom (capacities stations)
    → first.stations ≡ map (station_view taken failures) stations → nodes ≡ node_count first.net
    → was_refused end ≡ false → HasRun (rooms stations) script first now
    → (settings.history ≡ true → LeadsTo (rooms stations) script first happened now)
    → (settings.threads ≡ false → EndsByTurns (is_over first.net.channels (bounds_of settings)) nodes (rooms stations) script first now end)
    → (settings.threads ≡ true → was_refused end ≡ false → now.round ≤ last_round first script (bounds_of settings))
    → IsEndFrom first settings first.net script happened now
ended_so taken failures stations settings script happened first now end nodes room same many unrefused run leads turns rounds = record {
  come = come_so taken failures stations settings script happened first now room same run leads;
  turns = λ by_turns.
      subst (λ (n : ℕ). IsRunByTurns (is_over first.net.channels (bounds_of settings)) n (run_rooms first.stations) script first now) many
      (subst (λ (fits : List (RecordView → Bool)). IsRunByTurns (is_over first.net.channels (bounds_of settings)) nodes fits script first now)
      fitting (until_over _ nodes (rooms stations) script first now end unrefused (turns by_turns)));
  rounds = λ by_threads. rounds by_threads unrefused;
}
  where
    fitting : rooms stations ≡ run_rooms first.stations
    fitting = rooms_are taken failures stations room ∙ ap run_rooms (sym same)

pub if_ok_then : {T E : Type 0} (P Q : T → Type 0) (result : Result T E) → ((value : T) → P value → Q value)
    → IfOk result P → IfOk result Q
if_ok_then P Q (Err e) go holds = tt
if_ok_then P Q (Ok value) go holds = go value holds

-- what a hub refuses is a run's fault
pub of_hub : (fault : HubFault) → IsRunFault true (hub_fault fault)
of_hub hub.NoMemory = tt
of_hub hub.PastNumber = refl

-- what holds of an end that was told, where no call was refused
pub of_end : {T E : Type 0} (P Q : T → Type 0) (result : Result T E) (ended : T) → IfOk result (λ now. now ≡ ended) → IfOk result P
    → (P ended → Q ended) → IfOk result Q
of_end P Q (Err e) ended same told go = tt
of_end P Q (Ok now) ended same told go = subst Q (sym same) (go (subst P same told))

-- the network and its inputs stay
pub run_stays : (fits : List (RecordView → Bool)) (script : List ScriptedEvent) (first now : WorldView) → HasRun fits script first now
    → ∥ (now.net ≡ first.net) × (now.inputs ≡ first.inputs) ∥₁
run_stays fits script first now leads =
    ∥∥₁_elim leads ∥∥₁_prop
    (λ run. ∥∥₁_map (replays_stay fits script first run.0 now run.1) (λ s. (s.0, s.1)))
