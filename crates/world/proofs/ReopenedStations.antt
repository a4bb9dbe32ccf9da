-- The stations of a world that is opened over what was left.
use Rattle.std.proofs.Common.{◌≡◌, ℕ, zero, suc, ◌+◌, ◌<◌, Bool, true, false, cond, List, ℤ, None, Option, Some, [], ◌∷◌, ◌++◌, map, length}
use Rattle.std.proofs.Common.{refl, sym, ap, subst, ◌∙◌, arith}
use Rattle.std.specs.Prelude.{IfSome, option_to_list, slice_get}
use Rattle.std.specs.List.{AllByRecursion, AllZip}
use Rattle.std.proofs.lemmas.List.{length-map}
use Rattle.std.proofs.lemmas.Option.{slice_get_within}
use Rattle.sector_disk.specs.declared.disk.ArmedFault.{ArmedFault}
use Rattle.sector_disk.specs.declared.disk.Disk.{Ghosts as DiskWords}
use Rattle.gate_cell.specs.declared.cell.StableCell.{Ghosts as CellWords}
use Rattle.slot_cell.specs.declared.slot_cell.SlotCell.{Ghosts as SlotWords}
use Rattle.slot_cell.specs.declared.split.SplitCell.{SplitCell}
use Rattle.ckpt_store.specs.StoreView.{record_spelled}
use Rattle.station.specs.Nodes.{Node, view_of}
use Rattle.protocol.specs.Node.Common.{cell_in, Net, Network, network_of, node_count, NodeView, RecordView, slot_room_on}
use Rattle.protocol.specs.World.Common.{is_output, opening_traffic, outputs_of, OutputView, OutletView}
use Rattle.protocol.specs.World.Common.{records_of, StationView, Traffic, WorldInvariant, WorldView}
use Rattle.protocol.specs.World.OpeningWorld.{opening_outlet, outlets_on}
use Rattle.protocol.specs.World.Turns.{no_turns}
use Rattle.protocol.specs.Node.Sharing.{even_rooms}
use Rattle.protocol.specs.declared.limits.TheConstants.{DEFAULT_ROOM}
use Rattle.protocol.specs.declared.round_turns.RoundTurns.{RoundTurns}
use Rattle.starting_again.proofs.Again.{nothing_opened}
use Rattle.starting_again.proofs.Leaving.{left_are_sound, opens_soundly}
use Rattle.starting_again.specs.WasLeft.{OpensAt, OpensOver, outputs_at, outputs_left, WasLeft}
use Rattle.station.specs.OutputView.{fresh, outputs_view}
use Rattle.station.specs.StationView.{outlet_views, station_view}
use Rattle.station.specs.declared.output.Output.{Output}
use Rattle.station.specs.declared.station.Station.{Station}
use Rattle.world.specs.Left.{AreLeft, record_on, records_on}
use Rattle.world.specs.OpeningWorld.{AllNumbered, armed_on, calls_on, HaveOutlets, LeavesOnlyRecord, own_outputs}
use Rattle.world.specs.Reopening.{HoldsItsOwn, HoldTheirOwn, IsReopenedNode, IsReopenedStation, node_down}
use Rattle.world.specs.Reopening.{station_down, stations_down, world_again}
use Rattle.world.proofs.Left.{outputs_shown}
use Rattle.world.proofs.OpenedStations.{fresh_own, numbered_more, own_fresh, own_views}
use Rattle.world.proofs.Openings.{fresh_views}
use Rattle.world.proofs.Reopened.{AsLeft, Held, same_disk}

-- ---- disks, place by place

-- by a disk's words
abbrev pub Own : {D : Type 0} → DiskWords D → ℕ → List D → Type 0
Own disk number disks = HoldTheirOwn disk.sector_count disk.content disk.may_leave number disks

module _ {D : Type 0} (disk : DiskWords D) where
  pub own_front : (number : ℕ) (front : List D) (given : D) → Own disk number (front ++ given ∷ [])
      → Own disk number front
  own_front number [] given own = tt
  own_front number (d ∷ front) given own = (own.0, own_front (suc number) front given own.1)

  pub own_last : (number : ℕ) (front : List D) (given : D) → Own disk number (front ++ given ∷ [])
      → HoldsItsOwn disk.sector_count disk.content disk.may_leave (number + length front) given
  own_last number [] given own =
      let sum : number ≡ number + 0 = omega arith in
      subst (λ (n : ℕ). HoldsItsOwn disk.sector_count disk.content disk.may_leave n given) sum own.0
  own_last number (d ∷ front) given own =
      let sum : suc number + length front ≡ number + suc (length front) = omega arith in
      subst (λ (n : ℕ). HoldsItsOwn disk.sector_count disk.content disk.may_leave n given) sum
      (own_last (suc number) front given own.1)

  pub own_prefix : (number : ℕ) (front more : List D) → Own disk number (front ++ more) → Own disk number front
  own_prefix number [] more own = tt
  own_prefix number (d ∷ front) more own = (own.0, own_prefix (suc number) front more own.1)

  pub popped_last : (taken : Option D) (all front : List D) → all ≡ front ++ option_to_list taken → Own disk 0 all
      → IfSome taken (λ (given : D). HoldsItsOwn disk.sector_count disk.content disk.may_leave (length front) given)
  popped_last None all front split own = tt
  popped_last (Some given) all front split own =
      let sum : 0 + length front ≡ length front = omega arith in
      subst (λ (n : ℕ). HoldsItsOwn disk.sector_count disk.content disk.may_leave n given) sum
      (own_last 0 front given (subst (Own disk 0) split own))

  -- disks with which nothing was done
  pub all_same : (number : ℕ) (disks : List D) → Own disk number disks → AllZip (AsLeft disk) disks disks
  all_same number [] own = tt
  all_same number (d ∷ disks) own = (same_disk disk d own.0.held, all_same (suc number) disks own.1)

  pub none_changed : (disks backs : List D) → Own disk 0 disks → backs ≡ disks → AllZip (AsLeft disk) disks backs
  none_changed disks backs own same = subst (AllZip (AsLeft disk) disks) (sym same) (all_same 0 disks own)

  pairs_more : (givens backs : List D) (given back : D) → AllZip (AsLeft disk) givens backs → AsLeft disk given back
      → AllZip (AsLeft disk) (givens ++ given ∷ []) (backs ++ back ∷ [])
  pairs_more [] [] given back all one = (one, tt)
  pairs_more [] (b ∷ backs) given back all one = absurd all
  pairs_more (g ∷ givens) [] given back all one = absurd all
  pairs_more (g ∷ givens) (b ∷ backs) given back all one = (all.0, pairs_more givens backs given back all.1 one)

  -- one disk more
  pub disks_back : (front again givens backs : List D) (given back : D) → givens ≡ front ++ given ∷ []
      → backs ≡ again ++ back ∷ [] → AllZip (AsLeft disk) front again → AsLeft disk given back
      → AllZip (AsLeft disk) givens backs
  disks_back front again givens backs given back split pushed all one =
      subst (λ (list : List D). AllZip (AsLeft disk) list backs) (sym split)
      (subst (AllZip (AsLeft disk) (front ++ given ∷ [])) (sym pushed) (pairs_more front again given back all one))

  -- what was left is each node's own
  own_of : (net : Network) (number : ℕ) (disks : List D) → AllByRecursion (Held disk) disks
      → ((place : ℕ) (kept : RecordView) → slice_get (records_on disk.sector_count disk.content disks) place ≡ Some kept
      → (kept.node ≡ number + place) × (number + place < length kept.highest))
      → Own disk number disks
  own_of net number [] held each = tt
  own_of net number (d ∷ disks) held each =
      let here = each 0 (record_on disk.sector_count disk.content d) refl in
      let sum : number + 0 ≡ number = omega arith in (
        record {
          held = held.0;
          named = here.0 ∙ sum;
          listed = subst (λ (n : ℕ). n < length (record_on disk.sector_count disk.content d).highest) sum here.1;
        },
        own_of net (suc number) disks held.1
            (λ place kept is.
            (let sum : number + suc place ≡ suc number + place = omega arith in
            let there = each (suc place) kept is in (
              there.0 ∙ sum,
              subst (λ (n : ℕ). n < length kept.highest) sum there.1,
            ))),
      )

  pub left_own : {O : Type 0} (taken : O → List ℤ) (net : Network) (inputs : List (List ℤ)) (disks : List D)
      (outputs : List (Output O))
      → AreLeft disk.sector_count disk.content disk.may_leave taken net inputs disks outputs → Own disk 0 disks
  left_own taken net inputs disks outputs left =
      let records : List RecordView = records_on disk.sector_count disk.content disks in
      let sound = left_are_sound net inputs records (outputs_view taken outputs) left.left in
      own_of net 0 disks left.held
      (λ place kept is.
      (let sum : place ≡ 0 + place = omega arith in
      let named : kept.node ≡ place = sound.named place kept is in
      let within : place < length records = slice_get_within records place kept is in
      let each : length records ≡ node_count net = sound.each in
      let listed : length kept.highest ≡ node_count net = (sound.joined place kept is).listed in
      (named ∙ sum, omega (arith, within, each, listed))))

  pub left_few : {O : Type 0} (taken : O → List ℤ) (net : Network) (inputs : List (List ℤ)) (disks : List D)
      (outputs : List (Output O))
      → AreLeft disk.sector_count disk.content disk.may_leave taken net inputs disks outputs
      → length disks ≡ node_count net
  left_few taken net inputs disks outputs left =
      let records : List RecordView = records_on disk.sector_count disk.content disks in
      let sound = left_are_sound net inputs records (outputs_view taken outputs) left.left in
      sym (length-map disks (record_on disk.sector_count disk.content)) ∙ sound.each

  -- what comes back was left
  all_held : (givens backs : List D) → AllZip (AsLeft disk) givens backs → AllByRecursion (Held disk) backs
  all_held [] [] all = tt
  all_held [] (b ∷ backs) all = absurd all
  all_held (g ∷ givens) [] all = absurd all
  all_held (g ∷ givens) (b ∷ backs) all = (all.0.held, all_held givens backs all.1)

  same_records : (givens backs : List D) → AllZip (AsLeft disk) givens backs
      → records_on disk.sector_count disk.content backs ≡ records_on disk.sector_count disk.content givens
  same_records [] [] all = refl
  same_records [] (b ∷ backs) all = absurd all
  same_records (g ∷ givens) [] all = absurd all
  same_records (g ∷ givens) (b ∷ backs) all =
      ap (λ (kept : RecordView). kept ∷ records_on disk.sector_count disk.content backs) (ap record_spelled all.0.same)
      ∙ ap (λ (rest : List RecordView). record_on disk.sector_count disk.content g ∷ rest)
      (same_records givens backs all.1)

  pub left_again : {O : Type 0} (taken : O → List ℤ) (net : Network) (inputs : List (List ℤ)) (givens backs : List D)
      (outputs handed : List (Output O))
      → AreLeft disk.sector_count disk.content disk.may_leave taken net inputs givens outputs
      → AllZip (AsLeft disk) givens backs → handed ≡ outputs
      → AreLeft disk.sector_count disk.content disk.may_leave taken net inputs backs handed
  left_again {O} taken net inputs givens backs outputs handed left all same =
      subst (λ (list : List (Output O)). AreLeft disk.sector_count disk.content disk.may_leave taken net inputs backs
      list) (sym same)
      (record {
        held = all_held givens backs all;
        left = subst (λ (records : List RecordView). WasLeft net inputs records (outputs_view taken outputs))
            (sym (same_records givens backs all)) left.left;
      })

-- ---- one station

station_is : (number home : ℕ) (node : NodeView) (kept : RecordView) (failures before : ℕ)
    (outlets wanted : List OutletView) (turns : RoundTurns) → number ≡ home → node ≡ node_down kept
    → failures ≡ before → outlets ≡ wanted → turns ≡ no_turns 0
    → ◌≡◌ {A = StationView}
    (record { number = number; node = node; failures = failures; outlets = outlets; turns = turns })
    (station_down home kept before wanted)
station_is number home node kept failures before outlets wanted turns first down same has none =
    ap (λ (n : ℕ). station_at n node failures outlets turns) first
    ∙ (ap (λ (state : NodeView). station_at home state failures outlets turns) down
    ∙ (ap (λ (n : ℕ). station_at home (node_down kept) n outlets turns) same
    ∙ (ap (λ (list : List OutletView). station_at home (node_down kept) before list turns) has
    ∙ ap (station_at home (node_down kept) before wanted) none)))
  where
    station_at : ℕ → NodeView → ℕ → List OutletView → RoundTurns → StationView
    station_at n state count list t =
        record { number = n; node = state; failures = count; outlets = list; turns = t }

module _ {D O : Type 0} {disk : DiskWords D} {cell : CellWords (SplitCell D disk)}
    {slots : SlotWords (SplitCell D disk)} (taken : O → List ℤ) (failures : O → ℕ) (net : Network)
    (outputs : List (Output O)) where
  -- the station of a node that was opened, with the outputs that are its node's, of those that are left
  pub station_reopened : (number : ℕ) (given : D) (rest own : List (Output O))
      (node : Node (SplitCell D disk) slots cell) (station : Station (SplitCell D disk) O slots cell)
      → IsReopenedNode number given node
      → own_outputs net number rest ≡ own_outputs net number outputs → own ≡ map fresh (own_outputs net number rest)
      → station.node ≡ node → station.outputs.items ≡ own → station.turns ≡ no_turns 0
      → IsReopenedStation taken failures net (map fresh outputs) number given station
  station_reopened number given rest own node station opened left part same outlets none =
      let are : station.outputs.items ≡ own_outputs net number (map fresh outputs) =
      outlets ∙ (part ∙ (ap (map fresh) left ∙ fresh_own net number outputs)) in
      record {
        view = station_is station.node.number number (view_of station.node)
            (record_on disk.sector_count disk.content given) (cell.failure_count (cell_in station.node.store))
            (disk.failure_count given) (outlet_views taken failures station.outputs.items)
            (outlets_on net number (outlet_views taken failures (map fresh outputs))) station.turns
            (ap (λ (n : Node (SplitCell D disk) slots cell). n.number) same ∙ opened.number_is)
            (ap view_of same ∙ opened.view)
            (ap (λ (n : Node (SplitCell D disk) slots cell). cell.failure_count (cell_in n.store)) same
            ∙ opened.failures)
            (ap (outlet_views taken failures) are ∙ own_views taken failures net number (map fresh outputs)) none;
        outlets = ap (map (λ (output : Output O). output.outlet)) are;
        left = λ left might. opened.left left
            (subst (λ (n : Node (SplitCell D disk) slots cell). slots.may_leave_whole (cell_in n.store) left) same
            might);
        room = ap (λ (n : Node (SplitCell D disk) slots cell). slots.slot_capacity (cell_in n.store)) same
            ∙ opened.room;
        armed = ap (λ (n : Node (SplitCell D disk) slots cell). cell.armed (cell_in n.store)) same ∙ opened.armed;
        counted = ap (λ (n : Node (SplitCell D disk) slots cell). cell.call_count (cell_in n.store)) same
            ∙ opened.counted;
      }

  pub more_reopened : (disks all : List D) (given : D) (before after : List (Station (SplitCell D disk) O slots cell))
      (station : Station (SplitCell D disk) O slots cell) (number : ℕ) → all ≡ disks ++ given ∷ []
      → number ≡ length disks → after ≡ before ++ station ∷ []
      → AllNumbered (IsReopenedStation taken failures net (map fresh outputs)) 0 disks before
      → IsReopenedStation taken failures net (map fresh outputs) number given station
      → AllNumbered (IsReopenedStation taken failures net (map fresh outputs)) 0 all after
  more_reopened disks all given before after station number split place pushed opened one =
      let sum : number ≡ 0 + length disks = omega (arith, place) in
      subst (λ (list : List D). AllNumbered (IsReopenedStation taken failures net (map fresh outputs)) 0 list after)
      (sym split)
      (subst (AllNumbered (IsReopenedStation taken failures net (map fresh outputs)) 0 (disks ++ given ∷ []))
      (sym pushed)
      (numbered_more (IsReopenedStation taken failures net (map fresh outputs)) 0 disks before given station opened
      (subst (λ (n : ℕ). IsReopenedStation taken failures net (map fresh outputs) n given station) sum one)))

-- ---- all stations

module _ {D O : Type 0} {disk : DiskWords D} {cell : CellWords (SplitCell D disk)}
    {slots : SlotWords (SplitCell D disk)} (taken : O → List ℤ) (failures : O → ℕ) (net : Network) where
  reopened_views : (outputs : List (Output O)) (number : ℕ) (disks : List D)
      (stations : List (Station (SplitCell D disk) O slots cell))
      → AllNumbered (IsReopenedStation taken failures net outputs) number disks stations
      → map (station_view taken failures) stations
      ≡ stations_down net number (records_on disk.sector_count disk.content disks)
      (map (λ (d : D). disk.failure_count d) disks) (outlet_views taken failures outputs)
  reopened_views outputs number [] [] all = refl
  reopened_views outputs number [] (s ∷ stations) all = absurd all
  reopened_views outputs number (d ∷ disks) [] all = absurd all
  reopened_views outputs number (d ∷ disks) (s ∷ stations) all =
      ap (λ (first : StationView). first ∷ map (station_view taken failures) stations) all.0.view
      ∙ ap (λ (rest : List StationView). station_down number (record_on disk.sector_count disk.content d)
      (disk.failure_count d) (outlets_on net number (outlet_views taken failures outputs)) ∷ rest)
      (reopened_views outputs (suc number) disks stations all.1)

  pub reopened_outlets : (outputs : List (Output O)) (number : ℕ) (disks : List D)
      (stations : List (Station (SplitCell D disk) O slots cell))
      → AllNumbered (IsReopenedStation taken failures net (map fresh outputs)) number disks stations
      → HaveOutlets net number outputs stations
  reopened_outlets outputs number [] [] all = tt
  reopened_outlets outputs number [] (s ∷ stations) all = absurd all
  reopened_outlets outputs number (d ∷ disks) [] all = absurd all
  reopened_outlets outputs number (d ∷ disks) (s ∷ stations) all =
      (all.0.outlets ∙ own_fresh net number outputs, reopened_outlets outputs (suc number) disks stations all.1)

  pub reopened_left : (outputs : List (Output O)) (number : ℕ) (disks : List D)
      (stations : List (Station (SplitCell D disk) O slots cell))
      → AllNumbered (IsReopenedStation taken failures net outputs) number disks stations
      → AllZip (λ (kept : RecordView) (station : Station (SplitCell D disk) O slots cell). LeavesOnlyRecord kept station)
      (records_on disk.sector_count disk.content disks) stations
  reopened_left outputs number [] [] all = tt
  reopened_left outputs number [] (s ∷ stations) all = absurd all
  reopened_left outputs number (d ∷ disks) [] all = absurd all
  reopened_left outputs number (d ∷ disks) (s ∷ stations) all =
      (all.0.left, reopened_left outputs (suc number) disks stations all.1)

  pub reopened_rooms : (outputs : List (Output O)) (number : ℕ) (disks : List D)
      (stations : List (Station (SplitCell D disk) O slots cell))
      → AllNumbered (IsReopenedStation taken failures net outputs) number disks stations
      → map (λ (station : Station (SplitCell D disk) O slots cell). slots.slot_capacity (cell_in station.node.store))
      stations
      ≡ map (λ (d : D). slot_room_on (disk.sector_count d)) disks
  reopened_rooms outputs number [] [] all = refl
  reopened_rooms outputs number [] (s ∷ stations) all = absurd all
  reopened_rooms outputs number (d ∷ disks) [] all = absurd all
  reopened_rooms outputs number (d ∷ disks) (s ∷ stations) all =
      ap (λ (room : ℕ). room
      ∷ map (λ (station : Station (SplitCell D disk) O slots cell). slots.slot_capacity (cell_in station.node.store))
      stations)
      all.0.room
      ∙ ap (λ (rest : List ℕ). slot_room_on (disk.sector_count d) ∷ rest)
      (reopened_rooms outputs (suc number) disks stations all.1)

  pub reopened_armed : (outputs : List (Output O)) (number : ℕ) (disks : List D)
      (stations : List (Station (SplitCell D disk) O slots cell))
      → AllNumbered (IsReopenedStation taken failures net outputs) number disks stations
      → armed_on stations ≡ map (λ (d : D). disk.armed d) disks
  reopened_armed outputs number [] [] all = refl
  reopened_armed outputs number [] (s ∷ stations) all = absurd all
  reopened_armed outputs number (d ∷ disks) [] all = absurd all
  reopened_armed outputs number (d ∷ disks) (s ∷ stations) all =
      ap (λ (faults : List ArmedFault). faults ∷ armed_on stations) all.0.armed
      ∙ ap (λ (rest : List (List ArmedFault)). disk.armed d ∷ rest)
      (reopened_armed outputs (suc number) disks stations all.1)

  pub reopened_calls : (outputs : List (Output O)) (number : ℕ) (disks : List D)
      (stations : List (Station (SplitCell D disk) O slots cell))
      → AllNumbered (IsReopenedStation taken failures net outputs) number disks stations
      → calls_on stations ≡ map (λ (d : D). 0) disks
  reopened_calls outputs number [] [] all = refl
  reopened_calls outputs number [] (s ∷ stations) all = absurd all
  reopened_calls outputs number (d ∷ disks) [] all = absurd all
  reopened_calls outputs number (d ∷ disks) (s ∷ stations) all =
      ap (λ (count : ℕ). count ∷ calls_on stations) all.0.counted
      ∙ ap (λ (rest : List ℕ). 0 ∷ rest) (reopened_calls outputs (suc number) disks stations all.1)

-- ---- the world that is opened is a fresh one over what was left

outputs_again : (net : Network) (home : ℕ) (outlets : List OutletView)
    → outputs_of (outlets_on net home (map opening_outlet outlets)) ≡ outputs_at net home (outputs_of outlets)
outputs_again net home [] = refl
outputs_again net home (x ∷ outlets) = at (is_output net home x.channel) (outputs_again net home outlets)
  where
    at : (b : Bool)
        → outputs_of (outlets_on net home (map opening_outlet outlets)) ≡ outputs_at net home (outputs_of outlets)
        → outputs_of (cond b (opening_outlet x ∷ outlets_on net home (map opening_outlet outlets))
        (outlets_on net home (map opening_outlet outlets)))
        ≡ cond b (record { channel = x.channel; taken = x.taken } ∷ outputs_at net home (outputs_of outlets))
        (outputs_at net home (outputs_of outlets))
    at true rest = ap (λ (list : List OutputView). record { channel = x.channel; taken = x.taken } ∷ list) rest
    at false rest = rest

records_again : (net : Network) (number : ℕ) (records : List RecordView) (failures : List ℕ) (outlets : List OutletView)
    → length failures ≡ length records → records_of (stations_down net number records failures outlets) ≡ records
records_again net number [] failures outlets long = refl
records_again net number (r ∷ records) [] outlets long =
    let none : 0 ≡ suc (length records) = long in absurd (omega (arith, none))
records_again net number (r ∷ records) (f ∷ failures) outlets long =
    let both : suc (length failures) ≡ suc (length records) = long in
    let less : length failures ≡ length records = omega (arith, both) in
    ap (λ (rest : List RecordView). r ∷ rest) (records_again net (suc number) records failures outlets less)

station_again : (net : Network) (number : ℕ) (records : List RecordView) (failures : List ℕ) (outlets : List OutletView)
    (place : ℕ) (station : StationView)
    → slice_get (stations_down net number records failures (map opening_outlet outlets)) place ≡ Some station
    → OpensAt net (outputs_of outlets) (number + place) station
station_again net number [] failures outlets place station is = absurd (cc)
station_again net number (r ∷ records) [] outlets place station is = absurd (cc)
station_again net number (r ∷ records) (f ∷ failures) outlets zero station is =
    let sum : number ≡ number + 0 = omega arith in
    let same : station_down number r f (outlets_on net number (map opening_outlet outlets)) ≡ station = cc in
    subst (OpensAt net (outputs_of outlets) (number + 0)) same
    (record {
      number = sum;
      down = refl;
      outputs_are = outputs_again net number outlets ∙ ap (λ (n : ℕ). outputs_at net n (outputs_of outlets)) sum;
    })
station_again net number (r ∷ records) (f ∷ failures) outlets (suc place) station is =
    let sum : suc number + place ≡ number + suc place = omega arith in
    subst (λ (n : ℕ). OpensAt net (outputs_of outlets) n station) sum
    (station_again net (suc number) records failures outlets place station is)

world_opens : (net : Network) (inputs : List (List ℤ)) (records : List RecordView) (failures : List ℕ)
    (outlets : List OutletView) → length failures ≡ length records
    → OpensOver net inputs records (outputs_of outlets) (world_again net inputs records failures outlets)
world_opens net inputs records failures outlets long = record {
  same_net = refl;
  same_inputs = refl;
  records_are = records_again net 0 records failures (map opening_outlet outlets) long;
  stations = λ place station is.
      (let sum : 0 + place ≡ place = omega arith in
      subst (λ (n : ℕ). OpensAt net (outputs_of outlets) n station) sum
      (station_again net 0 records failures outlets place station is));
  nothing = nothing_opened;
}

-- such a world, by its stations, what is in flight, and the rooms of channels
abbrev pub world_at : Network → List (List ℤ) → List StationView → Traffic → List ℕ → WorldView
world_at net inputs stations traffic channel_rooms =
    record {
      net = net;
      inputs = inputs;
      stations = stations;
      traffic = traffic;
      round = 0;
      rooms = channel_rooms;
    }

module _ {D O : Type 0} {disk : DiskWords D} {cell : CellWords (SplitCell D disk)}
    {slots : SlotWords (SplitCell D disk)} (taken : O → List ℤ) (failures : O → ℕ) (given net : Net)
    (inputs : List (List ℤ)) (disks : List D) (outputs items : List (Output O))
    (stations : List (Station (SplitCell D disk) O slots cell)) (traffic : Traffic) (channel_rooms : List ℕ)
    (same : given ≡ net) (renewed : items ≡ map fresh outputs) (none : traffic ≡ opening_traffic)
    (unset : channel_rooms ≡ even_rooms DEFAULT_ROOM)
    (all : AllNumbered (IsReopenedStation taken failures (network_of given.program) items) 0 disks stations) where
  -- as they are of the network and the outputs that were given
  pub reopened_all : AllNumbered (IsReopenedStation taken failures (network_of net.program) (map fresh outputs)) 0 disks
      stations
  reopened_all =
      subst (λ (list : List (Output O)). AllNumbered (IsReopenedStation taken failures (network_of net.program) list) 0
      disks stations) renewed
      (subst (λ (n : Net). AllNumbered (IsReopenedStation taken failures (network_of n.program) items) 0 disks stations)
      same all)

  pub reopened_world : world_at (network_of net.program) inputs (map (station_view taken failures) stations) traffic
      channel_rooms
      ≡ world_again (network_of net.program) inputs (records_on disk.sector_count disk.content disks)
      (map (λ (d : D). disk.failure_count d) disks) (outlet_views taken failures outputs)
  reopened_world =
      let records : List RecordView = records_on disk.sector_count disk.content disks in
      let before : List ℕ = map (λ (d : D). disk.failure_count d) disks in
      let down : List StationView =
      stations_down (network_of net.program) 0 records before (map opening_outlet (outlet_views taken failures outputs)) in
      ap (λ (list : List StationView). world_at (network_of net.program) inputs list traffic channel_rooms)
      (reopened_views taken failures (network_of net.program) (map fresh outputs) 0 disks stations reopened_all
      ∙ ap (stations_down (network_of net.program) 0 records before) (fresh_views taken failures outputs))
      ∙ (ap (λ (flying : Traffic). world_at (network_of net.program) inputs down flying channel_rooms) none
      ∙ ap (world_at (network_of net.program) inputs down opening_traffic) unset)

  pub reopened_opens : OpensOver (network_of net.program) inputs (records_on disk.sector_count disk.content disks)
      (outputs_view taken outputs)
      (world_at (network_of net.program) inputs (map (station_view taken failures) stations) traffic channel_rooms)
  reopened_opens =
      let records : List RecordView = records_on disk.sector_count disk.content disks in
      let before : List ℕ = map (λ (d : D). disk.failure_count d) disks in
      subst (OpensOver (network_of net.program) inputs records (outputs_view taken outputs)) (sym reopened_world)
      (subst (λ (list : List OutputView). OpensOver (network_of net.program) inputs records list
      (world_again (network_of net.program) inputs records before (outlet_views taken failures outputs)))
      (outputs_shown taken failures outputs)
      (world_opens (network_of net.program) inputs records before (outlet_views taken failures outputs)
      (length-map disks (λ (d : D). disk.failure_count d)
      ∙ sym (length-map disks (record_on disk.sector_count disk.content)))))

  -- and so it is sound, and what has left is what had left
  pub reopened_soundly :
      AreLeft disk.sector_count disk.content disk.may_leave taken (network_of net.program) inputs disks outputs
      → WorldInvariant (world_at (network_of net.program) inputs (map (station_view taken failures) stations) traffic channel_rooms)
      × (outputs_left (world_at (network_of net.program) inputs (map (station_view taken failures) stations) traffic channel_rooms)
      ≡ outputs_view taken outputs)
  reopened_soundly left =
      opens_soundly (network_of net.program) inputs (records_on disk.sector_count disk.content disks)
      (outputs_view taken outputs)
      (world_at (network_of net.program) inputs (map (station_view taken failures) stations) traffic channel_rooms) left.left
      reopened_opens
