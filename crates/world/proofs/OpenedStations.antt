-- The stations of a world that opens: what is true of each, as it is said of all.
use Rattle.std.proofs.Common.{◌≡◌, ◌≢◌, ◌⊎◌, inl, inr, ℕ, zero, suc, ◌+◌, ◌<◌, ◌≤◌, Bool, true, false, cond, List, ℤ}
use Rattle.std.proofs.Common.{[], ◌∷◌, ◌++◌, map, length, refl, sym, ap, subst, ◌∙◌, arith}
use Rattle.std.specs.Prelude.{not, filter, Result, Ok, Err, IfErr}
use Rattle.std.specs.List.{AllByRecursion, AllZip}
use Rattle.std.proofs.lemmas.List.{length-map, map-append}
use Rattle.std.proofs.lemmas.List.Filters.{length-filter_both}
use Rattle.protocol.specs.Node.Common.{Fits, node_count, Network, network_of, Net, slot_room_on, image_length, Spells}
use Rattle.protocol.specs.Node.Common.{cell_in, opening_record, StoreFault}
use Rattle.sector_disk.specs.declared.disk.ArmedFault.{ArmedFault}
use Rattle.sector_disk.specs.declared.disk.Disk.{Ghosts as DiskWords}
use Rattle.gate_cell.specs.declared.cell.StableCell.{Ghosts as CellWords}
use Rattle.slot_cell.specs.declared.slot_cell.SlotCell.{Ghosts as SlotWords}
use Rattle.slot_cell.specs.declared.split.SplitCell.{SplitCell}
use Rattle.station.specs.Nodes.{Node, view_of}
use Rattle.protocol.specs.World.Common.{Traffic, opening_traffic, opening_world, WorldInvariant, is_output}
use Rattle.protocol.specs.World.Common.{output_channels, OutletView, StationView, WorldView}
use Rattle.protocol.specs.Node.Opening.{opening_node}
use Rattle.ckpt_store.specs.declared.fault.StoreFault.TheVariants.{NoMemory, Device, TooLarge, Reopen, Truncated}
use Rattle.ckpt_store.specs.declared.fault.StoreFault.TheVariants.{Version, Malformed, HoldsOther, PastNumber, NotHeld}
use Rattle.ckpt_store.specs.declared.fault.StoreFault.TheVariants.{Unsettled, Spent}
use Rattle.protocol.specs.World.OpeningWorld.{opening_outlet, outlets_on, opening_station, stations_from}
use Rattle.protocol_laws.specs.World.OpenLaws.{world_opened}
use Rattle.protocol_laws.specs.World.OutputLaws.{output_once}
use Rattle.world.specs.OpeningWorld.{armed_on, calls_on, own_outputs, opening_length, AllNumbered, HasRoom, HaveRoom, HaveOutlets}
use Rattle.station.specs.OutputView.{fresh}
use Rattle.world.specs.OpeningWorld.{IsOpened, IsOpenedNode, IsOpeningRefusal, IsUnused, IsWorldRefusal}
use Rattle.world.specs.OpeningWorld.{LeaveOnlyRecords}
use Rattle.world.specs.OpeningWorld.{version_for, AreFormatted, StandsInVersion, IsVersion, AreVersions, AreVersionsFor}
use Rattle.world.specs.OpeningWorld.{IsNotOpened, IsDiskBack, SomeFailed, AreHandedBack}
use Rattle.world.specs.NewWorld.{IsNotNew, IsNotNewFrom}
use Rattle.world.specs.declared.opening.OpeningRefused.{OpeningRefused}
use Rattle.station.specs.StationView.{outlet_view, outlet_views}
use Rattle.station.specs.StationView.{station_view}
use Rattle.world.proofs.Openings.{fresh_views, opened_listed, opened_nothing, opened_station}
use Rattle.protocol.specs.World.Turns.{no_turns}
use Rattle.protocol.specs.Node.Sharing.{even_rooms}
use Rattle.protocol.specs.declared.limits.TheConstants.{DEFAULT_ROOM}
use Rattle.station.specs.declared.output.Output.{Output}
use Rattle.station.specs.declared.station.Station.{Station}

-- one place more
pub numbered_more : {A B : Type 0} (P : ℕ → A → B → Type 0) (number : ℕ) (xs : List A) (ys : List B) (x : A) (y : B)
    → AllNumbered P number xs ys → P (number + length xs) x y → AllNumbered P number (xs ++ x ∷ []) (ys ++ y ∷ [])
numbered_more P number [] [] x y all one =
    (let sum : number + 0 ≡ number = omega arith in subst (λ (n : ℕ). P n x y) sum one, tt)
numbered_more P number [] (z ∷ ys) x y all one = absurd all
numbered_more P number (z ∷ xs) [] x y all one = absurd all
numbered_more P number (z ∷ xs) (w ∷ ys) x y all one =
    let sum : number + suc (length xs) ≡ suc number + length xs = omega arith in
    (all.0, numbered_more P (suc number) xs ys x y all.1 (subst (λ (n : ℕ). P n x y) sum one))

-- The version for a node is one

pub version_valid : (versions : List ℕ) (number : ℕ) → AreVersions versions → IsVersion (version_for versions number)
version_valid [] number all = (omega arith, omega arith)
version_valid (v ∷ versions) zero all = all.0
version_valid (v ∷ versions) (suc number) all = version_valid versions number all.1

-- The outputs of one node

pub own_views : {O : Type 0} (taken : O → List ℤ) (failures : O → ℕ) (net : Network) (home : ℕ) (outputs : List (Output O))
    → outlet_views taken failures (own_outputs net home outputs)
    ≡ outlets_on net home (outlet_views taken failures outputs)
own_views taken failures net home [] = refl
own_views {O} taken failures net home (x ∷ outputs) =
    at (is_output net home x.channel) (own_views taken failures net home outputs)
  where
    at : (b : Bool)
        → outlet_views taken failures (own_outputs net home outputs)
        ≡ outlets_on net home (outlet_views taken failures outputs)
        → outlet_views taken failures (cond b (x ∷ own_outputs net home outputs) (own_outputs net home outputs))
        ≡ cond b (outlet_view taken failures x ∷ outlets_on net home (outlet_views taken failures outputs))
        (outlets_on net home (outlet_views taken failures outputs))
    at true rest = ap (λ (views : List OutletView). outlet_view taken failures x ∷ views) rest
    at false rest = rest

-- that no failure is remembered changes no outlet
pub own_fresh : {O : Type 0} (net : Network) (home : ℕ) (outputs : List (Output O))
    → map (λ (output : Output O). output.outlet) (own_outputs net home (map fresh outputs))
    ≡ map (λ (output : Output O). output.outlet) (own_outputs net home outputs)
own_fresh net home [] = refl
own_fresh {O} net home (x ∷ outputs) = at (is_output net home x.channel) (own_fresh net home outputs)
  where
    at : (b : Bool)
        → map (λ (output : Output O). output.outlet) (own_outputs net home (map fresh outputs))
        ≡ map (λ (output : Output O). output.outlet) (own_outputs net home outputs)
        → map (λ (output : Output O). output.outlet)
        (cond b (fresh x ∷ own_outputs net home (map fresh outputs)) (own_outputs net home (map fresh outputs)))
        ≡ map (λ (output : Output O). output.outlet)
        (cond b (x ∷ own_outputs net home outputs) (own_outputs net home outputs))
    at true rest = ap (λ (outlets : List O). x.outlet ∷ outlets) rest
    at false rest = rest

-- those of a node are among the ones that aren't of another
own_others : {O : Type 0} (net : Network) (home other : ℕ) (outputs : List (Output O)) → home ≢ other
    → own_outputs net other (filter (λ (output : Output O). not (is_output net home output.channel)) outputs)
    ≡ own_outputs net other outputs
own_others net home other [] apart = refl
own_others {O} net home other (x ∷ outputs) apart =
    at (is_output net home x.channel) (is_output net other x.channel) refl refl
    (own_others net home other outputs apart)
  where
    at : (a b : Bool) → is_output net home x.channel ≡ a → is_output net other x.channel ≡ b
        → own_outputs net other (filter (λ (output : Output O). not (is_output net home output.channel)) outputs)
        ≡ own_outputs net other outputs
        → own_outputs net other
        (cond (not a) (x ∷ filter (λ (output : Output O). not (is_output net home output.channel)) outputs)
        (filter (λ (output : Output O). not (is_output net home output.channel)) outputs))
        ≡ cond b (x ∷ own_outputs net other outputs) (own_outputs net other outputs)
    at true true one two rest = absurd (apart (output_once net home other x.channel one two))
    at true false one two rest = rest
    at false b one two rest =
        ap (λ (t : Bool). cond t
        (x ∷ own_outputs net other
        (filter (λ (output : Output O). not (is_output net home output.channel)) outputs))
        (own_outputs net other (filter (λ (output : Output O). not (is_output net home output.channel)) outputs)))
        two
        ∙ ap (λ (list : List (Output O)). cond b (x ∷ list) list) rest

-- All stations

module _ {D O : Type 0} {disk : DiskWords D} {cell : CellWords (SplitCell D disk)}
    {slots : SlotWords (SplitCell D disk)} (taken : O → List ℤ)
    (failures : O → ℕ) (net : Network) (versions : List ℕ) where
  pub opened_views : (outputs : List (Output O)) (number : ℕ) (disks : List D)
      (stations : List (Station (SplitCell D disk) O slots cell))
      → AllNumbered (IsOpened taken failures net versions outputs) number disks stations
      → map (station_view taken failures) stations
      ≡ stations_from net (node_count net) number (map (λ (d : D). disk.failure_count d) disks)
      (outlet_views taken failures outputs)
  opened_views outputs number [] [] all = refl
  opened_views outputs number [] (s ∷ stations) all = absurd all
  opened_views outputs number (d ∷ disks) [] all = absurd all
  opened_views outputs number (d ∷ disks) (s ∷ stations) all =
      ap (λ (first : StationView). first ∷ map (station_view taken failures) stations) all.0.view
      ∙ ap (λ (rest : List StationView). opening_station net (node_count net) number (disk.failure_count d)
      (outlets_on net number (outlet_views taken failures outputs)) ∷ rest)
      (opened_views outputs (suc number) disks stations all.1)

  pub opened_outlets : (outputs : List (Output O)) (number : ℕ) (disks : List D)
      (stations : List (Station (SplitCell D disk) O slots cell))
      → AllNumbered (IsOpened taken failures net versions (map fresh outputs)) number disks stations
      → HaveOutlets net number outputs stations
  opened_outlets outputs number [] [] all = tt
  opened_outlets outputs number [] (s ∷ stations) all = absurd all
  opened_outlets outputs number (d ∷ disks) [] all = absurd all
  opened_outlets outputs number (d ∷ disks) (s ∷ stations) all =
      (all.0.outlets ∙ own_fresh net number outputs, opened_outlets outputs (suc number) disks stations all.1)

  pub opened_left : (outputs : List (Output O)) (number : ℕ) (disks : List D)
      (stations : List (Station (SplitCell D disk) O slots cell))
      → AllNumbered (IsOpened taken failures net versions outputs) number disks stations
      → LeaveOnlyRecords net number stations
  opened_left outputs number [] [] all = tt
  opened_left outputs number [] (s ∷ stations) all = absurd all
  opened_left outputs number (d ∷ disks) [] all = absurd all
  opened_left outputs number (d ∷ disks) (s ∷ stations) all =
      (all.0.left, opened_left outputs (suc number) disks stations all.1)

  pub opened_versions : (outputs : List (Output O)) (number : ℕ) (disks : List D)
      (stations : List (Station (SplitCell D disk) O slots cell))
      → AllNumbered (IsOpened taken failures net versions outputs) number disks stations
      → AreFormatted net number versions stations
  opened_versions outputs number [] [] all = tt
  opened_versions outputs number [] (s ∷ stations) all = absurd all
  opened_versions outputs number (d ∷ disks) [] all = absurd all
  opened_versions outputs number (d ∷ disks) (s ∷ stations) all =
      (all.0.formatted, opened_versions outputs (suc number) disks stations all.1)

  pub opened_rooms : (outputs : List (Output O)) (number : ℕ) (disks : List D)
      (stations : List (Station (SplitCell D disk) O slots cell))
      → AllNumbered (IsOpened taken failures net versions outputs) number disks stations
      → map (λ (station : Station (SplitCell D disk) O slots cell). slots.slot_capacity (cell_in station.node.store))
      stations
      ≡ map (λ (d : D). slot_room_on (disk.sector_count d)) disks
  opened_rooms outputs number [] [] all = refl
  opened_rooms outputs number [] (s ∷ stations) all = absurd all
  opened_rooms outputs number (d ∷ disks) [] all = absurd all
  opened_rooms outputs number (d ∷ disks) (s ∷ stations) all =
      ap (λ (room : ℕ). room
      ∷ map (λ (station : Station (SplitCell D disk) O slots cell). slots.slot_capacity (cell_in station.node.store))
      stations)
      all.0.room
      ∙ ap (λ (rest : List ℕ). slot_room_on (disk.sector_count d) ∷ rest)
      (opened_rooms outputs (suc number) disks stations all.1)

  pub opened_armed : (outputs : List (Output O)) (number : ℕ) (disks : List D)
      (stations : List (Station (SplitCell D disk) O slots cell))
      → AllNumbered (IsOpened taken failures net versions outputs) number disks stations
      → armed_on stations ≡ map (λ (d : D). disk.armed d) disks
  opened_armed outputs number [] [] all = refl
  opened_armed outputs number [] (s ∷ stations) all = absurd all
  opened_armed outputs number (d ∷ disks) [] all = absurd all
  opened_armed outputs number (d ∷ disks) (s ∷ stations) all =
      ap (λ (faults : List ArmedFault). faults ∷ armed_on stations) all.0.armed
      ∙ ap (λ (rest : List (List ArmedFault)). disk.armed d ∷ rest)
      (opened_armed outputs (suc number) disks stations all.1)

  pub opened_calls : (outputs : List (Output O)) (number : ℕ) (disks : List D)
      (stations : List (Station (SplitCell D disk) O slots cell))
      → AllNumbered (IsOpened taken failures net versions outputs) number disks stations
      → calls_on stations ≡ map (λ (d : D). 0) disks
  opened_calls outputs number [] [] all = refl
  opened_calls outputs number [] (s ∷ stations) all = absurd all
  opened_calls outputs number (d ∷ disks) [] all = absurd all
  opened_calls outputs number (d ∷ disks) (s ∷ stations) all =
      ap (λ (count : ℕ). count ∷ calls_on stations) all.0.counted
      ∙ ap (λ (rest : List ℕ). 0 ∷ rest) (opened_calls outputs (suc number) disks stations all.1)

  pub opened_fits : (outputs : List (Output O)) (number : ℕ) (disks : List D)
      (stations : List (Station (SplitCell D disk) O slots cell))
      → AllNumbered (IsOpened taken failures net versions outputs) number disks stations
      → HaveRoom net number (map (λ (d : D). disk.sector_count d) disks)
  opened_fits outputs number [] [] all = tt
  opened_fits outputs number [] (s ∷ stations) all = absurd all
  opened_fits outputs number (d ∷ disks) [] all = absurd all
  opened_fits outputs number (d ∷ disks) (s ∷ stations) all =
      (all.0.fits, opened_fits outputs (suc number) disks stations all.1)

-- One station more

-- parting outputs and forgetting their failures may come in either order
pub fresh_own : {O : Type 0} (net : Network) (home : ℕ) (outputs : List (Output O))
    → map fresh (own_outputs net home outputs) ≡ own_outputs net home (map fresh outputs)
fresh_own net home [] = refl
fresh_own {O} net home (x ∷ outputs) = at (is_output net home x.channel) (fresh_own net home outputs)
  where
    at : (b : Bool) → map fresh (own_outputs net home outputs) ≡ own_outputs net home (map fresh outputs)
        → map fresh (cond b (x ∷ own_outputs net home outputs) (own_outputs net home outputs))
        ≡ cond b (fresh x ∷ own_outputs net home (map fresh outputs)) (own_outputs net home (map fresh outputs))
    at true rest = ap (λ (list : List (Output O)). fresh x ∷ list) rest
    at false rest = rest

module _ {D O : Type 0} {disk : DiskWords D} {cell : CellWords (SplitCell D disk)}
    {slots : SlotWords (SplitCell D disk)} (taken : O → List ℤ)
    (failures : O → ℕ)
    (net : Network) (versions : List ℕ) (outputs : List (Output O)) where
  -- the station of a node that was opened, with the outputs that are its node's, of those that are left
  pub station_opened : (nodes number version : ℕ) (given : D) (rest own : List (Output O))
      (node : Node (SplitCell D disk) slots cell)
      (station : Station (SplitCell D disk) O slots cell) → nodes ≡ node_count net
      → version ≡ version_for versions number
      → IsOpenedNode net nodes number version given node
      → own_outputs net number rest ≡ own_outputs net number outputs → own ≡ map fresh (own_outputs net number rest)
      → station.node ≡ node → station.outputs.items ≡ own → station.turns ≡ no_turns 0
      → IsOpened taken failures net versions (map fresh outputs) number given station
  station_opened nodes number version given rest own node station count told opened left part same outlets none =
      let are : station.outputs.items ≡ own_outputs net number (map fresh outputs) =
      outlets ∙ (part ∙ (ap (map fresh) left ∙ fresh_own net number outputs)) in
      record {
        view = opened_station net (node_count net) number station.node.number
            (cell.failure_count (cell_in station.node.store)) (disk.failure_count given)
            (opening_record net (node_count net) number) (view_of station.node)
            (outlet_views taken failures station.outputs.items) station.turns
            (ap (λ (n : Node (SplitCell D disk) slots cell). n.number) same ∙ opened.number_is)
            (ap view_of same ∙ (opened.view ∙ ap (λ (n : ℕ). opening_node net n number) count)) refl
            (ap (λ (n : Node (SplitCell D disk) slots cell). cell.failure_count (cell_in n.store)) same
            ∙ opened.failures) none
            ∙ ap (opening_station net (node_count net) number (disk.failure_count given))
            (ap (outlet_views taken failures) are ∙ own_views taken failures net number (map fresh outputs));
        outlets = ap (map (λ (output : Output O). output.outlet)) are;
        left = λ left might. subst (λ (n : ℕ). Spells (opening_record net n number) left) count
            (opened.left left
            (subst (λ (n : Node (SplitCell D disk) slots cell). slots.may_leave_whole (cell_in n.store) left) same
            might));
        formatted =
            subst (λ (n : Node (SplitCell D disk) slots cell). StandsInVersion (version_for versions number)
            (opening_record net (node_count net) number) n.store) (sym same)
            (subst (λ (n : ℕ). StandsInVersion (version_for versions number) (opening_record net n number) node.store)
            count
            (subst (λ (v : ℕ). StandsInVersion v (opening_record net nodes number) node.store) told opened.formatted));
        room = ap (λ (n : Node (SplitCell D disk) slots cell). slots.slot_capacity (cell_in n.store)) same
            ∙ opened.room;
        armed = ap (λ (n : Node (SplitCell D disk) slots cell). cell.armed (cell_in n.store)) same ∙ opened.armed;
        counted = ap (λ (n : Node (SplitCell D disk) slots cell). cell.call_count (cell_in n.store)) same
            ∙ opened.counted;
        fits = subst
            (λ (n : ℕ). HasRoom (disk.sector_count given) (image_length (opening_record net n number).permanent)) count
            opened.fits;
      }

  pub stations_more : (disks all : List D) (given : D) (before after : List (Station (SplitCell D disk) O slots cell))
      (station : Station (SplitCell D disk) O slots cell) (number : ℕ) → all ≡ disks ++ given ∷ []
      → number ≡ length disks
      → after ≡ before ++ station ∷ []
      → AllNumbered (IsOpened taken failures net versions (map fresh outputs)) 0 disks before
      → IsOpened taken failures net versions (map fresh outputs) number given station
      → AllNumbered (IsOpened taken failures net versions (map fresh outputs)) 0 all after
  stations_more disks all given before after station number split place pushed opened one =
      let sum : number ≡ 0 + length disks = omega (arith, place) in
      subst (λ (list : List D). AllNumbered (IsOpened taken failures net versions (map fresh outputs)) 0 list after)
      (sym split)
      (subst (AllNumbered (IsOpened taken failures net versions (map fresh outputs)) 0 (disks ++ given ∷ []))
      (sym pushed)
      (numbered_more (IsOpened taken failures net versions (map fresh outputs)) 0 disks before given station opened
      (subst (λ (n : ℕ). IsOpened taken failures net versions (map fresh outputs) n given station) sum one)))

-- what is left of the outputs has those of the nodes behind this one
pub others_left : {O : Type 0} (net : Network) (outputs rest others : List (Output O)) (number many : ℕ)
    → others ≡ filter (λ (output : Output O). not (is_output net number output.channel)) rest → many ≡ number + 1
    → ((home : ℕ) → number ≤ home → own_outputs net home rest ≡ own_outputs net home outputs)
    → (home : ℕ) → many ≤ home → own_outputs net home others ≡ own_outputs net home outputs
others_left net outputs rest others number many are sum all home behind =
    ap (own_outputs net home) are
    ∙ (own_others net number home rest (λ same. omega (arith, same, sum, behind))
    ∙ all home (omega (arith, sum, behind)))

-- what is put behind nothing is all that is there
pub nothing_before : {A : Type 0} (before all more : List A) → before ≡ [] → all ≡ before ++ more → all ≡ more
nothing_before before all more none is = is ∙ ap (λ list. list ++ more) none

-- what is left of the outputs isn't more than there was
pub fewer_left : {O : Type 0} (own : Output O → Bool) (rest others : List (Output O))
    → others ≡ filter (λ (output : Output O). not (own output)) rest → length others ≤ length rest
fewer_left {O} own rest others are =
    let both = length-filter_both own (λ (output : Output O). not (own output)) (λ output. refl) rest in
    let long = ap (length {A = Output O}) are in
    omega (arith, both, long)

-- The world of these stations

module _ {D O : Type 0} {disk : DiskWords D} {cell : CellWords (SplitCell D disk)}
    {slots : SlotWords (SplitCell D disk)} (taken : O → List ℤ)
    (failures : O → ℕ) (given net : Net) (versions : List ℕ) (disks : List D) (outputs items : List (Output O))
    (stations : List (Station (SplitCell D disk) O slots cell))
    (same : given ≡ net) (renewed : items ≡ map fresh outputs)
    (all : AllNumbered (IsOpened taken failures (network_of given.program) versions items) 0 disks stations) where
  -- as they are of the network and the outputs that were given
  pub opened_all : AllNumbered (IsOpened taken failures (network_of net.program) versions (map fresh outputs)) 0 disks
      stations
  opened_all =
      subst (λ (list : List (Output O)). AllNumbered (IsOpened taken failures (network_of net.program) versions list) 0
      disks
      stations) renewed
      (subst (λ (n : Net). AllNumbered (IsOpened taken failures (network_of n.program) versions items) 0 disks
      stations) same
      all)

  pub opened_world : (inputs : List (List ℤ)) (traffic : Traffic) (channel_rooms : List ℕ) → traffic ≡ opening_traffic
      → channel_rooms ≡ even_rooms DEFAULT_ROOM
      → record {
        net = network_of net.program;
        inputs = inputs;
        stations = map (station_view taken failures) stations;
        traffic =
            traffic;
        round = 0;
        rooms = channel_rooms;
      }
      ≡ opening_world (network_of net.program) inputs (map (λ (d : D). disk.failure_count d) disks)
      (outlet_views taken failures outputs)
  opened_world inputs traffic channel_rooms none unset =
      ap (λ (list : List StationView). world list traffic channel_rooms)
      (opened_views taken failures (network_of net.program) versions (map fresh outputs) 0 disks stations opened_all
      ∙ ap (stations_from (network_of net.program) (node_count (network_of net.program)) 0
      (map (λ (d : D). disk.failure_count d) disks)) (fresh_views taken failures outputs))
      ∙ (ap (λ (flying : Traffic). world opened flying channel_rooms) none ∙ ap (world opened opening_traffic) unset)
    where
      opened : List StationView
      opened =
          stations_from (network_of net.program) (node_count (network_of net.program)) 0
          (map (λ (d : D). disk.failure_count d) disks) (map opening_outlet (outlet_views taken failures outputs))

      world : List StationView → Traffic → List ℕ → WorldView
      world list traffic channel_rooms =
          record {
            net = network_of net.program;
            inputs = inputs;
            stations = list;
            traffic = traffic;
            round = 0;
            rooms = channel_rooms;
          }

  -- and so the world is sound
  pub opened_sound : (inputs : List (List ℤ)) (traffic : Traffic) (channel_rooms : List ℕ) → traffic ≡ opening_traffic
      → channel_rooms ≡ even_rooms DEFAULT_ROOM
      → Fits (network_of net.program) inputs
      → length disks ≡ node_count (network_of net.program)
      → map (λ (output : Output O). output.channel) outputs ≡ output_channels 0 (network_of net.program).channels
      → AllByRecursion (IsUnused taken) outputs
      → WorldInvariant
      (record {
        net = network_of net.program;
        inputs = inputs;
        stations =
            map (station_view taken failures) stations;
        traffic = traffic;
        round = 0;
        rooms = channel_rooms;
      })
  opened_sound inputs traffic channel_rooms none unset fits each listed empty =
      subst WorldInvariant (sym (opened_world inputs traffic channel_rooms none unset))
      (world_opened (network_of net.program) inputs (map (λ (d : D). disk.failure_count d) disks)
      (outlet_views taken failures outputs) net.valid fits
      (length-map disks (λ (d : D). disk.failure_count d) ∙ each) (opened_listed taken failures outputs ∙ listed)
      (opened_nothing taken failures outputs empty))

-- Refusals

-- none of a disk is for its version
no_version : (net : Network) (number : ℕ) (sectors : List ℕ) → ¬ (IsWorldRefusal net number sectors Version)
no_version net number [] same = absurd (cc)
no_version net number (s ∷ sectors) (inl refused) = refused
no_version net number (s ∷ sectors) (inr refused) = no_version net (suc number) sectors refused

not_for_version : (net : Network) (sectors : List ℕ) (fault : StoreFault) → IsWorldRefusal net 0 sectors fault
    → ¬ (fault ≡ Version)
not_for_version net sectors fault refused same =
    no_version net 0 sectors (subst (IsWorldRefusal net 0 sectors) same refused)

module _ {W D O : Type 0} (sectors failures : D → ℕ) (net : Network) (versions : List ℕ) (disks : List D)
    (outputs : List (Output O)) where
  -- so where the versions are right, it has the other reasons
  pub not_new_from : (r : Result W (OpeningRefused D O)) → AreVersionsFor (length disks) versions
      → IfErr r (IsNotNew sectors failures net disks outputs)
      → IfErr r (IsNotNewFrom sectors failures net versions disks outputs)
  not_new_from (Ok w) are back = tt
  not_new_from (Err e) are back =
      let none : ¬ (e.fault ≡ Version) =
      not_for_version net (map (λ (d : D). sectors d) disks) e.fault back.why in
      record {
        version = (λ same. absurd (none same), λ wrong. absurd (wrong are));
        untouched = λ same. absurd (none same);
        why = inr back.why;
        handed_back = back.handed_back;
        same_outputs = back.same_outputs;
      }

-- want of memory
pub world_refused : (net : Network) (number : ℕ) (sectors : List ℕ) → IsWorldRefusal net number sectors NoMemory
world_refused net number [] = refl
world_refused net number (s ∷ sectors) = inr (world_refused net (suc number) sectors)

-- the disk behind these
pub disk_refused : {D : Type 0} (net : Network) (count : D → ℕ) (number : ℕ) (done : List D) (given : D)
    (fault : StoreFault) → IsOpeningRefusal (count given) (opening_length net (number + length done)) fault
    → IsWorldRefusal net number (map count (done ++ given ∷ [])) fault
disk_refused net count number [] given fault refused =
    let sum : number + 0 ≡ number = omega arith in
    inl (subst (λ (n : ℕ). IsOpeningRefusal (count given) (opening_length net n) fault) sum refused)
disk_refused net count number (d ∷ done) given fault refused =
    let sum : number + suc (length done) ≡ suc number + length done = omega arith in
    inr (disk_refused net count (suc number) done given fault
    (subst (λ (n : ℕ). IsOpeningRefusal (count given) (opening_length net n) fault) sum refused))

-- one of these
earlier_refused : {D : Type 0} (net : Network) (count : D → ℕ) (number : ℕ) (done : List D) (given : D)
    (fault : StoreFault) → IsWorldRefusal net number (map count done) fault
    → IsWorldRefusal net number (map count (done ++ given ∷ [])) fault
earlier_refused net count number [] given fault refused = inr refused
earlier_refused net count number (d ∷ done) given fault (inl refused) = inl refused
earlier_refused net count number (d ∷ done) given fault (inr refused) =
    inr (earlier_refused net count (suc number) done given fault refused)

module _ {D : Type 0} (net : Network) (count : D → ℕ) (nodes number : ℕ) (done all : List D) (given : D)
    (fault : StoreFault)
    (same : nodes ≡ node_count net) (place : number ≡ length done) (split : all ≡ done ++ given ∷ []) where
  pub last_refused : IsOpeningRefusal (count given) (image_length (opening_record net nodes number).permanent) fault
      → IsWorldRefusal net 0 (map count all) fault
  last_refused refused =
      let sum : number ≡ 0 + length done = omega (arith, place) in
      subst (λ (list : List D). IsWorldRefusal net 0 (map count list) fault) (sym split)
      (disk_refused net count 0 done given fault
      (subst (λ (n : ℕ). IsOpeningRefusal (count given) (opening_length net n) fault) sum
      (subst (λ (n : ℕ). IsOpeningRefusal (count given) (image_length (opening_record net n number).permanent) fault)
      same
      refused)))

pub before_refused : {D : Type 0} (net : Network) (count : D → ℕ) (done all : List D) (given : D) (fault : StoreFault)
    → all ≡ done ++ given ∷ [] → IsWorldRefusal net 0 (map count done) fault
    → IsWorldRefusal net 0 (map count all) fault
before_refused {D} net count done all given fault split refused =
    subst (λ (list : List D). IsWorldRefusal net 0 (map count list) fault) (sym split)
    (earlier_refused net count 0 done given fault refused)

-- What comes back

module _ {D : Type 0} (sectors failures : D → ℕ) where
  all_back : (disks : List D) → AllZip (IsDiskBack sectors failures) disks disks
  all_back [] = tt
  all_back (d ∷ disks) = (record { room = refl; more = omega arith }, all_back disks)

  zip_more : (givens backs : List D) (given back : D) → AllZip (IsDiskBack sectors failures) givens backs
      → IsDiskBack sectors failures given back
      → AllZip (IsDiskBack sectors failures) (givens ++ given ∷ []) (backs ++ back ∷ [])
  zip_more [] [] given back all one = (one, tt)
  zip_more [] (b ∷ backs) given back all one = absurd all
  zip_more (g ∷ givens) [] given back all one = absurd all
  zip_more (g ∷ givens) (b ∷ backs) given back all one = (all.0, zip_more givens backs given back all.1 one)

  some_more : (givens backs : List D) (given back : D) → SomeFailed failures givens backs
      → SomeFailed failures (givens ++ given ∷ []) (backs ++ back ∷ [])
  some_more [] backs given back some = absurd some
  some_more (g ∷ givens) [] given back some = absurd some
  some_more (g ∷ givens) (b ∷ backs) given back (inl failed) = inl failed
  some_more (g ∷ givens) (b ∷ backs) given back (inr some) = inr (some_more givens backs given back some)

  some_last : (disks : List D) (given back : D) → failures given < failures back
      → SomeFailed failures (disks ++ given ∷ []) (disks ++ back ∷ [])
  some_last [] given back failed = inl failed
  some_last (d ∷ disks) given back failed = inr (some_last disks given back failed)

  map_more : (givens backs : List D) (given back : D) → map failures backs ≡ map failures givens
      → failures back ≡ failures given → map failures (backs ++ back ∷ []) ≡ map failures (givens ++ given ∷ [])
  map_more givens backs given back same one =
      map-append failures backs (back ∷ []) ∙ (ap (λ (list : List ℕ). list ++ failures back ∷ []) same
      ∙ (ap (λ (n : ℕ). map failures givens ++ n ∷ []) one ∙ sym (map-append failures givens (given ∷ []))))

  -- nothing was done with any disk
  pub none_done : (givens backs : List D) (fault : StoreFault) → ¬ (fault ≡ Device) → backs ≡ givens
      → AreHandedBack sectors failures givens backs fault
  none_done givens backs fault other same =
      subst (λ (list : List D). AreHandedBack sectors failures givens list fault) (sym same)
      (record { each = all_back givens; failed = λ device. absurd (other device); otherwise = λ other. refl })

  pub none_opened : (givens backs : List D) → backs ≡ givens → AreHandedBack sectors failures givens backs NoMemory
  none_opened givens backs same = none_done givens backs NoMemory (λ device. cc) same

  pub none_tried : (givens : List D) → AreHandedBack sectors failures givens givens Version
  none_tried givens = none_done givens givens Version (λ device. cc) refl

  -- the last one wasn't opened, and the others weren't tried
  pub last_back : {image_len : ℕ} (disks givens backs : List D) (given back : D) (fault : StoreFault)
      → givens ≡ disks ++ given ∷ []
      → backs ≡ disks ++ back ∷ [] → IsNotOpened sectors failures image_len given back fault
      → AreHandedBack sectors failures givens backs fault
  last_back disks givens backs given back fault split pushed one =
      subst (λ (list : List D). AreHandedBack sectors failures list backs fault) (sym split)
      (subst (λ (list : List D). AreHandedBack sectors failures (disks ++ given ∷ []) list fault) (sym pushed)
      (record {
        each = zip_more disks disks given back (all_back disks)
            (record { room = one.room; more = at (is_device fault) });
        failed = λ device. some_last disks given back (one.failed device);
        otherwise = λ other. map_more disks disks given back refl (one.otherwise other);
      }))
    where
      is_device : (f : StoreFault) → (f ≡ Device) ⊎ (¬ (f ≡ Device))
      is_device Device = inl refl
      is_device NoMemory = inr (λ same. cc)
      is_device TooLarge = inr (λ same. cc)
      is_device Reopen = inr (λ same. cc)
      is_device Truncated = inr (λ same. cc)
      is_device Version = inr (λ same. cc)
      is_device Malformed = inr (λ same. cc)
      is_device HoldsOther = inr (λ same. cc)
      is_device PastNumber = inr (λ same. cc)
      is_device NotHeld = inr (λ same. cc)
      is_device Unsettled = inr (λ same. cc)
      is_device Spent = inr (λ same. cc)

      at : (fault ≡ Device) ⊎ (¬ (fault ≡ Device)) → failures given ≤ failures back
      at (inl device) = (let more : failures given < failures back = one.failed device in omega (arith, more))
      at (inr other) = (let same : failures back ≡ failures given = one.otherwise other in omega (arith, same))

  -- one before the last wasn't opened, and the last one was
  pub before_back : (disks again givens backs : List D) (given back : D) (fault : StoreFault)
      → givens ≡ disks ++ given ∷ []
      → backs ≡ again ++ back ∷ [] → AreHandedBack sectors failures disks again fault
      → slot_room_on (sectors back) ≡ slot_room_on (sectors given)
      → failures back ≡ failures given → AreHandedBack sectors failures givens backs fault
  before_back disks again givens backs given back fault split pushed before room same =
      subst (λ (list : List D). AreHandedBack sectors failures list backs fault) (sym split)
      (subst (λ (list : List D). AreHandedBack sectors failures (disks ++ given ∷ []) list fault) (sym pushed)
      (record {
        each = zip_more disks again given back before.each (record { room = room; more = omega (arith, same) });
        failed = λ device. some_more disks again given back (before.failed device);
        otherwise = λ other. map_more disks again given back (before.otherwise other) same;
      }))
