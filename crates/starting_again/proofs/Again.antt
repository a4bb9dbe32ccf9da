-- A world that starts again is one of the machine's, and all that is true of a world is true of it.
use Rattle.std.proofs.Common.{◌≡◌, ℕ, zero, suc, Bool, true, false, cond, nat_lt, ℤ, List, [], ◌∷◌, length, map, All}
use Rattle.std.proofs.Common.{Some, None, replicate, unwrap_or, refl, sym, ap, subst, ◌∙◌, inl, inr, arith}
use Rattle.std.specs.Prelude.{◌==◌, find, slice_get}
use Rattle.std.specs.List.{AllZip}
use Rattle.std.proofs.Math.Logic.{∥∥₁_map}
use Rattle.std.proofs.Math.Path.{fun_ext}
use Rattle.std.proofs.lemmas.Bool.{cases_lt}
use Rattle.std.proofs.lemmas.List.Elements.{All-nil}
use Rattle.recovery_line.specs.Images.{blank}
use Rattle.recovery_line.specs.Nodes.{Down, Running}
use Rattle.protocol.specs.Join.Joined.{KeepsNodes}
use Rattle.protocol.specs.Join.Runs.{Carries}
use Rattle.protocol.specs.Join.Seen.{mode_or_new, modes_seen}
use Rattle.protocol.specs.Node.Beginning.{live_in}
use Rattle.protocol.specs.Node.Common.{crashed, Fits, IsValid, ModeView, Network, node_count, RecordView, running_in}
use Rattle.protocol.specs.Node.Common.{RunningNode}
use Rattle.protocol.specs.Node.LiveView.{LiveView}
use Rattle.protocol.specs.Node.NodeView as view
use Rattle.protocol.specs.World.Common.{AreSound, Flight, flights_to, HasRun, IsJoined, IsNumbered, Leads, Mode}
use Rattle.protocol.specs.World.Common.{net_seen, NODES, opening_traffic, outlets_seen, OutletView, output_of}
use Rattle.protocol.specs.World.Common.{outputs_of, OutputView, Packet, Record, RecordIsSound, records_of}
use Rattle.protocol.specs.World.Common.{records_seen, released_of, RunsOn, SaysWhatWasSent, StationInvariant}
use Rattle.protocol.specs.World.Common.{StationView, taken_or, Traffic, TrafficIsSound, world_seen, WorldInvariant}
use Rattle.protocol.specs.World.Common.{WorldView}
use Rattle.protocol.specs.World.Invariant.{AreJoined}
use Rattle.protocol.specs.World.Traffic.{FlightIsSound}
use Rattle.wire.specs.Traffic.{empty_queue}
use Rattle.protocol_laws.specs.Join.Flown.{has_run_then}
use Rattle.protocol_laws.specs.World.CoordinationLaws.{event_is_coordinated}
use Rattle.starting_again.proofs.AllDown.{all_fall, below, downed, not_below, silent}
use Rattle.starting_again.specs.Laws.{GoesOnAgain, HasTheSame, KeepsAgain, OneStartsAgain}
use Rattle.starting_again.specs.StartsAgain.{StationStartsAgain, WorldStartsAgain}

-- ---- what has left depends on outputs alone

-- the outputs of each station
abbrev pub outputs_each : List StationView → List (List OutputView)
outputs_each stations = map (λ (station : StationView). outputs_of station.outlets) stations

-- what these outlets took by a channel, or else the others
abbrev found : ℕ → List OutletView → List ℤ → List ℤ
found c outlets others = taken_or (find (λ (outlet : OutletView). outlet.channel == c) outlets) others

same_found : (c : ℕ) (others : List ℤ) (xs ys : List OutletView) → outputs_of ys ≡ outputs_of xs
    → found c ys others ≡ found c xs others
same_found c others [] [] same = refl
same_found c others [] (y ∷ ys) same = absurd (cc)
same_found c others (x ∷ xs) [] same = absurd (cc)
same_found c others (x ∷ xs) (y ∷ ys) same =
    let first : output_of y ≡ output_of x = cc in
    let rest : outputs_of ys ≡ outputs_of xs = cc in
    let channel : y.channel ≡ x.channel = ap (λ (o : OutputView). o.channel) first in
    let taken : y.taken ≡ x.taken = ap (λ (o : OutputView). o.taken) first in
    pick_either channel ∙ by (x.channel == c) taken (same_found c others xs ys rest)
  where
    pick : Bool → OutletView → List OutletView → List ℤ
    pick b z zs = taken_or (cond b (Some z) (find (λ (outlet : OutletView). outlet.channel == c) zs)) others

    pick_either : y.channel ≡ x.channel → pick (y.channel == c) y ys ≡ pick (x.channel == c) y ys
    pick_either channel = ap (λ (d : ℕ). pick (d == c) y ys) channel

    by : (b : Bool) → y.taken ≡ x.taken → found c ys others ≡ found c xs others → pick b y ys ≡ pick b x xs
    by true taken rest = taken
    by false taken rest = rest

pub same_released : (c : ℕ) (olds news : List StationView) → outputs_each news ≡ outputs_each olds
    → released_of c news ≡ released_of c olds
same_released c [] [] same = refl
same_released c [] (y ∷ ys) same = absurd (cc)
same_released c (x ∷ xs) [] same = absurd (cc)
same_released c (x ∷ xs) (y ∷ ys) same =
    let first : outputs_of y.outlets ≡ outputs_of x.outlets = cc in
    let rest : outputs_each ys ≡ outputs_each xs = cc in
    same_found c (released_of c ys) x.outlets y.outlets first
    ∙ ap (found c x.outlets) (same_released c xs ys rest)

-- ---- stations that start again

abbrev StartAgain : List StationView → List StationView → Type 0
StartAgain olds news = AllZip StationStartsAgain olds news

pub same_kept : (olds news : List StationView) → StartAgain olds news → records_of news ≡ records_of olds
same_kept [] [] again = refl
same_kept [] (y ∷ ys) again = absurd again
same_kept (x ∷ xs) [] again = absurd again
same_kept (x ∷ xs) (y ∷ ys) again =
    ap (λ (r : RecordView). r ∷ records_of ys) again.0.record_kept
    ∙ ap (λ (rs : List RecordView). x.node.kept ∷ rs) (same_kept xs ys again.1)

pub same_outputs : (olds news : List StationView) → StartAgain olds news → outputs_each news ≡ outputs_each olds
same_outputs [] [] again = refl
same_outputs [] (y ∷ ys) again = absurd again
same_outputs (x ∷ xs) [] again = absurd again
same_outputs (x ∷ xs) (y ∷ ys) again =
    ap (λ (o : List OutputView). o ∷ outputs_each ys) again.0.outputs
    ∙ ap (λ (os : List (List OutputView)). outputs_of x.outlets ∷ os) (same_outputs xs ys again.1)

as_many : (olds news : List StationView) → StartAgain olds news → length news ≡ length olds
as_many [] [] again = refl
as_many [] (y ∷ ys) again = absurd again
as_many (x ∷ xs) [] again = absurd again
as_many (x ∷ xs) (y ∷ ys) again = ap suc (as_many xs ys again.1)

-- the station from which one starts again
record Before (olds : List StationView) (place : ℕ) (new : StationView) : Type 0 where
  pub old : StationView
  pub there : slice_get olds place ≡ Some old
  pub again : StationStartsAgain old new

before : (olds news : List StationView) → StartAgain olds news → (place : ℕ) (new : StationView)
    → slice_get news place ≡ Some new → Before olds place new
before [] [] again place new is = absurd (cc)
before [] (y ∷ ys) again place new is = absurd again
before (x ∷ xs) [] again place new is = absurd again
before (x ∷ xs) (y ∷ ys) again zero new is =
    let same : y ≡ new = cc in
    record { old = x; there = refl; again = subst (StationStartsAgain x) same again.0 }
before (x ∷ xs) (y ∷ ys) again (suc place) new is =
    let rest = before xs ys again.1 place new is in
    record { old = rest.old; there = rest.there; again = rest.again }

-- ---- a world that starts again

-- nothing is in flight at first
no_flights : (nodes to : ℕ)
    → (unwrap_or (slice_get (replicate nodes empty_queue) to) (record { flights = []; counts = [] })).flights ≡ []
no_flights zero to = refl
no_flights (suc nodes) zero = refl
no_flights (suc nodes) (suc to) = no_flights nodes to

pub nothing_opened : (to : ℕ) → flights_to opening_traffic to ≡ []
nothing_opened to = no_flights NODES to

-- the same station, its node down
abbrev pub down_station : StationView → StationView
down_station station =
    record {
      number = station.number;
      node = crashed 0 station.node;
      failures = station.failures;
      outlets = station.outlets;
      turns = station.turns;
    }

abbrev pub started_again : WorldView → WorldView
started_again world =
    record {
      net = world.net;
      inputs = world.inputs;
      stations = map down_station world.stations;
      traffic = opening_traffic;
      round = 0;
      rooms = world.rooms;
    }

pub start_down : (stations : List StationView) → StartAgain stations (map down_station stations)
start_down [] = tt
start_down (s ∷ stations) =
    (record { number = refl; record_kept = refl; down = refl; outputs = refl }, start_down stations)

pub one_starts_again : OneStartsAgain
one_starts_again old =
    ∣ (
      started_again old,
      record {
        net = refl;
        inputs = refl;
        stations = start_down old.stations;
        nothing = nothing_opened;
      },
    ) ∣₁

-- ---- as the abstract machine sees them

past_suc : (j k : ℕ) → nat_lt (suc j) (suc k) ≡ nat_lt j k
past_suc j k = elim (cases_lt j k) [
  | inl lt ↦ below (suc j) (suc k) (omega (arith, lt)) ∙ sym (below j k lt)
  | inr le ↦ not_below (suc j) (suc k) (omega (arith, le)) ∙ sym (not_below j k le)
]

-- each node that there is is down
all_down : (olds news : List StationView) → StartAgain olds news → (j : ℕ)
    → modes_seen news j ≡ cond (nat_lt j (length olds)) Down (modes_seen olds j)
all_down [] [] again j =
    sym (ap (λ (b : Bool). cond b Down (Running blank None)) (not_below j 0 (omega arith)))
all_down [] (y ∷ ys) again j = absurd again
all_down (x ∷ xs) [] again j = absurd again
all_down (x ∷ xs) (y ∷ ys) again zero =
    ap (λ (m : ModeView). mode_or_new (Some (record y { node = record y.node { mode = m } }))) again.0.down
    ∙ sym (ap (λ (b : Bool). cond b Down (modes_seen (x ∷ xs) 0)) (below 0 (suc (length xs)) (omega arith)))
all_down (x ∷ xs) (y ∷ ys) again (suc j) =
    all_down xs ys again.1 j
    ∙ sym (ap (λ (b : Bool). cond b Down (modes_seen xs j)) (past_suc j (length xs)))

seen_again : (olds news : List StationView) → StartAgain olds news → (sent : List Packet)
    → downed (silent (world_seen olds sent)) (length olds) ≡ world_seen news []
seen_again olds news again sent =
    ap (λ (r : ℕ → Record). record {
      records = r;
      modes = λ j. cond (nat_lt j (length olds)) Down (modes_seen olds j);
      outlets = outlets_seen olds;
      flight = λ place. None;
    }) (ap records_seen (sym (same_kept olds news again)))
    ∙ (ap (λ (m : ℕ → Mode). record {
      records = records_seen (records_of news);
      modes = m;
      outlets = outlets_seen olds;
      flight = λ place. None;
    }) (fun_ext (λ j. sym (all_down olds news again j)))
    ∙ ap (λ (o : ℕ → ℕ). record {
      records = records_seen (records_of news);
      modes = modes_seen news;
      outlets = o;
      flight = λ place. None;
    }) (fun_ext (λ c. ap (length {A = ℤ}) (sym (same_released c olds news (same_outputs olds news again))))))

-- nothing that is in flight says anything, since there is nothing
pub carries_nothing : (traffic : Traffic) → ((to : ℕ) → flights_to traffic to ≡ []) → Carries traffic []
carries_nothing traffic nothing to =
    subst (All (λ (f : Flight). SaysWhatWasSent [] f.packet)) (sym (nothing to))
    (All-nil (λ (f : Flight). SaysWhatWasSent [] f.packet))

pub runs_on_again : (net : Network) (olds news : List StationView) (traffic flown : Traffic) → StartAgain olds news
    → ((to : ℕ) → flights_to flown to ≡ []) → HasRun net olds traffic → RunsOn net olds traffic news flown
runs_on_again net olds news traffic flown again nothing run = record {
  run = run;
  sent = [];
  leads = subst (Leads (net_seen net) (world_seen olds run.sent)) (seen_again olds news again run.sent)
      (all_fall (net_seen net) (world_seen olds run.sent) (length olds));
  carries = carries_nothing flown nothing;
}

-- ---- what is true of each station

-- a node that is down doesn't run, and collects nothing
pub down_runs_not : (kept : RecordView) (version : ℕ) (mode : ModeView) → mode ≡ view.Down → (node : RunningNode)
    → running_in kept version mode ≡ Some node → ⊥
down_runs_not kept version mode down node is =
    (let none : None ≡ Some node = sym (ap (running_in kept version) down) ∙ is in cc)

pub down_asks_not : (mode : ModeView) → mode ≡ view.Down → (live : LiveView) → live_in mode ≡ Some live → ⊥
down_asks_not mode down live is = (let none : None ≡ Some live = sym (ap live_in down) ∙ is in cc)

station_again : (net : Network) (inputs : List (List ℤ)) (old new : StationView) → StationStartsAgain old new
    → StationInvariant net inputs old → StationInvariant net inputs new
station_again net inputs old new again inv = record {
  kept = subst (λ (r : RecordView). RecordIsSound net inputs r (outputs_of new.outlets)) (sym again.record_kept)
      (subst (RecordIsSound net inputs old.node.kept) (sym again.outputs) inv.kept);
  runs = λ node is. absurd (down_runs_not new.node.kept new.node.version new.node.mode again.down node is);
}

joined_again : (net : Network) (old new : StationView) → StationStartsAgain old new → IsJoined net old
    → IsJoined net new
joined_again net old new again joined = record {
  kept = subst (λ (r : RecordView). KeepsNodes net new.number r) (sym again.record_kept)
      (subst (λ (n : ℕ). KeepsNodes net n old.node.kept) (sym again.number) joined.kept);
  live = λ live is. absurd (down_asks_not new.node.mode again.down live is);
}

-- ---- the laws

-- no packet is in flight that might not be sound
pub traffic_again : (net : Network) (inputs : List (List ℤ)) (traffic : Traffic) → ((to : ℕ) → flights_to traffic to ≡ [])
    → TrafficIsSound net inputs traffic
traffic_again net inputs traffic nothing to =
    subst (All (FlightIsSound net inputs to)) (sym (nothing to)) (All-nil (FlightIsSound net inputs to))

module _ (old new : WorldView) (inv : WorldInvariant old) (again : WorldStartsAgain old new) where
  numbered : IsNumbered new.stations
  numbered place station is =
      let was = before old.stations new.stations again.stations place station is in
      let named = inv.numbered place was.old was.there in
      (was.again.number ∙ named.0, ap (λ (r : RecordView). r.node) was.again.record_kept ∙ named.1)

  sound : AreSound old.net old.inputs new.stations
  sound place station is =
      let was = before old.stations new.stations again.stations place station is in
      station_again old.net old.inputs was.old station was.again (inv.stations place was.old was.there)

  joined : AreJoined old.net new.stations
  joined place station is =
      let was = before old.stations new.stations again.stations place station is in
      joined_again old.net was.old station was.again (inv.joined place was.old was.there)

  runs_on : ∥ RunsOn old.net old.stations old.traffic new.stations new.traffic ∥₁
  runs_on = ∥∥₁_map inv.run
      (runs_on_again old.net old.stations new.stations old.traffic new.traffic again.stations again.nothing)

  ran : ∥ HasRun old.net new.stations new.traffic ∥₁
  ran = ∥∥₁_map runs_on (has_run_then old.net old.stations new.stations old.traffic new.traffic)

  keeps : WorldInvariant new
  keeps = record {
    valid = subst IsValid (sym again.net) inv.valid;
    fits = subst (λ (n : Network). Fits n new.inputs) (sym again.net)
        (subst (Fits old.net) (sym again.inputs) inv.fits);
    count = as_many old.stations new.stations again.stations ∙ (inv.count ∙ sym (ap node_count again.net));
    numbered = numbered;
    stations = subst (λ (n : Network). AreSound n new.inputs new.stations) (sym again.net)
        (subst (λ (i : List (List ℤ)). AreSound old.net i new.stations) (sym again.inputs) sound);
    joined = subst (λ (n : Network). AreJoined n new.stations) (sym again.net) joined;
    traffic = traffic_again new.net new.inputs new.traffic again.nothing;
    run = subst (λ (n : Network). ∥ HasRun n new.stations new.traffic ∥₁) (sym again.net) ran;
  }

pub keeps_again : KeepsAgain
keeps_again old new inv again = keeps old new inv again

pub has_the_same : HasTheSame
has_the_same old new again = (
  λ c. same_released c old.stations new.stations (same_outputs old.stations new.stations again.stations),
  same_kept old.stations new.stations again.stations,
)

pub goes_on_again : GoesOnAgain
goes_on_again old new inv again =
    ∥∥₁_map (runs_on old new inv again)
    (event_is_coordinated old.net old.inputs inv.valid old.stations new.stations old.traffic new.traffic inv.traffic
    (traffic_again old.net old.inputs new.traffic again.nothing))
