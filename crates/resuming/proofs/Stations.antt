-- A world whose nodes have these records, and are down.
use Rattle.std.proofs.Common.{◌≡◌, ℕ, zero, suc, ◌+◌, ◌<◌, ℤ, List, [], ◌∷◌, length, map, Some, None, refl, sym, ap}
use Rattle.std.proofs.Common.{subst, ◌∙◌, arith}
use Rattle.std.specs.Prelude.{slice_get}
use Rattle.protocol.specs.Join.Joined.{IsJoined}
use Rattle.protocol.specs.Node.Common.{Down, Fits, IsValid, Network, node_count, RecordView}
use Rattle.protocol.specs.Node.Sharing.{even_rooms}
use Rattle.protocol.specs.World.Common.{AreSound, IsNumbered, opening_traffic, OutletView, outputs_of}
use Rattle.protocol.specs.World.Common.{OutputView, records_of, StationInvariant, StationView, WorldView}
use Rattle.protocol.specs.World.Invariant.{AreJoined}
use Rattle.protocol.specs.World.Turns.{no_turns}
use Rattle.protocol.specs.declared.limits.TheConstants.{DEFAULT_ROOM}
use Rattle.rerun.specs.Places.{IsPlace}
use Rattle.rerun.specs.Tables.{TableView, IsInOrder}
use Rattle.resuming.proofs.Standing.{keeps_nodes, record_sound}
use Rattle.resuming.specs.Images.{record_of, records_from}
use Rattle.resuming.specs.Resuming.{MayResume}
use Rattle.starting_again.proofs.Again.{down_asks_not, down_runs_not}
use Rattle.starting_again.specs.WasLeft.{outputs_at}

-- ---- the world

abbrev pub outlet_there : OutputView → OutletView
outlet_there output = record { channel = output.channel; taken = output.taken; failed = None; failures = 0 }

abbrev pub station_there : Network → TableView → List OutputView → ℕ → StationView
station_there net t outputs number = record {
  number = number;
  node = record { kept = record_of net t number; version = 0; restart = 0; armed = []; mode = Down };
  failures = 0;
  outlets = map outlet_there (outputs_at net number outputs);
  turns = no_turns 0;
}

-- those of so many nodes, the first of which has this number
abbrev pub stations_from : Network → TableView → List OutputView → ℕ → ℕ → List StationView
stations_from net t outputs number zero = []
stations_from net t outputs number (suc count) =
    station_there net t outputs number ∷ stations_from net t outputs (suc number) count

abbrev pub stations_there : Network → TableView → List OutputView → List StationView
stations_there net t outputs = stations_from net t outputs 0 (node_count net)

abbrev pub world_there : Network → List (List ℤ) → TableView → List OutputView → WorldView
world_there net inputs t outputs = record {
  net = net;
  inputs = inputs;
  stations = stations_there net t outputs;
  traffic = opening_traffic;
  round = 0;
  rooms = even_rooms DEFAULT_ROOM;
}

-- ---- its stations

pub outlets_are : (outputs : List OutputView) → outputs_of (map outlet_there outputs) ≡ outputs
outlets_are [] = refl
outlets_are (x ∷ outputs) = ap (λ (os : List OutputView). x ∷ os) (outlets_are outputs)

module _ (net : Network) (t : TableView) (outputs : List OutputView) where
  station_from : (number count i : ℕ) (station : StationView)
      → slice_get (stations_from net t outputs number count) i ≡ Some station
      → (i < count) × (station ≡ station_there net t outputs (number + i))
  station_from number zero i station is = absurd (cc)
  station_from number (suc count) zero station is =
      let sum : number ≡ number + 0 = omega arith in
      let same : station_there net t outputs number ≡ station = cc in
      (omega arith, sym same ∙ ap (station_there net t outputs) sum)
  station_from number (suc count) (suc i) station is =
      let rest = station_from (suc number) count i station is in
      let below = rest.0 in
      let sum : suc number + i ≡ number + suc i = omega arith in
      (omega (arith, below), rest.1 ∙ ap (station_there net t outputs) sum)

  pub station_is : (i : ℕ) (station : StationView) → slice_get (stations_there net t outputs) i ≡ Some station
      → (i < node_count net) × (station ≡ station_there net t outputs i)
  station_is i station is =
      let found = station_from 0 (node_count net) i station is in
      let sum : 0 + i ≡ i = omega arith in
      (found.0, found.1 ∙ ap (station_there net t outputs) sum)

  from_there : (number count i : ℕ) → i < count
      → slice_get (stations_from net t outputs number count) i ≡ Some (station_there net t outputs (number + i))
  from_there number zero i below = absurd (omega (arith, below))
  from_there number (suc count) zero below =
      let sum : number ≡ number + 0 = omega arith in
      ap (λ (n : ℕ). Some (station_there net t outputs n)) sum
  from_there number (suc count) (suc i) below =
      let sum : suc number + i ≡ number + suc i = omega arith in
      from_there (suc number) count i (omega (arith, below))
      ∙ ap (λ (n : ℕ). Some (station_there net t outputs n)) sum

  pub is_there : (i : ℕ) → i < node_count net
      → slice_get (stations_there net t outputs) i ≡ Some (station_there net t outputs i)
  is_there i below =
      let sum : 0 + i ≡ i = omega arith in
      from_there 0 (node_count net) i below ∙ ap (λ (n : ℕ). Some (station_there net t outputs n)) sum

  count_from : (number count : ℕ) → length (stations_from net t outputs number count) ≡ count
  count_from number zero = refl
  count_from number (suc count) = ap suc (count_from (suc number) count)

  pub as_many : length (stations_there net t outputs) ≡ node_count net
  as_many = count_from 0 (node_count net)

  pub kept_from : (number count : ℕ)
      → records_of (stations_from net t outputs number count) ≡ records_from net t number count
  kept_from number zero = refl
  kept_from number (suc count) =
      ap (λ (records : List RecordView). record_of net t number ∷ records) (kept_from (suc number) count)

  pub numbered : IsNumbered (stations_there net t outputs)
  numbered i station is =
      let same = (station_is i station is).1 in
      (ap (λ (s : StationView). s.number) same, ap (λ (s : StationView). s.node.kept.node) same)

  joined_there : (i : ℕ) → IsJoined net (station_there net t outputs i)
  joined_there i =
      record { kept = keeps_nodes net t i; live = λ live is. absurd (down_asks_not Down refl live is) }

  pub joined : AreJoined net (stations_there net t outputs)
  joined i station is = subst (IsJoined net) (sym (station_is i station is).1) (joined_there i)

  module _ (inputs : List (List ℤ)) (valid : IsValid net) (fits : Fits net inputs) (ordered : IsInOrder net inputs t)
      (may : MayResume net inputs t outputs) (place : IsPlace net inputs t) where
    sound_there : (i : ℕ) → i < node_count net → StationInvariant net inputs (station_there net t outputs i)
    sound_there i below = record {
      kept =
          let own = outlets_are (outputs_at net i outputs) in
          rw own (record_sound net inputs t outputs valid fits ordered may place i below);
      runs = λ node is. absurd (down_runs_not (record_of net t i) 0 Down refl node is);
    }

    pub sound : AreSound net inputs (stations_there net t outputs)
    sound i station is =
        let there = station_is i station is in
        subst (StationInvariant net inputs) (sym there.1) (sound_there i there.0)
