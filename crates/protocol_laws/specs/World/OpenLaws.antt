-- A station before its first event: nothing was done, and nothing has left.
use Rattle.std.proofs.Common.{◌≡◌, ℕ, zero, suc, ◌+◌, ◌≤◌, Bool, true, false, eqb, cond, ℤ, List, [], ◌∷◌, length}
use Rattle.std.proofs.Common.{map, Some, option_map, refl, sym, ap, ◌∙◌, arith, add-zero}
use Rattle.std.specs.Prelude.{slice_get, find, filter}
use Rattle.protocol.specs.Node.Common.{numbers_where, port_on, approximation, Fits, node_count, IsValid, Network}
use Rattle.protocol.specs.Node.Common.{MAX_NODES, Channel, log_at, base_in, base_of, opening_ends, opening_image}
use Rattle.protocol.specs.Node.Common.{SavedEnd, AreInOrder}
use Rattle.protocol.specs.Node.Opening.{opening_end, opening_running}
use Rattle.protocol_laws.specs.Node.ImageLaws.{map_got}
use Rattle.protocol_laws.specs.Node.PlaceLaws.{nodes_few}
use Rattle.protocol_laws.specs.Node.SizeLaws.{opening_within}
use Rattle.protocol_laws.specs.Node.OpeningLaws.{reached_opening, laid_out_opening, counts_opening, logs_opening}
use Rattle.protocol_laws.specs.Node.OpeningLaws.{links_opening, inboxes_opening}
use Rattle.protocol.specs.World.Common.{output_of, outputs_of, RunsSoundly, StationInvariant, WorldInvariant}
use Rattle.protocol.specs.World.Common.{opening_world, OutputView, OutletView, StationView, is_output}
use Rattle.protocol.specs.World.Common.{output_channels, outputs_on, HasCome, IsSound}
use Rattle.protocol_laws.specs.World.OrderLaws.{behind_itself}
use Rattle.protocol_laws.specs.World.OutputLaws.{map_at}
use Rattle.protocol_laws.specs.Join.Lasting.{opening_is_joined}
use Rattle.protocol_laws.specs.Join.Whole.{opening_has_run}
use Rattle.protocol.specs.World.RecordSound.{ImageIsSound}
use Rattle.protocol_laws.specs.World.TrafficLaws.{traffic_opened}
use Rattle.protocol_laws.specs.World.RecordLaws.{record_of}
use Rattle.protocol.specs.World.OpeningWorld.{opening_outlet, outlets_on, opening_station, stations_from}

-- nothing has left of any output
abbrev pub NothingLeft : List OutputView → Type 0
NothingLeft outputs = (j : ℕ) (output : OutputView) → slice_get outputs j ≡ Some output → output.taken ≡ []

-- no log begins later than at the first item
end_begins : (puts gets : Bool) → base_in (log_at (Some (opening_end puts gets))) ≡ 0
end_begins puts gets = grind arith

begins_from : (net : Network) (home number c : ℕ) (channels : List Channel)
    → base_in
    (log_at (option_map (λ (s : SavedEnd). s.end)
    (find (λ (s : SavedEnd). eqb s.channel c) (opening_ends net home number channels)))) ≡ 0
begins_from net home number c [] = refl
begins_from net home number c (x ∷ channels) =
    let rest = begins_from net home (suc number) c channels in
    let here = end_begins (port_on net home x.producer) (port_on net home x.consumer) in
    grind (arith, rest, here)

module _ (net : Network) (inputs : List (List ℤ)) (nodes number : ℕ) (outputs : List OutputView) where
  no_base : (c : ℕ) → base_of (opening_image net number) c ≡ 0
  no_base c = begins_from net number 0 c net.channels

  come_opened : NothingLeft outputs → HasCome net inputs (opening_running net nodes number) outputs
  come_opened none = record {
    reached = reached_opening net inputs nodes number;
    inboxes = inboxes_opening net number (approximation net inputs (reached_opening net inputs nodes number).n);
    out = λ job is. absurd (cc);
    released = λ j p output channel is on from. rw (none j output is) refl;
  }

  pub sound_opened : map (λ (output : OutputView). output.channel) outputs ≡ outputs_on net number
      → NothingLeft outputs → IsSound net inputs (opening_running net nodes number) outputs
  sound_opened listed none = record {
    listed = listed;
    kept = record {
      laid_out = laid_out_opening net number;
      counts = counts_opening net number inputs;
      logs = logs_opening net number;
      links = links_opening net nodes number;
    };
    covered = λ j output is. (
        let count : length output.taken ≡ 0 = ap (length {A = ℤ}) (none j output is) in
        let base = no_base output.channel in
        record { no_gap = omega (arith, base); covered = omega (arith, count) });
    come = ∣ come_opened none ∣₁;
  }

-- the images of an opening node are one after another, being the same
order_opened : (net : Network) (nodes number : ℕ)
    → AreInOrder (opening_running net nodes number).kept (opening_running net nodes number).current
order_opened net nodes number =
    record {
      current_ahead = behind_itself (opening_image net number);
      held_ahead = λ held is. absurd (cc);
      held_behind = λ held is. absurd (cc);
    }

-- its image may be started from again
image_opened : (net : Network) (inputs : List (List ℤ)) (number : ℕ) (outputs : List OutputView)
    → ImageIsSound net number inputs (opening_image net number) outputs
image_opened net inputs number outputs = record {
  laid_out = laid_out_opening net number;
  counts = counts_opening net number inputs;
  logs = logs_opening net number;
  no_gap = λ j output is. (let base = no_base net inputs 1 number outputs output.channel in omega (arith, base));
}

station_opened : (net : Network) (inputs : List (List ℤ)) (nodes number failures : ℕ) (outlets : List OutletView)
    → IsValid net → nodes ≤ MAX_NODES
    → map (λ (output : OutputView). output.channel) (outputs_of outlets) ≡ outputs_on net number
    → NothingLeft (outputs_of outlets)
    → StationInvariant net inputs (opening_station net nodes number failures outlets)
station_opened net inputs nodes number failures outlets valid few listed none = record {
  kept = record_of net inputs (outputs_of outlets) (opening_running net nodes number) (omega arith)
      (opening_within net nodes number valid few) (image_opened net inputs number (outputs_of outlets))
      (λ tentative is. absurd (cc)) runs.order runs.sound;
  runs = λ node is. (let same : opening_running net nodes number ≡ node = cc in rw (← same) runs);
}
  where
    runs : RunsSoundly net inputs (opening_running net nodes number) (outputs_of outlets)
    runs = record {
      order = order_opened net nodes number;
      sound = sound_opened net inputs nodes number (outputs_of outlets) listed none;
    }

-- The outlets of one node

-- are of its outputs' channels
channels_on : (net : Network) (home : ℕ) (outlets : List OutletView)
    → map (λ (output : OutputView). output.channel) (outputs_of (outlets_on net home outlets))
    ≡ filter (is_output net home) (map (λ (output : OutputView). output.channel) (outputs_of outlets))
channels_on net home [] = refl
channels_on net home (x ∷ outlets) =
    let rest = channels_on net home outlets in
    grind (arith, rest)

-- and of all outputs those are, in order
outputs_are : (net : Network) (home number : ℕ) (channels : List Channel)
    → ((j : ℕ) → slice_get net.channels (number + j) ≡ slice_get channels j)
    → filter (is_output net home) (output_channels number channels)
    ≡ numbers_where (is_output net home) number (length channels)
outputs_are net home number [] all = refl
outputs_are net home number (x ∷ channels) all =
    let rest = outputs_are net home (suc number) channels
    (λ j. (let sum : suc number + j ≡ number + suc j = omega arith in rw sum (all (suc j)))) in
    let here = rw add-zero at (all 0) in
    grind (arith, rest, here)

own_listed : (net : Network) (home : ℕ) (outlets : List OutletView)
    → map (λ (output : OutputView). output.channel) (outputs_of outlets) ≡ output_channels 0 net.channels
    → map (λ (output : OutputView). output.channel) (outputs_of (outlets_on net home outlets)) ≡ outputs_on net home
own_listed net home outlets listed =
    rw (channels_on net home outlets, listed)
    (outputs_are net home 0 net.channels (λ j. (let sum : 0 + j ≡ j = omega arith in rw sum refl)))

-- what passes a test stands in the whole list
filter_from : {A : Type 0} (test : A → Bool) (xs : List A) (j : ℕ) (x : A) → slice_get (filter test xs) j ≡ Some x
    → (k : ℕ) × (slice_get xs k ≡ Some x)
filter_from test [] j x is = absurd (cc)
filter_from {A} test (y ∷ xs) j x is = at (test y) j is (λ i there. filter_from test xs i x there)
  where
    at : (b : Bool) (j : ℕ) → slice_get (cond b (y ∷ filter test xs) (filter test xs)) j ≡ Some x
        → ((i : ℕ) → slice_get (filter test xs) i ≡ Some x → (k : ℕ) × (slice_get xs k ≡ Some x))
        → (k : ℕ) × (slice_get (y ∷ xs) k ≡ Some x)
    at false j is later = let rest = later j is in (suc rest.0, rest.1)
    at true zero is later = (0, is)
    at true (suc j) is later = let rest = later j is in (suc rest.0, rest.1)

own_nothing : (net : Network) (home : ℕ) (outlets : List OutletView) → NothingLeft (outputs_of outlets)
    → NothingLeft (outputs_of (outlets_on net home outlets))
own_nothing net home outlets none j output is =
    let outlet = map_got output_of (outlets_on net home outlets) j output is in
    let there = filter_from (λ (o : OutletView). is_output net home o.channel) outlets j outlet.0 outlet.1 in
    none there.0 output (map_at output_of outlets there.0 outlet.0 there.1 ∙ ap (λ (o : OutputView). Some o) outlet.2)

-- The stations of a world that opens

-- each is an opening station, of the node of its place
pub station_from : (net : Network) (nodes number : ℕ) (failures : List ℕ) (outlets : List OutletView) (i : ℕ)
    (station : StationView) → slice_get (stations_from net nodes number failures outlets) i ≡ Some station
    → (before : ℕ) × (station ≡ opening_station net nodes (number + i) before (outlets_on net (number + i) outlets))
station_from net nodes number [] outlets i station is = absurd (cc)
station_from net nodes number (before ∷ failures) outlets zero station is =
    let same : opening_station net nodes number before (outlets_on net number outlets) ≡ station = cc in
    let sum : number ≡ number + 0 = omega arith in
    (before, rw (← sum) (sym same))
station_from net nodes number (before ∷ failures) outlets (suc i) station is =
    let rest = station_from net nodes (suc number) failures outlets i station is in
    let sum : suc number + i ≡ number + suc i = omega arith in
    (rest.0, rw (← sum) rest.1)

count_from : (net : Network) (nodes number : ℕ) (failures : List ℕ) (outlets : List OutletView)
    → length (stations_from net nodes number failures outlets) ≡ length failures
count_from net nodes number [] outlets = refl
count_from net nodes number (before ∷ failures) outlets = ap suc (count_from net nodes (suc number) failures outlets)

-- what is true of a world is true of an opening one, of which nothing has left
pub world_opened : (net : Network) (inputs : List (List ℤ)) (failures : List ℕ) (outlets : List OutletView)
    → IsValid net → Fits net inputs → length failures ≡ node_count net
    → map (λ (output : OutputView). output.channel) (outputs_of (map opening_outlet outlets))
    ≡ output_channels 0 net.channels → NothingLeft (outputs_of (map opening_outlet outlets))
    → WorldInvariant (opening_world net inputs failures outlets)
world_opened net inputs failures outlets valid fits each listed none = record {
  valid = valid;
  fits = fits;
  count = count_from net (node_count net) 0 failures (map opening_outlet outlets) ∙ each;
  numbered = λ i station is. (let r = opens i station is in (rw r.1 refl, rw r.1 refl));
  traffic = traffic_opened net inputs;
  joined = λ i station is. opening_is_joined net failures (map opening_outlet outlets) i station is;
  run = opening_has_run net failures (map opening_outlet outlets)
      (λ i outlet is. none i (output_of outlet) (map_at output_of (map opening_outlet outlets) i outlet is));
  stations = λ i station is. (let r = opens i station is in
      rw r.1 (station_opened net inputs (node_count net) i r.0 (outlets_on net i (map opening_outlet outlets)) valid
      (nodes_few net valid) (own_listed net i (map opening_outlet outlets) listed)
      (own_nothing net i (map opening_outlet outlets) none)));
}
  where
    opens : (i : ℕ) (station : StationView)
        → slice_get (stations_from net (node_count net) 0 failures (map opening_outlet outlets)) i ≡ Some station
        → (before : ℕ)
        × (station ≡ opening_station net (node_count net) i before (outlets_on net i (map opening_outlet outlets)))
    opens i station is =
        let r = station_from net (node_count net) 0 failures (map opening_outlet outlets) i station is in
        let sum : 0 + i ≡ i = omega arith in
        (r.0, rw sum at r.1)
