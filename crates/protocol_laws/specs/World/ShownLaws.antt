-- Laws of what a world shows of an output: what was taken by the outlet at the station of its producer's node, and
-- there is no other.
use Rattle.std.proofs.Common.{◌≡◌, ◌≢◌, inl, inr, ℕ, zero, suc, ◌<◌, eqb, ℤ}
use Rattle.std.proofs.Common.{List, [], ◌∷◌, length, map, Some, None, refl, sym, ap, ◌∙◌, arith}
use Rattle.std.specs.Prelude.{slice_get, find, IsTrue}
use Rattle.std.proofs.lemmas.Option.{slice_get_cases, slice_get_within}
use Rattle.protocol.specs.Node.Common.{Network, Channel, Port, Outside, Process, has_process}
use Rattle.protocol_laws.specs.Node.NumberedLaws.{where_mark, where_there, where_find}
use Rattle.protocol_laws.specs.Node.PlaceLaws.{node_below}
use Rattle.protocol.specs.World.Common.{outputs_of, AreSound, IsNumbered, WorldInvariant, OutputView}
use Rattle.protocol.specs.World.Common.{released_of, is_output, outputs_on, OutletView, StationView, WorldView}
use Rattle.protocol_laws.specs.World.OutputLaws.{output_once, output_there}

-- no outlet is found of a channel of which there is none
find_none : (outlets : List OutletView) (c : ℕ)
    → ((j : ℕ) (outlet : OutletView) → slice_get outlets j ≡ Some outlet → outlet.channel ≢ c)
    → find (λ (o : OutletView). eqb o.channel c) outlets ≡ None
find_none [] c none = refl
find_none (x ∷ outlets) c none =
    let apart = none 0 x refl in
    grind (arith, find_none outlets c (λ j outlet is. none (suc j) outlet is))

-- the outlets of a station are of the channels of its outputs
channels_of : (outlets : List OutletView)
    → map (λ (output : OutputView). output.channel) (outputs_of outlets)
    ≡ map (λ (outlet : OutletView). outlet.channel) outlets
channels_of [] = refl
channels_of (x ∷ outlets) = rw (channels_of outlets) refl

-- what these stations show of a channel is what this station's outlet of it took
pub record IsShown (stations : List StationView) (station : StationView) (c : ℕ) : Type 0 where
  pub place : ℕ
  pub outlet : OutletView
  pub there : slice_get station.outlets place ≡ Some outlet
  pub channel : outlet.channel ≡ c
  pub shows : released_of c stations ≡ outlet.taken

-- the outlets of a station are those of the outputs of its node
abbrev IsListed : Network → StationView → Type 0
IsListed net s = map (λ (output : OutputView). output.channel) (outputs_of s.outlets) ≡ outputs_on net s.node.kept.node

-- so are those of each of these stations
abbrev AreListed : Network → List StationView → Type 0
AreListed net stations = (k : ℕ) (s : StationView) → slice_get stations k ≡ Some s → IsListed net s

module _ (net : Network) (c : ℕ) where
  -- the outlet of an output of a station is found there
  found_there : (station : StationView) → IsListed net station → IsTrue (is_output net station.node.kept.node c)
      → c < length net.channels
      → (place : ℕ) × (outlet : OutletView) × (slice_get station.outlets place ≡ Some outlet)
      × (outlet.channel ≡ c) × (find (λ (o : OutletView). eqb o.channel c) station.outlets ≡ Some outlet)
  found_there station listed passes within =
      let own = sym (channels_of station.outlets) ∙ listed in
      let r = where_there (λ (o : OutletView). o.channel) (is_output net station.node.kept.node) 0
      (length net.channels) c station.outlets own passes (omega arith) (omega arith) in
      let found = where_find (λ (o : OutletView). o.channel) (is_output net station.node.kept.node) 0
      (length net.channels) station.outlets r.0 r.1 own r.2 in
      (r.0, r.1, r.2, r.3, rw r.3 at found)

  -- and none of it is found at a station of another node
  none_there : (station : StationView) → IsListed net station → ¬ (IsTrue (is_output net station.node.kept.node c))
      → find (λ (o : OutletView). eqb o.channel c) station.outlets ≡ None
  none_there station listed apart = find_none station.outlets c (λ j outlet is e.
      apart (rw e at (where_mark (λ (o : OutletView). o.channel) (is_output net station.node.kept.node) 0
      (length net.channels) station.outlets j outlet (sym (channels_of station.outlets) ∙ listed) is).0))

  pub shown_of : (stations : List StationView) (i : ℕ) (station : StationView) → AreListed net stations
      → ((k : ℕ) (s : StationView) → slice_get stations k ≡ Some s → IsTrue (is_output net s.node.kept.node c) → k ≡ i)
      → slice_get stations i ≡ Some station → IsTrue (is_output net station.node.kept.node c) → c < length net.channels
      → IsShown stations station c
  shown_of [] i station listed alone is passes within = absurd (cc)
  shown_of (s ∷ stations) zero station listed alone is passes within =
      let same : s ≡ station = cc in
      let own : IsListed net station = listed 0 station (cc) in
      let found = found_there station own passes within in
      let seen : released_of c (station ∷ stations) ≡ found.1.taken = rw found.4 refl in
      record {
        place = found.0;
        outlet = found.1;
        there = found.2;
        channel = found.3;
        shows = ap (λ (t : StationView). released_of c (t ∷ stations)) same ∙ seen;
      }
  shown_of (s ∷ stations) (suc i) station listed alone is passes within =
      let rest = shown_of stations i station (λ k t there. listed (suc k) t there)
      (λ k t there output. (let more = alone (suc k) t there output in omega arith)) is passes within in
      let none = none_there s (listed 0 s refl) (λ output. (let bad = alone 0 s refl output in omega arith)) in
      let shows : released_of c (s ∷ stations) ≡ rest.outlet.taken = rw none rest.shows in
      search (rest, shows)

-- The station of an output's node has its outlet, and what all stations show of it is what that one took.
pub record IsShownAt (stations : List StationView) (home c : ℕ) : Type 0 where
  pub station : StationView
  pub here : slice_get stations home ≡ Some station
  pub shown : IsShown stations station c

module _ (net : Network) (inputs : List (List ℤ)) (stations : List StationView) (numbered : IsNumbered stations)
    (sound : AreSound net inputs stations) where
  pub shown_at : (home c : ℕ) → home < length stations → IsTrue (is_output net home c) → c < length net.channels
      → IsShownAt stations home c
  shown_at home c below passes within = elim (slice_get_cases stations home).1 [
    | inl there ↦ record {
      station = there.0;
      here = there.2;
      shown = shown_of net c stations home there.0 (λ k s is. (sound k s is).kept.listed)
          (λ k s is output. output_once net k home c (rw (numbered k s is).1 at output) passes) there.2
          (rw (numbered home there.0 there.2).1 passes) within;
    }
    | inr past ↦ absurd (omega (arith, past.0))
  ]

-- In a world each output of the network is shown: by the station of the node of the process that puts there.
pub record IsShownSomewhere (world : WorldView) (c : ℕ) : Type 0 where
  pub home : ℕ
  pub output : IsTrue (is_output world.net home c)
  pub at : IsShownAt world.stations home c

pub output_shown : (world : WorldView) → WorldInvariant world → (c : ℕ) (channel : Channel)
    → slice_get world.net.channels c ≡ Some channel → channel.consumer ≡ Outside → IsShownSomewhere world c
output_shown world inv c channel is to = by_producer channel.producer refl
  where
    by_producer : (port : Port) → channel.producer ≡ port → IsShownSomewhere world c
    by_producer Outside from = absurd (inv.valid.joined c channel is from to)
    by_producer (Process p) from = elim (slice_get_cases world.net.codes p).1 [
      | inl there ↦ let node = there.0.node in
          let here : IsTrue (has_process world.net node p) = rw there.2 (grind arith) in
          let output = output_there world.net node c p channel is to from here in
          let few = node_below world.net p there.0 there.2 in
          record {
            home = node;
            output = output;
            at = shown_at world.net world.inputs world.stations inv.numbered inv.stations node c (omega (arith, inv.count))
                output (slice_get_within world.net.channels c channel is);
          }
      | inr past ↦ absurd (let below = inv.valid.producer_is_here c p channel is from in omega (arith, past.0))
    ]
