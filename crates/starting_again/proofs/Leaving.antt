-- What a world leaves, and a fresh world over it.
use Rattle.std.proofs.Common.{◌≡◌, ◌⊎◌, inl, inr, ℕ, zero, suc, ◌+◌, ◌<◌, ◌≤◌, ◌&&◌, Bool, true, false, cond, ℤ, List}
use Rattle.std.proofs.Common.{[], ◌∷◌, length, map, All, get_or, None, Some, refl, sym, ap, subst, ◌∙◌, arith}
use Rattle.std.specs.Prelude.{filter, slice_get, IsTrue}
use Rattle.std.specs.List.{AllZip}
use Rattle.std.proofs.Math.Logic.{∥∥₁_elim, ∥∥₁_map}
use Rattle.std.proofs.Math.Path.{fun_ext}
use Rattle.std.proofs.Props.{props}
use Rattle.std.proofs.lemmas.List.Elements.{All-append, All-nil}
use Rattle.std.proofs.lemmas.List.Sorted.{All-permutation}
use Rattle.std.proofs.lemmas.Option.{get_or_from_slice_get, slice_get_cases, slice_get_within}
use Rattle.protocol.specs.Join.Joined.{KeepsNodes}
use Rattle.protocol.specs.Node.Common.{Channel, Network, numbers_where, port_on, RecordView}
use Rattle.protocol.specs.World.Common.{goes_outside, is_output, output_channels, output_of, outputs_of, outputs_on}
use Rattle.protocol.specs.World.Common.{OutputView, RecordIsSound, records_of, StationView, WorldInvariant, WorldView}
use Rattle.protocol.specs.World.Released.{IsStreamOf}
use Rattle.protocol.specs.World.Sound.{leaves_from}
use Rattle.protocol_laws.specs.Node.ImageLaws.{map_got}
use Rattle.protocol_laws.specs.World.OutputLaws.{map_at, output_here, output_there, same_output}
use Rattle.protocol_laws.specs.World.ReleasedLaws.{released_is_right}
use Rattle.protocol_laws.specs.World.ShownLaws.{shown_at}
use Rattle.starting_again.proofs.Again.{down_station, keeps_again, nothing_opened, same_kept, same_outputs}
use Rattle.starting_again.proofs.Again.{same_released, start_down, started_again}
use Rattle.starting_again.specs.Laws.{GivesBackItsOwn, LeavesItsOwn, LeftAreSound, OneOpens, OpensSoundly}
use Rattle.starting_again.specs.StartsAgain.{StationStartsAgain, WorldStartsAgain}
use Rattle.starting_again.specs.WasLeft.{AreSoundByThemselves, IsLeftBy, OpensAt, OpensOver, output_left, outputs_at}
use Rattle.starting_again.specs.WasLeft.{outputs_by_station, outputs_left}

-- ---- outputs that are told by their channels

-- each of these outputs is the one of its channel
abbrev pub AreBy : (ℕ → OutputView) → List OutputView → Type 0
AreBy one outputs =
    (j : ℕ) (output : OutputView) → slice_get outputs j ≡ Some output → output ≡ one output.channel

pub by_channels : (one : ℕ → OutputView) (outputs : List OutputView) → AreBy one outputs
    → outputs ≡ map one (map (λ (output : OutputView). output.channel) outputs)
by_channels one [] each = refl
by_channels one (x ∷ outputs) each =
    ap (λ (o : OutputView). o ∷ outputs) (each 0 x refl)
    ∙ ap (λ (os : List OutputView). one x.channel ∷ os)
    (by_channels one outputs (λ j output is. each (suc j) output is))

-- those of a node are those of its channels
at_channels : (net : Network) (home : ℕ) (stations : List StationView) (channels : List ℕ)
    → outputs_at net home (map (output_left stations) channels)
    ≡ map (output_left stations) (filter (is_output net home) channels)
at_channels net home stations [] = refl
at_channels net home stations (c ∷ channels) = by (is_output net home c) (at_channels net home stations channels)
  where
    by : (b : Bool)
        → outputs_at net home (map (output_left stations) channels)
        ≡ map (output_left stations) (filter (is_output net home) channels)
        → cond b (output_left stations c ∷ outputs_at net home (map (output_left stations) channels))
        (outputs_at net home (map (output_left stations) channels))
        ≡ map (output_left stations) (cond b (c ∷ filter (is_output net home) channels)
        (filter (is_output net home) channels))
    by true rest = ap (λ (os : List OutputView). output_left stations c ∷ os) rest
    by false rest = rest

-- of the channels whose items go outside, the node's are its outputs
own_channels : (net : Network) (home number : ℕ) (channels : List Channel)
    → ((j : ℕ) → slice_get net.channels (number + j) ≡ slice_get channels j)
    → filter (is_output net home) (output_channels number channels)
    ≡ numbers_where (is_output net home) number (length channels)
own_channels net home number [] all = refl
own_channels net home number (x ∷ channels) all =
    by (goes_outside x.consumer) refl (own_channels net home (suc number) channels later)
  where
    later : (j : ℕ) → slice_get net.channels (suc number + j) ≡ slice_get channels j
    later j = let sum : suc number + j ≡ number + suc j = omega arith in ap (slice_get net.channels) sum ∙ all (suc j)

    test : is_output net home number ≡ (goes_outside x.consumer && port_on net home x.producer)
    test = let sum : number ≡ number + 0 = omega arith in
        ap (leaves_from net home) (ap (slice_get net.channels) sum ∙ all 0)

    by : (b : Bool) → goes_outside x.consumer ≡ b
        → filter (is_output net home) (output_channels (suc number) channels)
        ≡ numbers_where (is_output net home) (suc number) (length channels)
        → filter (is_output net home)
        (cond b (number ∷ output_channels (suc number) channels) (output_channels (suc number) channels))
        ≡ cond (is_output net home number) (number ∷ numbers_where (is_output net home) (suc number) (length channels))
        (numbers_where (is_output net home) (suc number) (length channels))
    by false stays rest =
        rest
        ∙ sym (ap (λ (b : Bool). cond b
        (number ∷ numbers_where (is_output net home) (suc number) (length channels))
        (numbers_where (is_output net home) (suc number) (length channels)))
        (test ∙ ap (λ (b : Bool). b && port_on net home x.producer) stays))
    by true goes rest = either (is_output net home number)
      where
        either : (b : Bool)
            → cond b (number ∷ filter (is_output net home) (output_channels (suc number) channels))
            (filter (is_output net home) (output_channels (suc number) channels))
            ≡ cond b (number ∷ numbers_where (is_output net home) (suc number) (length channels))
            (numbers_where (is_output net home) (suc number) (length channels))
        either true = ap (λ (cs : List ℕ). number ∷ cs) rest
        either false = rest

pub outputs_of_node : (net : Network) (home : ℕ)
    → filter (is_output net home) (output_channels 0 net.channels) ≡ outputs_on net home
outputs_of_node net home =
    own_channels net home 0 net.channels
    (λ j. (let sum : 0 + j ≡ j = omega arith in ap (slice_get net.channels) sum))

-- ---- what a station has is what the world leaves at its node

module _ (world : WorldView) (inv : WorldInvariant world) where
  -- each output of a station shows what the world does
  shows : (place : ℕ) (station : StationView) → slice_get world.stations place ≡ Some station
      → AreBy (output_left world.stations) (outputs_of station.outlets)
  shows place station there j output is = told
    where
      listed : map (λ (o : OutputView). o.channel) (outputs_of station.outlets)
          ≡ outputs_on world.net station.node.kept.node
      listed = (inv.stations place station there).kept.listed

      named : station.node.kept.node ≡ place
      named = (inv.numbered place station there).1

      told : output ≡ output_left world.stations output.channel
      told =
          let here = output_here world.net station.node.kept.node (outputs_of station.outlets) listed j output is in
          let passes : IsTrue (is_output world.net place output.channel) =
          subst (λ (n : ℕ). IsTrue (is_output world.net n output.channel)) named
          (output_there world.net station.node.kept.node output.channel here.process here.channel here.there
          here.outside here.producer here.here) in
          let within = slice_get_within world.net.channels output.channel here.channel here.there in
          let below = slice_get_within world.stations place station there in
          let shown = shown_at world.net world.inputs world.stations inv.numbered inv.stations place output.channel
          below passes within in
          let one : Some shown.station ≡ Some station = sym shown.here ∙ there in
          let same : shown.station ≡ station = cc in
          let at : slice_get (outputs_of station.outlets) shown.shown.place ≡ Some (output_of shown.shown.outlet) =
          ap (λ (s : StationView). slice_get (outputs_of s.outlets) shown.shown.place) (sym same)
          ∙ map_at output_of shown.station.outlets shown.shown.place shown.shown.outlet shown.shown.there in
          let where_is = same_output world.net station.node.kept.node (outputs_of station.outlets) listed j
          shown.shown.place output (output_of shown.shown.outlet) is at (sym shown.shown.channel) in
          let both : Some output ≡ Some (output_of shown.shown.outlet) =
          sym is ∙ (ap (slice_get (outputs_of station.outlets)) where_is ∙ at) in
          let alike : output ≡ output_of shown.shown.outlet = cc in
          ap (λ (items : List ℤ). record { channel = output.channel; taken = items })
          (ap (λ (o : OutputView). o.taken) alike ∙ sym shown.shown.shows)

  pub own_outputs : (place : ℕ) (station : StationView) → slice_get world.stations place ≡ Some station
      → outputs_of station.outlets ≡ outputs_at world.net place (outputs_left world)
  own_outputs place station there =
      by_channels (output_left world.stations) (outputs_of station.outlets) (shows place station there)
      ∙ (ap (map (output_left world.stations))
      ((inv.stations place station there).kept.listed
      ∙ (ap (outputs_on world.net) (inv.numbered place station there).1 ∙ sym (outputs_of_node world.net place)))
      ∙ sym (at_channels world.net place world.stations (output_channels 0 world.net.channels)))

-- ---- the laws

pub leaves_its_own : LeavesItsOwn
leaves_its_own world inv =
    ∣ (
      world,
      record {
        true_before = inv;
        same_net = refl;
        same_inputs = refl;
        records_are = refl;
        outputs_are = refl;
      },
    ) ∣₁

-- what holds of each element of each list holds of all
all_of_each : (P : OutputView → Type 0) (stations : List StationView)
    → ((i : ℕ) (s : StationView) → slice_get stations i ≡ Some s → All P (outputs_of s.outlets))
    → All P (outputs_by_station stations)
all_of_each P [] each = All-nil P
all_of_each P (s ∷ stations) each =
    All-append P (outputs_of s.outlets) (outputs_by_station stations) (each 0 s refl)
    (all_of_each P stations (λ i t is. each (suc i) t is))

-- of each place, and of all
to_all : (P : OutputView → Type 0) (outputs : List OutputView)
    → ((j : ℕ) (o : OutputView) → slice_get outputs j ≡ Some o → P o) → All P outputs
to_all P outputs each j d below =
    at (slice_get_cases outputs j).1
  where
    at : ((x : OutputView) × (j < length outputs) × (slice_get outputs j ≡ Some x) × (get_or outputs j x ≡ x))
        ⊎ ((length outputs ≤ j) × (slice_get outputs j ≡ None)) → P (get_or outputs j d)
    at (inl there) =
        subst P (sym (get_or_from_slice_get outputs j there.0 d there.2)) (each j there.0 there.2)
    at (inr past) = absurd (omega (arith, below, past.0))

from_all : (P : OutputView → Type 0) (outputs : List OutputView) → All P outputs
    → (j : ℕ) (o : OutputView) → slice_get outputs j ≡ Some o → P o
from_all P [] all j o is = absurd (cc)
from_all P (x ∷ outputs) all zero o is = let same : x ≡ o = cc in subst P same (all zero x (omega arith))
from_all P (x ∷ outputs) all (suc j) o is =
    from_all P outputs (λ i d below. all (suc i) d (omega (arith, below))) j o is

pub gives_back_its_own : GivesBackItsOwn
gives_back_its_own world outputs inv moved listed =
    by_channels (output_left world.stations) outputs
    (from_all (λ (o : OutputView). o ≡ output_left world.stations o.channel) outputs
    (All-permutation (λ (o : OutputView). o ≡ output_left world.stations o.channel)
    (outputs_by_station world.stations) outputs moved
    (all_of_each (λ (o : OutputView). o ≡ output_left world.stations o.channel) world.stations
    (λ i s is. to_all (λ (o : OutputView). o ≡ output_left world.stations o.channel) (outputs_of s.outlets)
    (shows world inv i s is)))))
    ∙ ap (map (output_left world.stations)) listed

-- ---- what was left, by itself

record_count : (stations : List StationView) → length (records_of stations) ≡ length stations
record_count [] = refl
record_count (s ∷ stations) = ap suc (record_count stations)

left_channels : (stations : List StationView) (channels : List ℕ)
    → map (λ (output : OutputView). output.channel) (map (output_left stations) channels) ≡ channels
left_channels stations [] = refl
left_channels stations (c ∷ channels) = ap (λ (cs : List ℕ). c ∷ cs) (left_channels stations channels)

module _ (world : WorldView) (inv : WorldInvariant world) where
  sound_itself : AreSoundByThemselves world.net world.inputs (records_of world.stations) (outputs_left world)
  sound_itself = record {
    valid = inv.valid;
    fits = inv.fits;
    each = record_count world.stations ∙ inv.count;
    listed = left_channels world.stations (output_channels 0 world.net.channels);
    named = λ node kept is.
        let had = map_got (λ (s : StationView). s.node.kept) world.stations node kept is in
        sym (ap (λ (r : RecordView). r.node) had.2) ∙ (inv.numbered node had.0 had.1).1;
    sound = λ node kept is.
        let had = map_got (λ (s : StationView). s.node.kept) world.stations node kept is in
        subst (λ (r : RecordView). RecordIsSound world.net world.inputs r
        (outputs_at world.net node (outputs_left world))) had.2
        (subst (RecordIsSound world.net world.inputs had.0.node.kept) (own_outputs world inv node had.0 had.1)
        (inv.stations node had.0 had.1).kept);
    joined = λ node kept is.
        let had = map_got (λ (s : StationView). s.node.kept) world.stations node kept is in
        subst (KeepsNodes world.net node) had.2
        (subst (λ (n : ℕ). KeepsNodes world.net n had.0.node.kept) (inv.numbered node had.0 had.1).0
        (inv.joined node had.0 had.1).kept);
    streams = λ j output is.
        let had = map_got (output_left world.stations) (output_channels 0 world.net.channels) j output is in
        subst (λ (o : OutputView). IsStreamOf world.net world.inputs o.channel o.taken) had.2
        (released_is_right world inv had.0);
  }

pub left_are_sound : LeftAreSound
left_are_sound net inputs records outputs was =
    ∥∥₁_elim was (hlevel props)
    (λ left. subst (AreSoundByThemselves net inputs records) left.1.outputs_are
    (subst (λ (rs : List RecordView). AreSoundByThemselves net inputs rs (outputs_left left.0)) left.1.records_are
    (subst (λ (i : List (List ℤ)). AreSoundByThemselves net i (records_of left.0.stations) (outputs_left left.0))
    left.1.same_inputs
    (subst (λ (n : Network). AreSoundByThemselves n left.0.inputs (records_of left.0.stations) (outputs_left left.0))
    left.1.same_net (sound_itself left.0 left.1.true_before)))))

-- ---- a fresh world

-- lists of stations of which each at its place starts again from the other's
starts_each : (olds news : List StationView) → length news ≡ length olds
    → ((i : ℕ) (x y : StationView) → slice_get olds i ≡ Some x → slice_get news i ≡ Some y → StationStartsAgain x y)
    → AllZip StationStartsAgain olds news
starts_each [] [] long each = tt
starts_each [] (y ∷ ys) long each = absurd (omega (arith, long))
starts_each (x ∷ xs) [] long each = absurd (omega (arith, long))
starts_each (x ∷ xs) (y ∷ ys) long each = (
  each 0 x y refl refl,
  starts_each xs ys (omega (arith, long)) (λ i a b is other. each (suc i) a b is other),
)

module _ (net : Network) (inputs : List (List ℤ)) (records : List RecordView) (outputs : List OutputView)
    (old new : WorldView) (left : IsLeftBy net inputs records outputs old)
    (opens : OpensOver net inputs records outputs new) where
  same_net : new.net ≡ old.net
  same_net = opens.same_net ∙ sym left.same_net

  same_records : records_of new.stations ≡ records_of old.stations
  same_records = opens.records_are ∙ sym left.records_are

  as_many : length new.stations ≡ length old.stations
  as_many =
      sym (record_count new.stations) ∙ (ap (length {A = RecordView}) same_records ∙ record_count old.stations)

  station_starts : (i : ℕ) (x y : StationView) → slice_get old.stations i ≡ Some x → slice_get new.stations i ≡ Some y
      → StationStartsAgain x y
  station_starts i x y is other =
      let opened = opens.stations i y other in
      let one : Some y.node.kept ≡ Some x.node.kept =
      sym (map_at (λ (s : StationView). s.node.kept) new.stations i y other)
      ∙ (ap (λ (rs : List RecordView). slice_get rs i) same_records
      ∙ map_at (λ (s : StationView). s.node.kept) old.stations i x is) in
      let kept : y.node.kept ≡ x.node.kept = cc in
      record {
        number = opened.number ∙ sym (left.true_before.numbered i x is).0;
        record_kept = kept;
        down = opened.down;
        outputs = opened.outputs_are
            ∙ (ap (λ (n : Network). outputs_at n i outputs) (sym left.same_net)
            ∙ (ap (outputs_at old.net i) (sym left.outputs_are) ∙ sym (own_outputs old left.true_before i x is)));
      }

  starts : WorldStartsAgain old new
  starts = record {
    net = same_net;
    inputs = opens.same_inputs ∙ sym left.same_inputs;
    stations = starts_each old.stations new.stations as_many station_starts;
    nothing = opens.nothing;
  }

  left_again : outputs_left new ≡ outputs
  left_again =
      ap (λ (n : Network). map (output_left new.stations) (output_channels 0 n.channels)) same_net
      ∙ (ap (λ (one : ℕ → OutputView). map one (output_channels 0 old.net.channels))
      (fun_ext (λ c. ap (λ (items : List ℤ). record { channel = c; taken = items })
      (same_released c old.stations new.stations (same_outputs old.stations new.stations starts.stations))))
      ∙ left.outputs_are)

-- there is one
module _ (net : Network) (inputs : List (List ℤ)) (records : List RecordView) (outputs : List OutputView)
    (old : WorldView) (left : IsLeftBy net inputs records outputs old) where
  opens_at : (place : ℕ) (station : StationView)
      → slice_get (map down_station old.stations) place ≡ Some station → OpensAt net outputs place station
  opens_at place station is =
      let had = map_got down_station old.stations place station is in
      subst (OpensAt net outputs place) had.2
      (record {
        number = (left.true_before.numbered place had.0 had.1).0;
        down = refl;
        outputs_are = own_outputs old left.true_before place had.0 had.1
            ∙ (ap (outputs_at old.net place) left.outputs_are
            ∙ ap (λ (n : Network). outputs_at n place outputs) left.same_net);
      })

  opened : OpensOver net inputs records outputs (started_again old)
  opened = record {
    same_net = left.same_net;
    same_inputs = left.same_inputs;
    records_are = same_kept old.stations (map down_station old.stations) (start_down old.stations)
        ∙ left.records_are;
    stations = opens_at;
    nothing = nothing_opened;
  }

pub one_opens : OneOpens
one_opens net inputs records outputs was =
    ∥∥₁_map was (λ left. (started_again left.0, opened net inputs records outputs left.0 left.1))

pub opens_soundly : OpensSoundly
opens_soundly net inputs records outputs new was opens =
    ∥∥₁_elim was (hlevel props)
    (λ left. (
      keeps_again left.0 new left.1.true_before (starts net inputs records outputs left.0 new left.1 opens),
      left_again net inputs records outputs left.0 new left.1 opens,
    ))
