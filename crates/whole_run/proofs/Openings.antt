-- Where a run begins, a run of the abstract machine begins.
use Rattle.std.proofs.Common.{◌≡◌, ◌⊎◌, inl, inr, ℕ, zero, suc, Bool, true, false, eqb, ℤ, List, [], ◌∷◌, length, map}
use Rattle.std.proofs.Common.{replicate, Option, Some, None, option_map, refl, sym, ap, subst, ◌∙◌, arith}
use Rattle.std.specs.Prelude.{◌==◌, filter, find, slice_get, slice_index}
use Rattle.std.proofs.Math.Logic.{∥∥₁_map}
use Rattle.std.proofs.Math.Path.{fun_ext}
use Rattle.std.proofs.lemmas.Option.{slice_get_cases}
use Rattle.protocol.specs.Join.Seen.{mode_seen, modes_seen}
use Rattle.protocol.specs.Node.Common.{base_in, base_of, Channel, End, log_at, Network, node_count, opening_ends}
use Rattle.protocol.specs.Node.Common.{opening_image, opening_record, received_at, received_of, RecordView, SavedEnd}
use Rattle.protocol.specs.Node.Common.{sent_in, sent_of}
use Rattle.protocol.specs.Node.NodeView as view
use Rattle.protocol.specs.Node.Opening.{opening_end}
use Rattle.protocol.specs.World.Common.{flights_to, image_seen, is_output, Mode, net_seen, outlets_seen, OutletView}
use Rattle.protocol.specs.World.Common.{outputs_of, OutputView, Packet, record_seen, records_of, records_seen}
use Rattle.protocol.specs.World.Common.{released_of, StationView, taken_or, Traffic, world_seen, WorldView}
use Rattle.protocol.specs.World.OpeningWorld.{opening_outlet, stations_from}
use Rattle.protocol_laws.specs.Join.Flown.{all_flown, is_flown}
use Rattle.recovery_line.proofs.Starting.{may_begin}
use Rattle.recovery_line.specs.Images.{blank}
use Rattle.recovery_line.specs.Nodes.{Running}
use Rattle.recovery_line.specs.Records.{new_record}
use Rattle.recovery_line.specs.Starts.{IsStart}
use Rattle.recovery_line.specs.Worlds.{opening}
use Rattle.rerun.proofs.Meant.{places}
use Rattle.rerun.specs.Tables.{TableView}
use Rattle.resuming.proofs.Starts.{start}
use Rattle.resuming.proofs.Stations.{kept_from, outlets_are, station_is, stations_there}
use Rattle.resuming.specs.Images.{records_there}
use Rattle.starting_again.proofs.Again.{outputs_each, same_released}
use Rattle.starting_again.specs.WasLeft.{OpensOver, outputs_at}
use Rattle.whole_run.proofs.Nothing.{nothing_begins}
use Rattle.whole_run.specs.Beginnings.{Begins, IsMade, IsRunAgain}
use Rattle.whole_run.specs.Machine.{IsMachineStart, machine_world}

-- ---- where nothing is in flight

nothing_flown : (traffic : Traffic) → ((to : ℕ) → flights_to traffic to ≡ []) → (place : ℕ)
    → slice_get (all_flown traffic) place ≡ None
nothing_flown traffic nothing place = elim (slice_get_cases (all_flown traffic) place).1 [
  | inl there ↦
      let flown = is_flown traffic there.0 (place, there.2) in
      let none : slice_get [] flown.place ≡ Some flown.flight =
      subst (λ flights. slice_get flights flown.place ≡ Some flown.flight) (nothing flown.to) flown.there in
      absurd (cc)
  | inr past ↦ past.1
]

silent_world : (world : WorldView) → ((to : ℕ) → flights_to world.traffic to ≡ [])
    → machine_world world ≡ world_seen world.stations []
silent_world world nothing =
    ap (λ (flight : ℕ → Option Packet). record {
      records = records_seen (records_of world.stations);
      modes = modes_seen world.stations;
      outlets = outlets_seen world.stations;
      flight = flight;
    }) (fun_ext (nothing_flown world.traffic nothing))

-- ---- a world that was made

module _ (net : Network) (home : ℕ) where
  count_is_none : (count : Option End → ℕ) → count None ≡ 0
      → ((puts gets : Bool) → count (Some (opening_end puts gets)) ≡ 0) → (c number : ℕ) (channels : List Channel)
      → count (option_map (λ (s : SavedEnd). s.end)
      (find (λ (s : SavedEnd). eqb s.channel c) (opening_ends net home number channels))) ≡ 0
  count_is_none count none one c number [] = none
  count_is_none count none one c number (channel ∷ channels) =
      grind (arith, count_is_none count none one c (suc number) channels, one)

  nothing_yet : (puts gets : Bool) → (received_at (Some (opening_end puts gets)) ≡ 0)
      × (base_in (log_at (Some (opening_end puts gets))) ≡ 0) × (sent_in (log_at (Some (opening_end puts gets))) ≡ 0)
  nothing_yet true true = (refl, refl, refl)
  nothing_yet true false = (refl, refl, refl)
  nothing_yet false gets = (refl, refl, refl)

  image_opens : image_seen (opening_image net home) ≡ blank
  image_opens =
      rw (fun_ext received, fun_ext base, fun_ext sent) refl
    where
      received : (c : ℕ) → received_of (opening_image net home) c ≡ 0
      received c = count_is_none received_at refl (λ puts gets. (nothing_yet puts gets).0) c 0 net.channels

      base : (c : ℕ) → base_of (opening_image net home) c ≡ 0
      base c =
          count_is_none (λ (o : Option End). base_in (log_at o)) refl (λ puts gets. (nothing_yet puts gets).1) c 0
          net.channels

      sent : (c : ℕ) → sent_of (opening_image net home) c ≡ 0
      sent c =
          count_is_none (λ (o : Option End). sent_in (log_at o)) refl (λ puts gets. (nothing_yet puts gets).2) c 0
          net.channels

  record_opens : (nodes : ℕ) → record_seen (opening_record net nodes home) ≡ new_record
  record_opens nodes = rw (fun_ext (none nodes), image_opens) refl
    where
      none : (count x : ℕ) → slice_index (replicate count 0) x ≡ 0
      none zero x = refl
      none (suc count) zero = refl
      none (suc count) (suc x) = none count x

module _ (net : Network) (nodes : ℕ) (outlets : List OutletView)
    (unused : (j : ℕ) (outlet : OutletView) → slice_get outlets j ≡ Some outlet → outlet.taken ≡ []) where
  records_open : (number : ℕ) (failures : List ℕ) (k : ℕ)
      → records_seen (records_of (stations_from net nodes number failures outlets)) k ≡ new_record
  records_open number [] k = refl
  records_open number (f ∷ failures) zero = record_opens net number nodes
  records_open number (f ∷ failures) (suc k) = records_open (suc number) failures k

  modes_open : (number : ℕ) (failures : List ℕ) (k : ℕ)
      → modes_seen (stations_from net nodes number failures outlets) k ≡ Running blank None
  modes_open number [] k = refl
  modes_open number (f ∷ failures) zero = rw (image_opens net number) refl
  modes_open number (f ∷ failures) (suc k) = modes_open (suc number) failures k

  nothing_found : (test : OutletView → Bool) (c : ℕ) (all : List OutletView) (others : List ℤ)
      → ((j : ℕ) (outlet : OutletView) → slice_get all j ≡ Some outlet → outlet.taken ≡ []) → others ≡ []
      → taken_or (find (λ (outlet : OutletView). outlet.channel == c) (filter test all)) others ≡ []
  nothing_found test c [] others nothing none = none
  nothing_found test c (o ∷ all) others nothing none =
      let here = nothing 0 o refl in
      grind (arith, nothing_found test c all others (λ i outlet is. nothing (suc i) outlet is) none)

  left_open : (c number : ℕ) (failures : List ℕ) → released_of c (stations_from net nodes number failures outlets) ≡ []
  left_open c number [] = refl
  left_open c number (f ∷ failures) =
      nothing_found (λ (outlet : OutletView). is_output net number outlet.channel) c outlets
      (released_of c (stations_from net nodes (suc number) failures outlets)) unused (left_open c (suc number) failures)

  world_opens : (number : ℕ) (failures : List ℕ)
      → world_seen (stations_from net nodes number failures outlets) [] ≡ opening
  world_opens number failures =
      rw (
        fun_ext (records_open number failures),
        fun_ext (modes_open number failures),
        fun_ext (λ c. ap (length {A = ℤ}) (left_open c number failures)),
      ) refl

opened_unused : (outlets : List OutletView)
    → ((j : ℕ) (outlet : OutletView) → slice_get outlets j ≡ Some outlet → outlet.taken ≡ []) → (j : ℕ)
    (outlet : OutletView) → slice_get (map opening_outlet outlets) j ≡ Some outlet → outlet.taken ≡ []
opened_unused [] unused j outlet is = absurd (cc)
opened_unused (x ∷ outlets) unused zero outlet is =
    let same : opening_outlet x ≡ outlet = cc in sym (ap (λ (o : OutletView). o.taken) same) ∙ unused 0 x refl
opened_unused (x ∷ outlets) unused (suc j) outlet is =
    opened_unused outlets (λ i o there. unused (suc i) o there) j outlet is

made_starts : (world : WorldView) → IsMade world → world_seen world.stations [] ≡ opening
made_starts world made =
    ap (λ (w : WorldView). world_seen w.stations []) made.is
    ∙ world_opens world.net (node_count world.net) (map opening_outlet made.outlets)
    (opened_unused made.outlets made.unused) 0 made.failures

-- ---- stations that are down, with the same records and outputs

record IsAlike (old new : StationView) : Type 0 where
  pub outputs : outputs_of new.outlets ≡ outputs_of old.outlets
  pub old_down : old.node.mode ≡ view.Down
  pub new_down : new.node.mode ≡ view.Down

abbrev AreAlike : List StationView → List StationView → Type 0
AreAlike olds news = (i : ℕ) (x y : StationView) → slice_get olds i ≡ Some x → slice_get news i ≡ Some y → IsAlike x y

alike_outputs : (olds news : List StationView) → length news ≡ length olds → AreAlike olds news
    → outputs_each news ≡ outputs_each olds
alike_outputs [] [] long alike = refl
alike_outputs [] (y ∷ ys) long alike = absurd (omega (arith, long))
alike_outputs (x ∷ xs) [] long alike = absurd (omega (arith, long))
alike_outputs (x ∷ xs) (y ∷ ys) long alike =
    ap (λ (os : List OutputView). os ∷ outputs_each ys) (alike 0 x y refl refl).outputs
    ∙ ap (λ (rest : List (List OutputView)). outputs_of x.outlets ∷ rest)
    (alike_outputs xs ys (omega (arith, long)) (λ i a b is other. alike (suc i) a b is other))

alike_modes : (olds news : List StationView) → length news ≡ length olds → AreAlike olds news → (k : ℕ)
    → modes_seen news k ≡ modes_seen olds k
alike_modes [] [] long alike k = refl
alike_modes [] (y ∷ ys) long alike k = absurd (omega (arith, long))
alike_modes (x ∷ xs) [] long alike k = absurd (omega (arith, long))
alike_modes (x ∷ xs) (y ∷ ys) long alike zero =
    let one = alike 0 x y refl refl in ap mode_seen (one.new_down ∙ sym one.old_down)
alike_modes (x ∷ xs) (y ∷ ys) long alike (suc k) =
    alike_modes xs ys (omega (arith, long)) (λ i a b is other. alike (suc i) a b is other) k

alike_worlds : (olds news : List StationView) → length news ≡ length olds → records_of news ≡ records_of olds
    → AreAlike olds news → world_seen news [] ≡ world_seen olds []
alike_worlds olds news long kept alike =
    ap (λ (r : List RecordView). record {
      records = records_seen r;
      modes = modes_seen news;
      outlets = outlets_seen news;
      flight = slice_get [];
    }) kept
    ∙ (ap (λ (m : ℕ → Mode). record {
      records = records_seen (records_of olds);
      modes = m;
      outlets = outlets_seen news;
      flight = slice_get [];
    }) (fun_ext (alike_modes olds news long alike))
    ∙ ap (λ (o : ℕ → ℕ). record {
      records = records_seen (records_of olds);
      modes = modes_seen olds;
      outlets = o;
      flight = slice_get [];
    }) (fun_ext (λ c. ap (length {A = ℤ}) (same_released c olds news (alike_outputs olds news long alike)))))

record_count : (stations : List StationView) → length (records_of stations) ≡ length stations
record_count [] = refl
record_count (s ∷ stations) = ap suc (record_count stations)

-- a world that was opened where the processes were run again
module _ (net : Network) (inputs : List (List ℤ)) (t : TableView) (outputs : List OutputView) (world : WorldView)
    (opens : OpensOver net inputs (records_there net t) outputs world) where
  same_records : records_of world.stations ≡ records_of (stations_there net t outputs)
  same_records = opens.records_are ∙ sym (kept_from net t outputs 0 (node_count net))

  as_many_there : length world.stations ≡ length (stations_there net t outputs)
  as_many_there =
      sym (record_count world.stations)
      ∙ (ap (length {A = RecordView}) same_records ∙ record_count (stations_there net t outputs))

  alike_there : AreAlike (stations_there net t outputs) world.stations
  alike_there i x y is other =
      let there = (station_is net t outputs i x is).1 in
      let opened = opens.stations i y other in
      record {
        outputs = opened.outputs_are
            ∙ (sym (outlets_are (outputs_at net i outputs))
            ∙ sym (ap (λ (s : StationView). outputs_of s.outlets) there));
        old_down = ap (λ (s : StationView). s.node.mode) there;
        new_down = opened.down;
      }

  pub again_seen : world_seen world.stations [] ≡ world_seen (stations_there net t outputs) []
  again_seen = alike_worlds (stations_there net t outputs) world.stations as_many_there same_records alike_there

-- ---- in both cases

pub machine_starts : (world : WorldView) → Begins world → IsMachineStart world
machine_starts world begins = record {
  start = by begins.how;
  nothing = nothing;
}
  where
    nothing : (to : ℕ) → flights_to world.traffic to ≡ []
    nothing = nothing_begins world begins

    by : IsMade world ⊎ IsRunAgain world → ∥ IsStart (net_seen world.net) (machine_world world) ∥₁
    by (inl made) =
        ∣ subst (IsStart (net_seen world.net)) (sym (silent_world world nothing ∙ made_starts world made))
        (may_begin (net_seen world.net)) ∣₁
    by (inr again) =
        ∥∥₁_map again.rerun (λ ran. subst (IsStart (net_seen world.net))
        (sym (silent_world world nothing
        ∙ again_seen world.net world.inputs again.table again.outputs world again.opens))
        (start world.net world.inputs again.table again.outputs begins.valid begins.fits again.ordered again.may
        (places world.net world.inputs again.table begins.valid begins.fits ran)))
