-- What lies there at a moment inside an event is what a world leaves to which the event leads: the one before it, the
-- one behind it, or the one where its device failed behind the put.
use Rattle.std.proofs.Common.{◌≡◌, ◌≢◌, ◌⊎◌, inl, inr, ℕ, zero, suc, ◌+◌, Bool, true, false, cond, ℤ, List, [], ◌∷◌}
use Rattle.std.proofs.Common.{map, All, Option, Some, None, refl, sym, ap, subst, ◌∙◌, arith}
use Rattle.std.specs.Prelude.{slice_get, slice_set}
use Rattle.std.proofs.Math.Path.{fun_ext}
use Rattle.std.proofs.lemmas.Bool.{eq-eqb, ne_eqb}
use Rattle.std.proofs.lemmas.List.{map-set}
use Rattle.std.proofs.lemmas.List.Elements.{All-nil}
use Rattle.recovery_line.proofs.Basics.{same_or_other}
use Rattle.protocol.specs.Node.Common.{crashed, Exhausted, IsMade, IsPacket, IsPut, next_record, packets_by, Plan}
use Rattle.protocol.specs.Node.Common.{Planned, Prospect, RecordView, restart_after, room_for, Undue, with_kept}
use Rattle.protocol.specs.World.Common.{AreEither, ByNetwork, ByNode, event_node, EventView, Install, IsActOf}
use Rattle.protocol.specs.World.Common.{IsPlanned, IsStationStep, IsStep, moved_to, next_kept, output_channels}
use Rattle.protocol.specs.World.Common.{outputs_of, OutputView, plan_of, records_of, Release, ReplyView, round_after}
use Rattle.protocol.specs.World.Common.{Setting, setting_of, StationPlan, StationView, traffic_after, turns_by}
use Rattle.protocol.specs.World.Common.{WorldInvariant, WorldView}
use Rattle.protocol.specs.World.RecoveryLine.{next_for}
use Rattle.protocol.specs.declared.event.Deed.{Deed}
use Rattle.protocol.specs.declared.outcome.Outcome.{Outcome}
use Rattle.protocol.specs.declared.outcome.Outcome.TheVariants.{Failed}
use Rattle.protocol.specs.declared.reply.Reply.TheVariants as reply
use Rattle.protocol_laws.specs.Join.Leading.{set_itself}
use Rattle.protocol_laws.specs.World.KeptLaws.{step_kept}
use Rattle.protocol_laws.specs.World.OutputLaws.{map_at}
use Rattle.protocol_laws.specs.World.StepKeeps.{world_station, world_sure}
use Rattle.starting_again.proofs.Again.{outputs_each, same_released}
use Rattle.starting_again.specs.WasLeft.{output_left, outputs_left}

-- ---- an element in place of one at its place

pub set_alike : {A : Type 0} (f : StationView → A) (stations : List StationView) (k : ℕ) (x y : StationView)
    → slice_get stations k ≡ Some x → f y ≡ f x → map f (slice_set stations k y) ≡ map f stations
set_alike {A} f stations k x y there same =
    map-set f stations k y
    ∙ (ap (λ (z : A). slice_set (map f stations) k z) same
    ∙ set_itself (map f stations) k (f x) (map_at f stations k x there))

pub left_alike : (olds news : List StationView) → outputs_each news ≡ outputs_each olds → (channels : List ℕ)
    → map (output_left news) channels ≡ map (output_left olds) channels
left_alike olds news same channels =
    ap (λ (one : ℕ → OutputView). map one channels)
    (fun_ext (λ c. ap (λ (items : List ℤ). record { channel = c; taken = items }) (same_released c olds news same)))

-- ---- which record an event may have put

abbrev AreFrom : ℕ → List StationView → Type 0
AreFrom first stations =
    (i : ℕ) (station : StationView) → slice_get stations i ≡ Some station → station.number ≡ first + i

from_next : (first : ℕ) (s : StationView) (stations : List StationView) → AreFrom first (s ∷ stations)
    → AreFrom (suc first) stations
from_next first s stations from i station is = (let number = from (suc i) station is in omega (arith, number))

module _ (setting : Setting) (e : EventView) where
  -- the station of the event's node is at a place, and has the record that the event puts
  record HasPut (stations : List StationView) (records : List RecordView) : Type 0 where
    pub place : ℕ
    pub station : StationView
    pub there : slice_get stations place ≡ Some station
    pub number : station.number ≡ event_node e
    pub put : records ≡ slice_set (records_of stations) place (next_kept setting e station)

  other_next : (station : StationView) → station.number ≢ event_node e
      → next_for setting e station ≡ station.node.kept
  other_next station other =
      ap (λ (b : Bool). cond b (next_kept setting e station) station.node.kept)
      (ne_eqb station.number (event_node e) other)

  own_next : (station : StationView) → station.number ≡ event_node e
      → next_for setting e station ≡ next_kept setting e station
  own_next station same =
      ap (λ (b : Bool). cond b (next_kept setting e station) station.node.kept)
      (eq-eqb station.number (event_node e) same)

  -- all records are those of before, or one alone is the one that is put
  which : (first : ℕ) (stations : List StationView) (records : List RecordView) → AreFrom first stations
      → AreEither (records_of stations) (map (next_for setting e) stations) records
      → (records ≡ records_of stations) ⊎ HasPut stations records
  which first [] [] from either = inl refl
  which first [] (r ∷ records) from either = absurd either
  which first (s ∷ stations) [] from either = absurd either
  which first (s ∷ stations) (r ∷ records) from either =
      elim (which (suc first) stations records (from_next first s stations from) either.1) [
        | inl olds ↦ elim (same_or_other s.number (event_node e)) [
          | inl own ↦ elim either.0 [
            | inl old ↦ inl (both r s.node.kept records (records_of stations) old olds)
            | inr next ↦ inr (record {
              place = zero;
              station = s;
              there = refl;
              number = own;
              put = both r (next_kept setting e s) records (records_of stations) (next ∙ own_next s own) olds;
            })
          ]
          | inr other ↦ inl (both r s.node.kept records (records_of stations) (unput other either.0) olds)
        ]
        | inr later ↦
            let here = from 0 s refl in
            let there = from (suc later.place) later.station later.there in
            let number = later.number in
            let other : s.number ≢ event_node e = λ own. omega (arith, here, there, number, own) in
            inr (record {
              place = suc later.place;
              station = later.station;
              there = later.there;
              number = later.number;
              put = both r s.node.kept records
                  (slice_set (records_of stations) later.place (next_kept setting e later.station))
                  (unput other either.0) later.put;
            })
      ]
    where
      both : (x y : RecordView) (xs ys : List RecordView) → x ≡ y → xs ≡ ys → x ∷ xs ≡ y ∷ ys
      both x y xs ys one rest = ap (λ (z : RecordView). z ∷ xs) one ∙ ap (λ (zs : List RecordView). y ∷ zs) rest

      unput : s.number ≢ event_node e → (r ≡ s.node.kept) ⊎ (r ≡ next_for setting e s) → r ≡ s.node.kept
      unput other (inl old) = old
      unput other (inr next) = next ∙ other_next s other

-- ---- a deed whose device fails behind the put

abbrev any_room : RecordView → Bool
any_room kept = true

-- the station then: its node is down, with the record that was put
abbrev failed_behind : ℕ → StationPlan → Plan → StationView → StationView
failed_behind round plan made station =
    moved_to (crashed (restart_after station.node.armed 0 round) (with_kept made.node.kept station.node))
    (suc station.failures) (turns_by plan.turns station.turns Failed) station

fails_behind : (round : ℕ) (plan : StationPlan) (made : Plan) (station : StationView) → plan.prospect ≡ Planned made
    → made.puts ≡ true
    → IsPlanned any_room round plan Failed station reply.Down (failed_behind round plan made station)
fails_behind round plan made station is puts = record {
  call = 0;
  step = subst (λ (p : Prospect). IsMade (restart_after station.node.armed 0 round) p station.node Failed
      (crashed (restart_after station.node.armed 0 round) (with_kept made.node.kept station.node))) (sym is)
      (puts, inr refl);
  put = subst (λ (p : Prospect). IsPut (room_for any_room p) station.failures (suc station.failures) Failed) (sym is)
      (room made.puts, omega arith);
  answers = refl;
  allowed = subst (λ (p : Prospect). All IsPacket (packets_by p Failed)) (sym is) (All-nil IsPacket);
  same = refl;
}
  where
    room : (b : Bool) → cond b true true ≡ true
    room true = refl
    room false = refl

abbrev failed_world : WorldView → ℕ → Deed → StationView → Plan → WorldView
failed_world world k deed station made =
    let stations = slice_set world.stations k
    (failed_behind world.round (plan_of (setting_of world) k deed station) made station) in
    record {
      net = world.net;
      inputs = world.inputs;
      stations = stations;
      traffic = traffic_after (setting_of world) (ByNode k deed) Failed reply.Down (slice_get world.stations k);
      round = round_after reply.Down world.round stations;
      rooms = world.rooms;
    }

abbrev any_rooms : List StationView → List (RecordView → Bool)
any_rooms stations = map (λ (station : StationView). any_room) stations

-- The same event leads from the world to one that leaves these, or the world itself leaves them.
pub record LeadsToLeft (world : WorldView) (records : List RecordView) (outputs : List OutputView) : Type 0 where
  pub next : WorldView
  pub same_net : next.net ≡ world.net
  pub same_inputs : next.inputs ≡ world.inputs
  pub comes : (next ≡ world) ⊎ ((fits : List (RecordView → Bool)) × (event : EventView) × (answer : ReplyView)
      × IsStep fits event world answer next)
  pub records_are : records_of next.stations ≡ records
  pub outputs_are : outputs_left next ≡ outputs

pub stays_itself : (world : WorldView) (records : List RecordView) (outputs : List OutputView)
    → records ≡ records_of world.stations → outputs ≡ outputs_left world → LeadsToLeft world records outputs
stays_itself world records outputs same left = record {
  next = world;
  same_net = refl;
  same_inputs = refl;
  comes = inl refl;
  records_are = sym same;
  outputs_are = sym left;
}

module _ (world : WorldView) (k : ℕ) (deed : Deed) (station : StationView)
    (there : slice_get world.stations k ≡ Some station) (made : Plan)
    (is : (plan_of (setting_of world) k deed station).prospect ≡ Planned made) (puts : made.puts ≡ true) where
  abbrev Acted : Option (RecordView → Bool) → Option StationView → Type 0
  Acted room o = IsActOf (setting_of world) k room o (ByNode k deed) Failed world.stations reply.Down
      (failed_world world k deed station made).stations

  step_fails : IsStep (any_rooms world.stations) (ByNode k deed) world reply.Down
      (failed_world world k deed station made)
  step_fails = record {
    net = refl;
    inputs = refl;
    came = Failed;
    act = subst (λ (room : Option (RecordView → Bool)). Acted room (slice_get world.stations k))
        (sym (map_at (λ (s : StationView). any_room) world.stations k station there))
        (subst (λ (o : Option StationView). Acted (Some any_room) o) (sym there)
        (record {
          later = failed_behind world.round (plan_of (setting_of world) k deed station) made station;
          step = fails_behind world.round (plan_of (setting_of world) k deed station) made station is puts;
          stations = refl;
        }));
    traffic = refl;
    round = refl;
    rooms = refl;
  }

  put_behind : LeadsToLeft world (slice_set (records_of world.stations) k made.node.kept) (outputs_left world)
  put_behind =
      let behind = failed_behind world.round (plan_of (setting_of world) k deed station) made station in
      record {
        next = failed_world world k deed station made;
        same_net = refl;
        same_inputs = refl;
        comes = inr (any_rooms world.stations, ByNode k deed, reply.Down, step_fails);
        records_are = map-set (λ (s : StationView). s.node.kept) world.stations k behind;
        outputs_are = left_alike world.stations (slice_set world.stations k behind)
            (set_alike (λ (s : StationView). outputs_of s.outlets) world.stations k station behind there refl)
            (output_channels 0 world.net.channels);
      }

-- ---- whatever record an event may put

module _ (world : WorldView) (inv : WorldInvariant world) where
  unchanged : (k : ℕ) (station : StationView) → slice_get world.stations k ≡ Some station
      → LeadsToLeft world (slice_set (records_of world.stations) k station.node.kept) (outputs_left world)
  unchanged k station there =
      stays_itself world (slice_set (records_of world.stations) k station.node.kept) (outputs_left world)
      (set_itself (records_of world.stations) k station.node.kept
      (map_at (λ (s : StationView). s.node.kept) world.stations k station there)) refl

  prospect_left : (k : ℕ) (deed : Deed) (station : StationView) → slice_get world.stations k ≡ Some station
      → (prospect : Prospect) → (plan_of (setting_of world) k deed station).prospect ≡ prospect
      → LeadsToLeft world (slice_set (records_of world.stations) k (next_record prospect station.node.kept))
      (outputs_left world)
  prospect_left k deed station there Undue is = unchanged k station there
  prospect_left k deed station there (Exhausted looks) is = unchanged k station there
  prospect_left k deed station there (Planned made) is = by made.puts refl
    where
      by : (b : Bool) → made.puts ≡ b → LeadsToLeft world
          (slice_set (records_of world.stations) k (cond b made.node.kept station.node.kept)) (outputs_left world)
      by false puts = unchanged k station there
      by true puts = put_behind world k deed station there made is puts

  next_left : (e : EventView) (k : ℕ) (station : StationView) → slice_get world.stations k ≡ Some station
      → k ≡ event_node e
      → LeadsToLeft world (slice_set (records_of world.stations) k (next_kept (setting_of world) e station))
      (outputs_left world)
  next_left (ByNode n deed) k station there here =
      subst (λ (m : ℕ). LeadsToLeft world
      (slice_set (records_of world.stations) k (next_kept (setting_of world) (ByNode m deed) station))
      (outputs_left world)) here
      (prospect_left k deed station there (plan_of (setting_of world) k deed station).prospect refl)
  next_left (Install done) k station there here = unchanged k station there
  next_left (Release n) k station there here = unchanged k station there
  next_left (ByNetwork n place act) k station there here = unchanged k station there

  numbered_from : AreFrom 0 world.stations
  numbered_from i station is = (let number = (inv.numbered i station is).0 in omega (arith, number))

  -- with what had left before the event
  left_before : (e : EventView) (records : List RecordView)
      → AreEither (records_of world.stations) (map (next_for (setting_of world) e) world.stations) records
      → LeadsToLeft world records (outputs_left world)
  left_before e records either =
      elim (which (setting_of world) e 0 world.stations records numbered_from either) [
        | inl olds ↦ stays_itself world records (outputs_left world) olds refl
        | inr one ↦
            let number = one.number in
            let place = (inv.numbered one.place one.station one.there).0 in
            let here : one.place ≡ event_node e = omega (arith, number, place) in
            subst (λ (rs : List RecordView). LeadsToLeft world rs (outputs_left world)) (sym one.put)
            (next_left e one.place one.station one.there here)
      ]

-- ---- an event changes a record or the outlets, never both

abbrev PutsNone : Setting → EventView → Type 0
PutsNone setting e = (station : StationView) → next_kept setting e station ≡ station.node.kept

module _ (world : WorldView) (inv : WorldInvariant world) (answer : ReplyView) (came : Outcome) where
  -- what has left stays, or all records do
  abbrev StaysApart : EventView → List StationView → Type 0
  StaysApart e new =
      (outputs_each new ≡ outputs_each world.stations)
      ⊎ (PutsNone (setting_of world) e × (records_of new ≡ records_of world.stations))

  kept_by : (room : RecordView → Bool) (e : EventView) (k : ℕ) (station later : StationView)
      → slice_get world.stations k ≡ Some station → PutsNone (setting_of world) e
      → IsStationStep (setting_of world) room e came station answer later
      → records_of (slice_set world.stations k later) ≡ records_of world.stations
  kept_by room e k station later there none step =
      set_alike (λ (s : StationView). s.node.kept) world.stations k station later there
      (elim (step_kept (setting_of world) (world_sure world inv) room e came station answer later
      (world_station world inv k station there) step) [
        | inl same ↦ same
        | inr next ↦ next ∙ none station
      ])

  station_apart : (room : RecordView → Bool) (e : EventView) (station later : StationView)
      → slice_get world.stations (event_node e) ≡ Some station
      → IsStationStep (setting_of world) room e came station answer later
      → StaysApart e (slice_set world.stations (event_node e) later)
  station_apart room (ByNode k deed) station later there step =
      inl (set_alike (λ (s : StationView). outputs_of s.outlets) world.stations k station later there
      (ap (λ (s : StationView). outputs_of s.outlets) step.same))
  station_apart room (Install done) station later there step =
      inr (λ s. refl, kept_by room (Install done) (event_node (Install done)) station later there (λ s. refl) step)
  station_apart room (Release k) station later there step =
      inr (λ s. refl, kept_by room (Release k) k station later there (λ s. refl) step)
  station_apart room (ByNetwork k place act) station later there step =
      inr (λ s. refl, kept_by room (ByNetwork k place act) k station later there (λ s. refl) step)

  act_apart : (e : EventView) (room : Option (RecordView → Bool)) (o : Option StationView) (new : List StationView)
      → slice_get world.stations (event_node e) ≡ o
      → IsActOf (setting_of world) (event_node e) room o e came world.stations answer new → StaysApart e new
  act_apart e None o new there act = inl (ap outputs_each act.1)
  act_apart e (Some room) None new there act = inl (ap outputs_each act.1)
  act_apart e (Some room) (Some station) new there act =
      subst (StaysApart e) (sym act.stations) (station_apart room e station act.later there act.step)

-- where no record is put, those that may lie there are those of before
none_put : (setting : Setting) (e : EventView) (stations : List StationView) (records : List RecordView)
    → PutsNone setting e → AreEither (records_of stations) (map (next_for setting e) stations) records
    → records ≡ records_of stations
none_put setting e [] [] none either = refl
none_put setting e [] (r ∷ records) none either = absurd either
none_put setting e (s ∷ stations) [] none either = absurd either
none_put setting e (s ∷ stations) (r ∷ records) none either =
    ap (λ (x : RecordView). x ∷ records) (elim either.0 [ inl old ↦ old | inr next ↦ next ∙ still ])
    ∙ ap (λ (rs : List RecordView). s.node.kept ∷ rs) (none_put setting e stations records none either.1)
  where
    still : next_for setting e s ≡ s.node.kept
    still = elim (same_or_other s.number (event_node e)) [
      | inl own ↦ own_next setting e s own ∙ none s
      | inr other ↦ other_next setting e s other
    ]

-- ---- at any moment inside an event

pub leads_inside : (fits : List (RecordView → Bool)) (e : EventView) (old : WorldView) (answer : ReplyView)
    (new : WorldView) (records : List RecordView) (outputs : List OutputView) → WorldInvariant old
    → IsStep fits e old answer new
    → AreEither (records_of old.stations) (map (next_for (setting_of old) e) old.stations) records
    → (outputs ≡ outputs_left old) ⊎ (outputs ≡ outputs_left new) → LeadsToLeft old records outputs
leads_inside fits e old answer new records outputs inv step either (inl before) =
    subst (LeadsToLeft old records) (sym before) (left_before old inv e records either)
leads_inside fits e old answer new records outputs inv step either (inr after) =
    elim (act_apart old inv answer step.came e (slice_get fits (event_node e)) (slice_get old.stations (event_node e))
    new.stations refl step.act) [
      | inl same ↦
          subst (LeadsToLeft old records)
          (sym (after ∙ (ap (λ n. map (output_left new.stations) (output_channels 0 n.channels)) step.net
          ∙ left_alike old.stations new.stations same (output_channels 0 old.net.channels))))
          (left_before old inv e records either)
      | inr none ↦
          record {
            next = new;
            same_net = step.net;
            same_inputs = step.inputs;
            comes = inr (fits, e, answer, step);
            records_are = none.1 ∙ sym (none_put (setting_of old) e old.stations records none.0 either);
            outputs_are = sym after;
          }
    ]
