-- No event of a node is refused as too large, where the slots of its cell have room for the longest record.
use Rattle.std.proofs.Common.{◌≡◌, ⊎_elim, ℕ, ◌≤◌, true, false, ℤ, List, [], ◌∷◌, map}
use Rattle.std.proofs.Common.{Option, Some, None, option_map, refl, sym, ◌∙◌, arith}
use Rattle.std.specs.Prelude.{slice_get}
use Rattle.std.proofs.lemmas.Bool.{le-leb}
use Rattle.std.proofs.lemmas.Option.{slice_get-map}
use Rattle.protocol.specs.Node.Common.{Network, RecordView, Tentative, image_length, MAX_RETAINED_ITEMS, fits_in}
use Rattle.protocol.specs.Node.Common.{Packet, packet_for, Prospect, Undue, Exhausted, Planned, IsPut, room_for}
use Rattle.ckpt_codec.specs.Common.{spelled_length}
use Rattle.ckpt_codec.specs.Lengths.{record_length, tentative_length}
use Rattle.ckpt_codec.specs.SizeLaws.{IsRecordWithin, record_fits}
use Rattle.ckpt_codec.specs.declared.lengths.TheConstants.{MAX_RECORD_BYTES}
use Rattle.ckpt_codec.specs.declared.version.TheConstants.{VERSION}
use Rattle.ckpt_codec.proofs.Sizes.{length-record}
use Rattle.ckpt_store.specs.Spelling.{held_fits}
use Rattle.ckpt_store.proofs.Room.{fits_so}
use Rattle.protocol.specs.Node.Delivering.{delivery_of}
use Rattle.protocol.specs.declared.outcome.Outcome.{Outcome}
use Rattle.protocol.specs.declared.outcome.Outcome.TheVariants as outcome
use Rattle.protocol.specs.declared.outcome.Refusal.TheVariants.{TooLarge}
use Rattle.protocol.specs.World.Common.{EventView, ByNode, ByNetwork, Install, Release, WorldInvariant, answer_by}
use Rattle.protocol.specs.World.Common.{delivery_reply, ReplyView, StationView, IsAct, IsActOf, IsRelease}
use Rattle.protocol.specs.World.Common.{IsStationStep, Setting, WorldView, deliver_plan, due_bytes, flight_at}
use Rattle.protocol.specs.World.Common.{next_release, plan_of, setting_of, IsSoundSetting, IsSoundStation}
use Rattle.protocol.specs.declared.event.Deed.{Deed}
use Rattle.protocol.specs.declared.event.Deed.TheVariants as event
use Rattle.protocol.specs.World.Replies.{IsTooLarge}
use Rattle.protocol.specs.declared.reply.Reply.TheVariants as reply
use Rattle.protocol.specs.World.Roomy.{HasFullRoom}
use Rattle.protocol_laws.specs.World.DeedLaws.{deed_sound}
use Rattle.protocol_laws.specs.World.PlanLaws.{IsSoundProspect}
use Rattle.protocol_laws.specs.World.StepKeeps.{world_station, world_sure}

-- how long a record is, by its parts
spelled_is_long : (kept : RecordView) → spelled_length kept ≡ record_length kept
unfolding spelled_length
spelled_is_long kept = length-record VERSION kept

pub bounded_is_short : (kept : RecordView) → IsRecordWithin MAX_RETAINED_ITEMS kept
    → spelled_length kept ≤ MAX_RECORD_BYTES
bounded_is_short kept within = rw spelled_is_long (record_fits kept within)

pub bounded_image : (kept : RecordView) → IsRecordWithin MAX_RETAINED_ITEMS kept
    → image_length kept.permanent ≤ MAX_RECORD_BYTES
bounded_image kept within = omega (arith, record_fits kept within)

-- each image of a record within its bounds is shorter than the record
held_bounded : (capacity : ℕ) (t : Option Tentative) → tentative_length t ≤ capacity → held_fits capacity t ≡ true
held_bounded capacity None few = refl
held_bounded capacity (Some t) few = le-leb (image_length t.image) capacity (omega (arith, few))

-- a record within its bounds fits a cell whose slots have room for the longest one
bounded_fits : (capacity : ℕ) (kept : RecordView) → MAX_RECORD_BYTES ≤ capacity
    → IsRecordWithin MAX_RETAINED_ITEMS kept → fits_in capacity kept ≡ true
bounded_fits capacity kept room within =
    let few = record_fits kept within in
    fits_so capacity kept (bounded_is_short kept within) (le-leb (image_length kept.permanent) capacity (omega arith))
    (held_bounded capacity kept.tentative (omega arith))

-- ---- answers

-- what is answered is this, which isn't such a refusal
is_not : (one answer : ReplyView) → answer ≡ one → ¬ (IsTooLarge one) → ¬ (IsTooLarge answer)
is_not one answer is other large = other (sym is ∙ large)

release_fits : (round : ℕ) (place : Option ℕ) (old : StationView) (answer : ReplyView) (new : StationView)
    → IsRelease round place old answer new → ¬ (IsTooLarge answer)
release_fits round None old answer new step = is_not _ answer step.0 (λ large. cc)
release_fits round (Some place) old answer new step =
    ⊎_elim (λ left. is_not _ answer left.0 (λ large. cc)) (λ failed. is_not _ answer failed.0 (λ large. cc))
    step.handed.came

-- ---- events

-- the record of a sound plan has room where there is room for the longest record
prospect_fits : (net : Network) (inputs : List (List ℤ)) (capacity : ℕ) → MAX_RECORD_BYTES ≤ capacity
    → (old : StationView) (prospect : Prospect) → IsSoundProspect net inputs old prospect
    → room_for (fits_in capacity) prospect ≡ true
prospect_fits net inputs capacity room old Undue sound = refl
prospect_fits net inputs capacity room old (Exhausted looks) sound = refl
prospect_fits net inputs capacity room old (Planned plan) sound =
    let fits = bounded_fits capacity plan.node.kept room sound.keeps.kept.bounded in
    grind arith

-- what is answered where a deed is made is no such refusal
packet_fits : (packet : Option Packet) → ¬ (IsTooLarge (delivery_reply (delivery_of false packet)))
packet_fits packet large = absurd (grind arith)

bytes_fit : (net : Network) (place : ℕ) (bytes : Option (List ℕ)) (station : StationView)
    → ¬ (IsTooLarge (deliver_plan net place bytes station).answer)
bytes_fit net place None station large = cc
bytes_fit net place (Some bytes) station large = packet_fits (packet_for net station.number bytes) large

made_fits : (setting : Setting) (k : ℕ) (deed : Deed) (station : StationView)
    → ¬ (IsTooLarge (plan_of setting k deed station).answer)
made_fits setting k (event.Deliver place) station =
    bytes_fit setting.net place (due_bytes setting.round (flight_at setting k place)) station
made_fits setting k event.Grant station = λ large. absurd (grind arith)
made_fits setting k event.Recover station = λ large. absurd (grind arith)
made_fits setting k deed station = λ large. cc

module _ (setting : Setting) (sure : IsSoundSetting setting) (capacity : ℕ) (room : MAX_RECORD_BYTES ≤ capacity) where
  -- No record is too large: no start is refused for that, and nobody who is asked declines for it.
  pub deed_fits : (k : ℕ) (deed : Deed) (came : Outcome) (old : StationView) (answer : ReplyView) (new : StationView)
      → IsSoundStation setting old → IsStationStep setting (fits_in capacity) (ByNode k deed) came old answer new
      → ¬ (came ≡ outcome.Refused TooLarge)
  deed_fits k deed came old answer new sound step large =
      let prospect = (plan_of setting k deed old).prospect in
      let put : IsPut (room_for (fits_in capacity) prospect) old.failures new.failures (outcome.Refused TooLarge) =
      rw large at step.put in
      let none = put.0 in
      let some = prospect_fits setting.net setting.inputs capacity room old prospect (deed_sound setting sure old sound k deed) in
      cc

  answered_fits : (made otherwise answer : ReplyView) (came : Outcome) → ¬ (IsTooLarge made)
      → ¬ (came ≡ outcome.Refused TooLarge) → answer ≡ answer_by made otherwise came → ¬ (IsTooLarge answer)
  answered_fits made otherwise answer outcome.Made other fit is = is_not made answer is other
  answered_fits made otherwise answer (outcome.Refused TooLarge) other fit is = absurd (fit refl)
  answered_fits made otherwise answer came other fit is = is_not _ answer is (λ large. cc)

  pub station_fits : (e : EventView) (came : Outcome) (old : StationView) (answer : ReplyView) (new : StationView)
      → IsSoundStation setting old → IsStationStep setting (fits_in capacity) e came old answer new
      → ¬ (IsTooLarge answer)
  station_fits (ByNode k deed) came old answer new sound step =
      answered_fits (plan_of setting k deed old).answer (plan_of setting k deed old).declined answer came
      (made_fits setting k deed old) (deed_fits k deed came old answer new sound step) step.answers
  station_fits (Install done) came old answer new sound step =
      is_not _ answer step.answers (λ large. absurd (grind arith))
  station_fits (Release k) came old answer new sound step =
      release_fits setting.round (next_release setting.round old) old answer new step
  station_fits (ByNetwork k place act) came old answer new sound step =
      is_not _ answer step.0 (λ large. absurd (grind arith))

module _ (setting : Setting) (sure : IsSoundSetting setting) where
  -- at the station of this place, where there is one
  place_fits : (place : ℕ) (capacity : Option ℕ) (station : Option StationView) (e : EventView)
      (came : Outcome) (old : List StationView) (answer : ReplyView) (new : List StationView)
      → ((n : ℕ) → capacity ≡ Some n → MAX_RECORD_BYTES ≤ n)
      → ((s : StationView) → station ≡ Some s → IsSoundStation setting s)
      → IsActOf setting place (option_map fits_in capacity) station e came old answer new → ¬ (IsTooLarge answer)
  place_fits place (Some n) (Some s) e came old answer new room sound act =
      station_fits setting sure n (room n refl) e came s answer act.later (sound s refl) act.step
  place_fits place capacity station e came old answer new room sound act = is_not _ answer act.0 (λ large. cc)

  act_fits : (place : ℕ) (capacities : List ℕ) (e : EventView) (came : Outcome) (old : List StationView)
      (answer : ReplyView)
      (new : List StationView) → HasFullRoom place capacities
      → ((s : StationView) → slice_get old place ≡ Some s → IsSoundStation setting s)
      → IsAct setting place (map fits_in capacities) e came old answer new → ¬ (IsTooLarge answer)
  act_fits place capacities e came old answer new room sound act =
      place_fits place (slice_get capacities place) (slice_get old place) e came old answer new room sound
      (rw (slice_get-map fits_in capacities place) at act)

-- the rooms of cells, by what each has room for
pub rooms_of : {S : Type 0} (capacity : S → ℕ) (xs : List S)
    → map (λ (x : S). fits_in (capacity x)) xs ≡ map fits_in (map capacity xs)
rooms_of capacity [] = refl
rooms_of capacity (x ∷ xs) = rw (rooms_of capacity xs) refl

-- An event at the station of this number is never refused as too large, where that one's cell has room for the longest
-- record.
pub never_too_large : {S : Type 0} (world : WorldView) (setting : Setting) (capacity : S → ℕ) (stations : List S)
    (number place : ℕ) (e : EventView) (came : Outcome) (answer : ReplyView) (new : List StationView)
    → WorldInvariant world → setting ≡ setting_of world → number ≡ place → HasFullRoom place (map capacity stations)
    → IsAct setting number (map (λ (s : S). fits_in (capacity s)) stations) e came world.stations answer new
    → ¬ (IsTooLarge answer)
never_too_large {S} world setting capacity stations number place e came answer new inv same_setting same_number room
    act =
    act_fits (setting_of world) (world_sure world inv) place (map capacity stations) e came world.stations answer new
    room (world_station world inv place) (rw (same_setting, same_number, rooms_of capacity stations) at act)
