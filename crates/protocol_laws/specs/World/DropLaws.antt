-- No packet that comes is dropped, where each one in flight is sound.
use Rattle.std.proofs.Common.{◌≡◌, ⊎_elim, ℕ, Bool, true, false, List, Option, Some, None, refl, ap, subst, ◌∙◌}
use Rattle.std.specs.Prelude.{slice_get}
use Rattle.protocol.specs.Node.Common.{Network, RecordView}
use Rattle.protocol.specs.declared.outcome.Outcome.{Outcome}
use Rattle.protocol.specs.declared.outcome.Outcome.TheVariants as outcome
use Rattle.protocol.specs.declared.outcome.Refusal.TheVariants.{TooLarge, Spent}
use Rattle.protocol.specs.World.Common.{EventView, ByNode, ByNetwork, Install, Release, event_node, WorldInvariant}
use Rattle.protocol.specs.World.Common.{act_reply, answer_by, install_reply, ReplyView, StationView, IsAct, IsActOf}
use Rattle.protocol.specs.World.Common.{IsRelease, IsStationStep, Setting, WorldView, deliver_plan, can_act}
use Rattle.protocol.specs.World.Common.{due_bytes, flight_at, next_release, plan_of, setting_of, TrafficIsSound}
use Rattle.protocol.specs.declared.event.Deed.{Deed}
use Rattle.protocol.specs.declared.event.Deed.TheVariants as event
use Rattle.protocol.specs.World.Replies.{IsDropped}
use Rattle.protocol_laws.specs.World.DeedLaws.{deed_is, is_dropped}

not_so : (answer : ReplyView) → is_dropped answer ≡ false → ¬ (IsDropped answer)
not_so answer is dropped = (let so : is_dropped answer ≡ true = ap is_dropped dropped in absurd (cc))

-- ---- answers to what isn't a delivery

install_is : (applied : Bool) → is_dropped (install_reply applied) ≡ false
install_is true = refl
install_is false = refl

act_is : (there : Bool) → is_dropped (act_reply there) ≡ false
act_is true = refl
act_is false = refl

release_is : (round : ℕ) (place : Option ℕ) (old : StationView) (answer : ReplyView) (new : StationView)
    → IsRelease round place old answer new → is_dropped answer ≡ false
release_is round None old answer new step = ap is_dropped step.0
release_is round (Some place) old answer new step =
    ⊎_elim (λ left. ap is_dropped left.0) (λ failed. ap is_dropped failed.0) step.handed.came

by_outcome : (made otherwise : ReplyView) (came : Outcome) → is_dropped made ≡ false → is_dropped otherwise ≡ false
    → is_dropped (answer_by made otherwise came) ≡ false
by_outcome made otherwise outcome.NotDue one other = refl
by_outcome made otherwise outcome.Made one other = one
by_outcome made otherwise (outcome.Refused TooLarge) one other = other
by_outcome made otherwise (outcome.Refused Spent) one other = refl
by_outcome made otherwise outcome.Failed one other = refl

-- nor is what is answered where a record is too large
bytes_declined : (net : Network) (place : ℕ) (bytes : Option (List ℕ)) (station : StationView)
    → is_dropped (deliver_plan net place bytes station).declined ≡ false
bytes_declined net place None station = refl
bytes_declined net place (Some bytes) station = refl

declined_is : (setting : Setting) (k : ℕ) (deed : Deed) (station : StationView)
    → is_dropped (plan_of setting k deed station).declined ≡ false
declined_is setting k (event.Deliver place) station =
    bytes_declined setting.net place (due_bytes setting.round (flight_at setting k place)) station
declined_is setting k deed station = refl

-- ---- events

module _ (setting : Setting) (flying : TrafficIsSound setting.net setting.inputs setting.traffic) where
  station_hears : (room : RecordView → Bool) (e : EventView) (came : Outcome) (old : StationView) (answer : ReplyView)
      (new : StationView) → old.number ≡ event_node e → IsStationStep setting room e came old answer new
      → ¬ (IsDropped answer)
  station_hears room (ByNode k deed) came old answer new here step =
      not_so answer
      (ap is_dropped step.answers
      ∙ by_outcome (plan_of setting k deed old).answer (plan_of setting k deed old).declined came
      (deed_is setting flying k deed old here) (declined_is setting k deed old))
  station_hears room (Install done) came old answer new here step =
      not_so answer (ap is_dropped step.answers ∙ install_is step.applied)
  station_hears room (Release k) came old answer new here step =
      not_so answer (release_is setting.round (next_release setting.round old) old answer new step)
  station_hears room (ByNetwork k place act) came old answer new here step =
      not_so answer (ap is_dropped step.0 ∙ act_is (can_act act (flight_at setting k place)))

  -- at the station of this place, where there is one
  place_hears : (place : ℕ) (room : Option (RecordView → Bool)) (station : Option StationView) (e : EventView)
      (came : Outcome) (old : List StationView) (answer : ReplyView) (new : List StationView)
      → ((s : StationView) → station ≡ Some s → s.number ≡ event_node e)
      → IsActOf setting place room station e came old answer new → ¬ (IsDropped answer)
  place_hears place None station e came old answer new here act = not_so answer (ap is_dropped act.0)
  place_hears place (Some room) None e came old answer new here act = not_so answer (ap is_dropped act.0)
  place_hears place (Some room) (Some s) e came old answer new here act =
      station_hears room e came s answer act.later (here s refl) act.step

-- No event at the station of its node is answered so.
pub never_dropped : (world : WorldView) (setting : Setting) (rooms : List (RecordView → Bool)) (number : ℕ)
    (e : EventView) (came : Outcome) (answer : ReplyView) (new : List StationView)
    → WorldInvariant world → setting ≡ setting_of world → number ≡ event_node e
    → IsAct setting number rooms e came world.stations answer new → ¬ (IsDropped answer)
never_dropped world setting rooms number e came answer new inv same_setting same_number act =
    place_hears (setting_of world) inv.traffic number (slice_get rooms number) (slice_get world.stations number) e
    came world.stations answer new (λ s there. (inv.numbered number s there).0 ∙ same_number)
    (subst (λ (s : Setting). IsAct s number rooms e came world.stations answer new) same_setting act)
