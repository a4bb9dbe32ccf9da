-- Where no device and no outlet fails, an event has one outcome.
use Rattle.std.proofs.Common.{◌≡◌, inl, inr, ℕ, Bool, cond, List, Option, Some, None, length}
use Rattle.std.proofs.Common.{refl, sym, ◌∙◌, ◌++◌, arith}
use Rattle.std.specs.Prelude.{slice_get}
use Rattle.protocol.specs.Node.Common.{Channel, RecordView, LogState, restart_after, NodeView, Exhausted, IsMade, IsPut}
use Rattle.protocol.specs.Node.Common.{Planned, Prospect, Undue, room_for, current_log}
use Rattle.protocol.specs.World.Common.{DoneView, ByNetwork, ByNode, EventView, Install, Release, event_node, answer_by}
use Rattle.protocol.specs.World.Common.{ReplyView, OutletView, StationView, IsActOf, IsInstalled, IsPlanned, IsRelease}
use Rattle.protocol.specs.World.Common.{IsStationStep, Setting, StationPlan, WorldView, moved_to, next_release, plan_of}
use Rattle.protocol.specs.World.Common.{setting_of, traffic_after, turns_by}
use Rattle.protocol.specs.Node.Trimming.{logged_at}
use Rattle.protocol.specs.World.Agreeing.{NothingFailed, StepsAgree}
use Rattle.protocol.specs.World.ReplyView.{leaving}
use Rattle.protocol.specs.declared.reply.Reply.TheVariants as reply
use Rattle.protocol.specs.World.Steps.{IsHanded}
use Rattle.protocol.specs.declared.outcome.Outcome.{Outcome}
use Rattle.protocol.specs.declared.outcome.Outcome.TheVariants as outcome
use Rattle.protocol.specs.declared.outcome.Refusal.TheVariants.{Spent, TooLarge}

-- ---- a deed

-- how a plan comes out where no device fails
abbrev outcome_in : Bool → Prospect → Outcome
outcome_in room Undue = outcome.NotDue
outcome_in room (Exhausted looks) = outcome.Refused Spent
outcome_in room (Planned plan) = cond room outcome.Made (outcome.Refused TooLarge)

-- and the node then
abbrev node_in : Bool → Prospect → NodeView → NodeView
node_in room Undue old = old
node_in room (Exhausted looks) old = old
node_in room (Planned plan) old = cond room plan.node old

-- a node that came so, and whose device failed as often as before
record ComesOut (room : Bool) (prospect : Prospect) (came : Outcome) (old new : NodeView) (before after : ℕ) : Type 0
  where
    pub outcome_is : came ≡ outcome_in room prospect
    pub node_is : new ≡ node_in room prospect old
    pub failures : after ≡ before

comes_out : (room : Bool) (restart : ℕ) (prospect : Prospect) (came : Outcome) (old new : NodeView) (before after : ℕ)
    → (came ≡ outcome.Failed → ⊥) → IsMade restart prospect old came new → IsPut room before after came
    → ComesOut room prospect came old new before after
comes_out room restart prospect came old new before after stays made put =
    record { outcome_is = grind arith; node_is = grind arith; failures = grind arith }

-- an answer that tells of no failure is none of a deed whose device failed
none_failed : (where_made where_declined answer : ReplyView) (came : Outcome) → answer ≡ answer_by where_made where_declined came
    → NothingFailed answer → came ≡ outcome.Failed → ⊥
none_failed where_made where_declined answer came is nothing failed = rw (is, failed) at nothing

module _ (fits : RecordView → Bool) (round : ℕ) (plan : StationPlan) (old : StationView) where
  abbrev room_is : Bool
  room_is = room_for fits plan.prospect

  abbrev outcome_is : Outcome
  outcome_is = outcome_in room_is plan.prospect

  abbrev station_is : StationView
  station_is =
      moved_to (node_in room_is plan.prospect old.node) old.failures (turns_by plan.turns old.turns outcome_is) old

  planned_comes : (came : Outcome) (answer : ReplyView) (new : StationView)
      → IsPlanned fits round plan came old answer new → NothingFailed answer
      → (came ≡ outcome_is) × (answer ≡ answer_by plan.answer plan.declined outcome_is) × (new ≡ station_is)
  planned_comes came answer new step nothing =
      let out = comes_out room_is (restart_after old.node.armed step.call round) plan.prospect came old.node new.node
      old.failures new.failures (none_failed plan.answer plan.declined answer came step.answers nothing) step.step
      step.put in
      let answers = step.answers in
      let same = step.same in
      (out.outcome_is, cc, rw (same, out.node_is, out.failures, out.outcome_is) refl)

-- ---- a turn that comes back

installed_comes : (channels : List Channel) (done : DoneView) (old : StationView) (answer other : ReplyView)
    (one two : StationView) → IsInstalled channels done old answer one → IsInstalled channels done old other two
    → (answer ≡ other) × (one ≡ two)
installed_comes channels done old answer other one two first second =
    let step = first.step in
    let other_step = second.step in
    (grind (arith, first.answers, second.answers), grind (arith, first.same, second.same))

-- ---- an item that leaves

-- an outlet that took what came next for it
abbrev took_at : Option LogState → OutletView → OutletView
took_at log outlet =
    record {
      channel = outlet.channel;
      taken = outlet.taken ++ logged_at log (length outlet.taken);
      failed = outlet.failed;
      failures = outlet.failures;
    }

handed_comes : (round : ℕ) (log : Option LogState) (outlet : OutletView) (answer : ReplyView) (later : OutletView)
    → IsHanded round log outlet answer later → NothingFailed answer
    → (answer ≡ reply.Released (leaving outlet.channel (length (took_at log outlet).taken))) × (later ≡ took_at log outlet)
handed_comes round log outlet answer later handed nothing = elim handed.came [
  | inl took ↦ (
    rw (took.0, took.1) refl,
    let whole : record { channel = later.channel; taken = later.taken; failed = later.failed; failures = later.failures }
        ≡ took_at log outlet = rw (handed.channel, took.1, took.3, took.4) refl in
        whole,
  )
  | inr failed ↦ absurd (rw failed.0 at nothing)
]

released_comes : (round : ℕ) (o : Option ℕ) (old : StationView) (answer other : ReplyView) (one two : StationView)
    → IsRelease round o old answer one → IsRelease round o old other two → NothingFailed answer → NothingFailed other
    → (answer ≡ other) × (one ≡ two)
released_comes round None old answer other one two first second nothing none =
    (first.0 ∙ sym second.0, first.1 ∙ sym second.1)
released_comes round (Some place) old answer other one two first second nothing none =
    let there : Some first.outlet ≡ Some second.outlet = sym first.there ∙ second.there in
    let outlets : first.outlet ≡ second.outlet = cc in
    let x = handed_comes round (current_log first.outlet.channel old.node.mode) first.outlet answer first.later
    first.handed nothing in
    let y = handed_comes round (current_log second.outlet.channel old.node.mode) second.outlet other second.later
    second.handed none in
    (cc, cc (first.same, second.same))

-- ---- a world

-- the outcomes of a deed agree, where they count
abbrev SameOutcome : EventView → Outcome → Outcome → Type 0
SameOutcome (ByNode k deed) came other = came ≡ other
SameOutcome event came other = Unit {0}

station_comes : (setting : Setting) (fits : RecordView → Bool) (e : EventView) (came also : Outcome)
    (old : StationView) (answer other : ReplyView) (one two : StationView)
    → IsStationStep setting fits e came old answer one → IsStationStep setting fits e also old other two
    → NothingFailed answer → NothingFailed other
    → SameOutcome e came also × (answer ≡ other) × (one ≡ two)
station_comes setting fits (ByNode k deed) came also old answer other one two first second nothing none =
    let x = planned_comes fits setting.round (plan_of setting k deed old) old came answer one first nothing in
    let y = planned_comes fits setting.round (plan_of setting k deed old) old also other two second none in
    (x.0 ∙ sym y.0, x.1 ∙ sym y.1, x.2 ∙ sym y.2)
station_comes setting fits (Install done) came also old answer other one two first second nothing none =
    let both = installed_comes setting.net.channels done old answer other one two first second in
    (tt, both.0, both.1)
station_comes setting fits (Release k) came also old answer other one two first second nothing none =
    let both = released_comes setting.round (next_release setting.round old) old answer other one two first second
    nothing none in
    (tt, both.0, both.1)
station_comes setting fits (ByNetwork k place act) came also old answer other one two first second nothing none =
    (tt, first.0 ∙ sym second.0, first.1 ∙ sym second.1)

-- what is in flight afterwards
flown_comes : (setting : Setting) (e : EventView) (came also : Outcome) (answer other : ReplyView)
    (o : Option StationView) → SameOutcome e came also → answer ≡ other
    → traffic_after setting e came answer o ≡ traffic_after setting e also other o
flown_comes setting (ByNode k deed) came also answer other o same answers = rw (same, answers) refl
flown_comes setting e came also answer other o same answers = rw answers refl

-- where nothing happens, nothing is in flight that wasn't
flown_still : (setting : Setting) (e : EventView) (came also : Outcome) (answer other : ReplyView)
    (o : Option StationView) → answer ≡ reply.NotDue → other ≡ reply.NotDue
    → traffic_after setting e came answer o ≡ traffic_after setting e also other o
flown_still setting e came also answer other o one two = rw (one, two) refl

act_comes : (setting : Setting) (place : ℕ) (room : Option (RecordView → Bool)) (o : Option StationView)
    (e : EventView) (came also : Outcome) (old : List StationView) (answer other : ReplyView)
    (one two : List StationView) → IsActOf setting place room o e came old answer one
    → IsActOf setting place room o e also old other two → NothingFailed answer → NothingFailed other
    → (answer ≡ other) × (one ≡ two)
    × (traffic_after setting e came answer o ≡ traffic_after setting e also other o)
act_comes setting place None o e came also old answer other one two first second nothing none = (
  first.0 ∙ sym second.0,
  first.1 ∙ sym second.1,
  flown_still setting e came also answer other o first.0 second.0,
)
act_comes setting place (Some fits) None e came also old answer other one two first second nothing none = (
  first.0 ∙ sym second.0,
  first.1 ∙ sym second.1,
  flown_still setting e came also answer other None first.0 second.0,
)
act_comes setting place (Some fits) (Some station) e came also old answer other one two first second nothing none =
    let both = station_comes setting fits e came also station answer other first.later second.later first.step
    second.step nothing none in (
      both.1,
      rw (first.stations, second.stations, both.2) refl,
      flown_comes setting e came also answer other (Some station) both.0 both.1,
    )

same_world : (x y : WorldView) → x.net ≡ y.net → x.inputs ≡ y.inputs → x.stations ≡ y.stations
    → x.traffic ≡ y.traffic → x.round ≡ y.round → x.rooms ≡ y.rooms → x ≡ y
same_world x y a b c d e f =
    let whole : record {
      net = x.net;
      inputs = x.inputs;
      stations = x.stations;
      traffic = x.traffic;
      round = x.round;
      rooms = x.rooms;
    } ≡ y = rw (a, b, c, d, e, f) refl in
    whole

pub steps_agree : StepsAgree
steps_agree fits e world answer other one two first second nothing none =
    let both = act_comes (setting_of world) (event_node e) (slice_get fits (event_node e))
    (slice_get world.stations (event_node e)) e first.came second.came world.stations answer other one.stations
    two.stations first.act second.act nothing none in (
      both.0,
      same_world one two (first.net ∙ sym second.net) (first.inputs ∙ sym second.inputs) both.1
          (rw (first.traffic, second.traffic) both.2) (rw (first.round, second.round, both.0, both.1) refl)
          (first.rooms ∙ sym second.rooms),
    )
