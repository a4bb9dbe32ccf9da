-- A job that a node grants is of a process of that node.
use Rattle.std.proofs.Common.{◌≡◌, ⊎_elim, ℕ, Bool, true, false, List, ℤ, length, Option, Some, None, refl, ap}
use Rattle.std.proofs.Common.{◌∙◌, arith}
use Rattle.std.specs.Prelude.{slice_get, IsTrue}
use Rattle.std.proofs.lemmas.Bool.{eqb-true}
use Rattle.protocol.specs.Node.Common.{Code, Network, SavedProcessView, RecordView, next_job, node_job}
use Rattle.protocol.specs.Node.Common.{JobView, has_process, is_on, ModeView, Runs, RunningNode}
use Rattle.protocol.specs.Node.Common.{running_in, running_node, IsLaidOut}
use Rattle.protocol.specs.Node.Choosing.{job_at, job_of, next_process}
use Rattle.protocol.specs.Node.Sharing.{retained_share}
use Rattle.protocol_laws.specs.Node.GrantLaws.{next_within}
use Rattle.protocol_laws.specs.Node.NumberedLaws.{where_mark}
use Rattle.protocol.specs.declared.delivery.Delivery.{Delivery}
use Rattle.protocol.specs.declared.delivery.Delivery.TheVariants as delivery
use Rattle.protocol.specs.declared.outcome.Outcome.{Outcome}
use Rattle.protocol.specs.declared.outcome.Outcome.TheVariants as outcome
use Rattle.protocol.specs.declared.outcome.Refusal.TheVariants.{TooLarge}
use Rattle.protocol.specs.World.Common.{EventView, ByNode, ByNetwork, Install, Release, event_node, node_in}
use Rattle.protocol.specs.World.Common.{StationInvariant, WorldInvariant, answer_by, delivery_reply, grant_reply}
use Rattle.protocol.specs.World.Common.{IsGrantedAt, ReplyView, StationView, IsActOf, IsRelease, IsStationStep, IsStep}
use Rattle.protocol.specs.World.Common.{Setting, WorldView, deliver_plan, due_bytes, flight_at, next_release, plan_of}
use Rattle.protocol.specs.World.Common.{setting_of}
use Rattle.protocol.specs.declared.event.Deed.{Deed}
use Rattle.protocol.specs.declared.event.Deed.TheVariants as event
use Rattle.protocol.specs.declared.reply.Reply.TheVariants as reply

-- ---- the job

-- a process of the node has the node's number
home_of : (home : ℕ) (code : Option Code) → IsTrue (is_on home code) → node_in code ≡ home
home_of home None here = absurd (cc)
home_of home (Some code) here = eqb-true code.node home here

-- the job that a running node grants next is of one of its processes
granted_here : (net : Network) (home : ℕ) (inputs : List (List ℤ)) (rooms : List ℕ) (node : RunningNode) (job : JobView)
    → IsLaidOut net home node.current → next_job net inputs rooms node ≡ Some job → node_in job.code ≡ home
granted_here net home inputs rooms node job laid h =
    by_process (next_process net inputs share node.current node.inboxes node.last) refl (grind arith)
  where
    share : ℕ → ℕ
    share = retained_share rooms node.current

    by_process : (o : Option SavedProcessView) → next_process net inputs share node.current node.inboxes node.last ≡ o
        → job_of net inputs share node o ≡ Some job → node_in job.code ≡ home
    by_process None next e = absurd (cc)
    by_process (Some saved) next e =
        let there = next_within net inputs share node.current node.inboxes node.last saved next in
        let marked = where_mark (λ (s : SavedProcessView). s.number) (has_process net home) 0 (length net.codes)
        node.current.processes there.0 saved laid.processes there.1 in
        let code : slice_get net.codes saved.number ≡ job.code = cc in
        rw code at (home_of home (slice_get net.codes saved.number) marked.0)

-- so of a station, whatever mode its node is in
node_grants : (net : Network) (inputs : List (List ℤ)) (rooms : List ℕ) (station : StationView)
    → StationInvariant net inputs station → (job : JobView) → node_job net inputs rooms station.node ≡ Some job
    → node_in job.code ≡ station.node.kept.node
node_grants net inputs rooms station inv job = at station.node.mode refl
  where
    at : (m : ModeView) → station.node.mode ≡ m
        → job_at net inputs rooms (running_in station.node.kept station.node.version m) ≡ Some job
        → node_in job.code ≡ station.node.kept.node
    at (Runs running) is e =
        let node = running_node station.node.kept station.node.version running in
        granted_here net station.node.kept.node inputs rooms node job
        (inv.runs node (ap (running_in station.node.kept station.node.version) is)).sound.kept.laid_out e
    at other is e = absurd (cc)

-- ---- answers that grant nothing

abbrev is_grant : ReplyView → Bool
is_grant (reply.Granted job) = true
is_grant answer = false

grants_nothing : (k : ℕ) (answer : ReplyView) → is_grant answer ≡ false → IsGrantedAt k answer
grants_nothing k answer is job granted = (let so : is_grant answer ≡ true = ap is_grant granted in absurd (cc))

release_is : (round : ℕ) (place : Option ℕ) (old : StationView) (answer : ReplyView) (new : StationView)
    → IsRelease round place old answer new → is_grant answer ≡ false
release_is round None old answer new step = ap is_grant step.0
release_is round (Some place) old answer new step =
    ⊎_elim (λ left. ap is_grant left.0) (λ failed. ap is_grant failed.0) step.handed.came

delivery_is : (came : Delivery) → is_grant (delivery_reply came) ≡ false
delivery_is came = grind arith

-- nor does an answer to bytes that come, whether the delivery is made or declined
bytes_are : (net : Network) (place : ℕ) (bytes : Option (List ℕ)) (station : StationView)
    → (is_grant (deliver_plan net place bytes station).answer ≡ false)
    × (is_grant (deliver_plan net place bytes station).declined ≡ false)
bytes_are net place None station = (refl, refl)
bytes_are net place (Some bytes) station = (delivery_is _, refl)

-- nor where a record is too large
declined_is : (setting : Setting) (k : ℕ) (deed : Deed) (station : StationView)
    → is_grant (plan_of setting k deed station).declined ≡ false
declined_is setting k (event.Deliver place) station =
    (bytes_are setting.net place (due_bytes setting.round (flight_at setting k place)) station).1
declined_is setting k deed station = refl

-- ---- events

-- a grant's own answer
grant_is : (k : ℕ) (job : Option JobView) → ((j : JobView) → job ≡ Some j → node_in j.code ≡ k)
    → IsGrantedAt k (grant_reply job)
grant_is k None here = grants_nothing k reply.NotDue refl
grant_is k (Some job) here = λ granted e. (let same : job ≡ granted = cc in here granted (ap Some same))

by_outcome : (k : ℕ) (made otherwise : ReplyView) (came : Outcome) → IsGrantedAt k made
    → is_grant otherwise ≡ false → IsGrantedAt k (answer_by made otherwise came)
by_outcome k made otherwise outcome.Made one other = one
by_outcome k made otherwise (outcome.Refused TooLarge) one other = grants_nothing k otherwise other
by_outcome k made otherwise came one other = grants_nothing k _ refl

module _ (setting : Setting) (station : StationView) (inv : StationInvariant setting.net setting.inputs station) where
  deed_grants : (k : ℕ) (deed : Deed) → station.node.kept.node ≡ k → IsGrantedAt k (plan_of setting k deed station).answer
  deed_grants k (event.Deliver place) here = grants_nothing k _
      (bytes_are setting.net place (due_bytes setting.round (flight_at setting k place)) station).0
  deed_grants k event.Grant here =
      grant_is k (node_job setting.net setting.inputs setting.rooms station.node) (λ job is.
      node_grants setting.net setting.inputs setting.rooms station inv job is ∙ here)
  deed_grants k event.Recover here = grants_nothing k _ (grind arith)
  deed_grants k deed here = grants_nothing k _ refl

  station_grants : (fits : RecordView → Bool) (e : EventView) (came : Outcome) (answer : ReplyView) (new : StationView)
      → station.node.kept.node ≡ event_node e → IsStationStep setting fits e came station answer new
      → IsGrantedAt (event_node e) answer
  station_grants fits (ByNode k deed) came answer new here step =
      rw step.answers
      (by_outcome k (plan_of setting k deed station).answer (plan_of setting k deed station).declined came
      (deed_grants k deed here) (declined_is setting k deed station))
  station_grants fits (Install done) came answer new here step =
      grants_nothing _ answer (rw step.answers (grind arith))
  station_grants fits (Release k) came answer new here step =
      grants_nothing k answer (release_is setting.round (next_release setting.round station) station answer new step)
  station_grants fits (ByNetwork k place act) came answer new here step =
      grants_nothing k answer (rw step.0 (grind arith))

-- at the station of this place, where there is one
place_grants : (setting : Setting) (place : ℕ) (fits : Option (RecordView → Bool)) (station : Option StationView)
    (e : EventView) (came : Outcome) (old : List StationView) (answer : ReplyView) (new : List StationView)
    → ((s : StationView) → station ≡ Some s
    → (s.node.kept.node ≡ event_node e) × StationInvariant setting.net setting.inputs s)
    → IsActOf setting place fits station e came old answer new → IsGrantedAt (event_node e) answer
place_grants setting place (Some fits) (Some s) e came old answer new here act =
    station_grants setting s (here s refl).1 fits e came answer act.later (here s refl).0 act.step
place_grants setting place fits station e came old answer new here act =
    grants_nothing (event_node e) answer (ap is_grant act.0)

-- A job that an event grants is of a process of the event's node.
pub granted_at_home : (fits : List (RecordView → Bool)) (e : EventView) (old : WorldView) (answer : ReplyView)
    (new : WorldView) → WorldInvariant old → IsStep fits e old answer new → IsGrantedAt (event_node e) answer
granted_at_home fits e old answer new inv step =
    place_grants (setting_of old) (event_node e) (slice_get fits (event_node e))
    (slice_get old.stations (event_node e)) e step.came old.stations answer new.stations
    (λ s there. ((inv.numbered (event_node e) s there).1, inv.stations (event_node e) s there)) step.act
