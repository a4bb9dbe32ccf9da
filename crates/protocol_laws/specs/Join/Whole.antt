-- What is promised of checkpoints that several nodes take together holds.
use Rattle.std.proofs.Common.{◌≡◌, inl, inr, ℕ, true, false, List, length, Option, Some, None, option_map, refl, sym}
use Rattle.std.proofs.Common.{ap, subst, ◌∙◌, arith}
use Rattle.std.specs.Prelude.{slice_get, slice_set}
use Rattle.std.proofs.Math.Bridge.{le_prop}
use Rattle.std.proofs.lemmas.List.{map-set}
use Rattle.protocol.specs.World.Common.{records_of, Traffic, Flight, deliver_plan, plan_of, HasRun, RunsOn}
use Rattle.protocol.specs.World.Common.{world_seen, net_seen, StationView, delivery_reply}
use Rattle.protocol.specs.World.Common.{has_happened, Setting, due_bytes, flight_at}
use Rattle.protocol_laws.specs.World.OutputLaws.{map_at}
use Rattle.std.proofs.Math.Logic.{∥∥₁_elim, ∥∥₁_map, ∥∥₁_map₂}
use Rattle.protocol.specs.Node.Common.{Packet, node_count, Network, start_prospect, decide_prospect, round_later}
use Rattle.protocol.specs.Node.Common.{with_armed, node_job, packet_for, is_incoming, Runs, RunningView, running_node}
use Rattle.protocol.specs.Node.Common.{running_in, Prospect, recover_prospect}
use Rattle.protocol_laws.specs.Join.Promises.{StandsIn, OpeningHasRun, DeedsRun, DeedsKeepTheLine, InstallsRun}
use Rattle.protocol_laws.specs.Join.Promises.{ReleasesRun, NetworkRuns, LinesAreSound, ReleasesKeepTheLine}
use Rattle.protocol.specs.Node.Telling.{send_prospect}
use Rattle.protocol_laws.specs.Join.Deeds.{same_leads, grant_leads, starts_lead, concludes_lead}
use Rattle.protocol_laws.specs.Join.Events.{AnswersSo, planned_run, come_leads, install_run, release_run}
use Rattle.protocol_laws.specs.Join.Events.{release_steps, release_puts_none, acted_carries}
use Rattle.protocol_laws.specs.Join.Leading.{leads_here, outlets_same, set_itself}
use Rattle.protocol_laws.specs.Join.Lines.{line_at_release, line_now}
use Rattle.protocol_laws.specs.Join.Opens.{run_opens}
use Rattle.protocol_laws.specs.Join.Plans.{ProspectLeads, prospect_line}
use Rattle.protocol_laws.specs.Join.Returns.{crash_leads, recover_leads}
use Rattle.protocol_laws.specs.Join.Turns.{turn_leads}
use Rattle.protocol.specs.Node.Delivering.{delivery_of}
use Rattle.protocol_laws.specs.Node.NumberedLaws.{where_mark}
use Rattle.protocol.specs.declared.event.Deed.{Deed}
use Rattle.protocol.specs.declared.event.Deed.TheVariants as event
use Rattle.protocol.specs.World.Traffic.{SpellsSound}
use Rattle.protocol_laws.specs.World.TrafficLaws.{arrives_sound}
use Rattle.protocol.specs.declared.links.Inbox.{Inbox}

pub opening_has_run : OpeningHasRun
opening_has_run net failures outlets nothing = ∣ run_opens net (node_count net) outlets 0 failures nothing ∣₁

-- a world in which nothing happens goes on
pub runs_still : (net : Network) (stations : List StationView) (traffic : Traffic) → HasRun net stations traffic
    → RunsOn net stations traffic stations traffic
runs_still net stations traffic run =
    let still = leads_here (net_seen net) (world_seen stations run.sent) (world_seen stations run.sent) refl in
    record { run = run; sent = run.sent; leads = still; carries = run.carries }

-- ---- the bytes that come in a deed, if any do

abbrev pub SpelledBytes : Setting → ℕ → Option (List ℕ) → Type 0
SpelledBytes setting k None = Unit {0}
SpelledBytes setting k (Some bytes) = SpellsSound setting.net setting.inputs k bytes

abbrev Spelled : Setting → ℕ → Deed → Type 0
Spelled setting k (event.Deliver place) =
    SpelledBytes setting k (due_bytes setting.round (flight_at setting k place))
Spelled setting k deed = Unit {0}

-- bytes that are due are those in flight
due_are : (round : ℕ) (o : Option Flight) (bytes : List ℕ) → due_bytes round o ≡ Some bytes
    → option_map (λ (f : Flight). f.packet) o ≡ Some bytes
due_are round None bytes is = absurd (cc)
due_are round (Some flight) bytes is = grind arith

module _ (setting : Setting) (stations : List StationView) (k : ℕ) (old : StationView)
    (in_world : StandsIn setting stations k old) where
  pub bytes_spelled : (place : ℕ) (o : Option (List ℕ)) → due_bytes setting.round (flight_at setting k place) ≡ o
      → ∥ SpelledBytes setting k o ∥₁
  bytes_spelled place None is = ∣ tt ∣₁
  bytes_spelled place (Some bytes) is =
      arrives_sound setting.net setting.inputs setting.traffic k place bytes in_world.traffic
      (due_are setting.round (flight_at setting k place) bytes is)

  all_spelled : (deed : Deed) → ∥ Spelled setting k deed ∥₁
  all_spelled (event.Deliver place) = bytes_spelled place (due_bytes setting.round (flight_at setting k place)) refl
  all_spelled deed = ∣ tt ∣₁

  -- ---- each deed's plan is steps

  module _ (run : HasRun setting.net stations setting.traffic) where
    -- a prospect of the node by its number
    as_numbered : (prospect : ℕ → Prospect) → ProspectLeads setting.net stations k old run.sent (prospect k)
        → ProspectLeads setting.net stations k old run.sent (prospect old.number)
    as_numbered prospect leads =
        subst (λ (n : ℕ). ProspectLeads setting.net stations k old run.sent (prospect n)) (sym in_world.number) leads

    incoming : (running : RunningView) → old.node.mode ≡ Runs running → (i : ℕ) (inbox : Inbox)
        → slice_get running.inboxes i ≡ Some inbox → is_incoming setting.net k inbox.channel ≡ true
    incoming running runs i inbox at =
        let links = (in_world.sound.runs (running_node old.node.kept old.node.version running)
        (ap (running_in old.node.kept old.node.version) runs)).sound.kept.links in
        let mark = where_mark (λ (x : Inbox). x.channel) (is_incoming setting.net old.node.kept.node) 0
        (length setting.net.channels) running.inboxes i inbox links.incoming at in
        ap (λ (n : ℕ). is_incoming setting.net n inbox.channel) (sym in_world.node) ∙ mark.0

    came : (place : ℕ) (o : Option (List ℕ)) → due_bytes setting.round (flight_at setting k place) ≡ o
        → SpelledBytes setting k o
        → ProspectLeads setting.net stations k old run.sent (deliver_plan setting.net place o old).prospect
    came place None is says = tt
    came place (Some bytes) is says =
        come_leads setting.net stations k old in_world.there setting.traffic in_world.valid in_world.number
        in_world.joined setting.inputs run place bytes (due_are setting.round (flight_at setting k place) bytes is) says

    deed_leads : (deed : Deed) → Spelled setting k deed
        → ProspectLeads setting.net stations k old run.sent (plan_of setting k deed old).prospect
    deed_leads (event.Deliver place) says =
        came place (due_bytes setting.round (flight_at setting k place)) refl says
    deed_leads event.Grant says =
        grant_leads setting.net stations k old in_world.there run.sent
        (node_job setting.net setting.inputs setting.rooms old.node)
    deed_leads event.Send says =
        as_numbered (λ (n : ℕ). send_prospect setting.net n old.node)
        (turn_leads setting.net in_world.valid stations k old in_world.there run.sent incoming)
    deed_leads event.Start says =
        as_numbered (λ (n : ℕ). start_prospect setting.net n old.node)
        (starts_lead setting.net stations k old in_world.there run.sent run.reached in_world.count in_world.joined
        in_world.valid)
    deed_leads event.Decide says =
        as_numbered (λ (n : ℕ). decide_prospect n old.node)
        (concludes_lead setting.net stations k old in_world.there run.sent run.reached in_world.count in_world.joined)
    deed_leads (event.Crash fill rounds) says =
        crash_leads setting.net stations k old in_world.there run.sent (round_later setting.round rounds)
    deed_leads event.Recover says =
        as_numbered (λ (n : ℕ). recover_prospect setting.net n old.node)
        (recover_leads setting.net stations k old in_world.there run.sent in_world.node)
    deed_leads (event.Arm fault rounds) says =
        same_leads setting.net stations k old in_world.there run.sent (with_armed fault.call rounds old.node) refl refl
    deed_leads event.Idle says = same_leads setting.net stations k old in_world.there run.sent old.node refl refl

-- a deed that can happen is answered so

bytes_answer : (net : Network) (place : ℕ) (bytes : Option (List ℕ)) (station : StationView)
    → AnswersSo (deliver_plan net place bytes station)
bytes_answer net place None station = inl refl
bytes_answer net place (Some bytes) station = inr (packet_answers (packet_for net station.number bytes), refl)
  where
    packet_answers : (packet : Option Packet) → has_happened (delivery_reply (delivery_of false packet)) ≡ true
    packet_answers packet = grind arith

pub answers_so : (setting : Setting) (k : ℕ) (deed : Deed) (station : StationView)
    → AnswersSo (plan_of setting k deed station)
answers_so setting k (event.Deliver place) station =
    bytes_answer setting.net place (due_bytes setting.round (flight_at setting k place)) station
answers_so setting k event.Grant station = grind arith
answers_so setting k event.Recover station = inr (grind arith, refl)
answers_so setting k deed station = inr (refl, refl)

pub deeds_run : DeedsRun
deeds_run setting stations k old new deed fits came answer in_world step known =
    ∥∥₁_map₂ known (all_spelled setting stations k old in_world deed)
    (λ run says. planned_run setting.net stations k old in_world.there setting.traffic run fits setting.round
    (plan_of setting k deed old) came answer new (answers_so setting k deed old)
    (deed_leads setting stations k old in_world run deed says) step)

pub deeds_keep_the_line : DeedsKeepTheLine
deeds_keep_the_line setting stations k old new deed records in_world same left known =
    ∥∥₁_elim
    (∥∥₁_map₂ known (all_spelled setting stations k old in_world deed)
    (λ run says. prospect_line setting.net stations k old in_world.there setting.traffic run
    (plan_of setting k deed old).prospect (deed_leads setting stations k old in_world run deed says)
    (slice_set stations k new) records (outlets_same stations k old new in_world.there same) left))
    (hlevel (le_prop)) (λ line. line)

pub installs_run : InstallsRun
installs_run net inputs stations k old new done answer traffic there home inv later step known =
    ∥∥₁_map known
    (λ run. install_run net stations k old there traffic inputs run done answer new home inv later step)

pub releases_run : ReleasesRun
releases_run net inputs stations k old new round answer traffic there numbered sound numbered_then sound_then step
    known =
    ∥∥₁_map known
    (release_run net stations k old there traffic inputs round answer new numbered sound numbered_then sound_then step)

pub releases_keep_the_line : ReleasesKeepTheLine
releases_keep_the_line net inputs stations k old new round answer traffic records there numbered sound numbered_then
    sound_then step left known =
    ∥∥₁_elim known (hlevel (le_prop))
    (λ run. line_at_release net stations run.sent run.reached (slice_set stations k new) run.sent records
    (release_steps net stations k old there traffic inputs round answer new numbered sound numbered_then sound_then step
    run.sent) same left)
  where
    same : records_of (slice_set stations k new) ≡ records_of stations
    same =
        let none = release_puts_none net stations k old there traffic inputs round answer new numbered sound
        numbered_then sound_then step in
        let here = map_at (λ (s : StationView). s.node.kept) stations k old there in
        rw (map-set (λ (s : StationView). s.node.kept) stations k new, none, set_itself (records_of stations) k _ here) refl

pub network_runs : NetworkRuns
network_runs net stations k place act traffic known = ∥∥₁_map known (λ run.
    let still = leads_here (net_seen net) (world_seen stations run.sent) (world_seen stations run.sent) refl in
    record { run = run; sent = run.sent; leads = still; carries = acted_carries act traffic k place run.sent run.carries })

pub lines_are_sound : LinesAreSound
lines_are_sound net stations traffic known =
    ∥∥₁_elim known (hlevel (le_prop)) (λ run. line_now net stations run.sent run.reached)
