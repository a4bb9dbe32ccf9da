-- Whatever event happens, a world goes on being one to which steps of the abstract machine have led.
use Rattle.std.proofs.Common.{◌≡◌, ◌⊎◌, ℕ, ◌<◌, ◌&&◌, Bool, true, false, cond, List, ℤ, length, Option, Some, None}
use Rattle.std.proofs.Common.{option_map, refl, sym, ap, subst, ◌∙◌, arith}
use Rattle.std.specs.Prelude.{◌==◌, nat_lt, not, slice_get, slice_set}
use Rattle.std.proofs.lemmas.Bool.{eq-eqb, ltb-true}
use Rattle.datagram.proofs.Exactness.{whole_again}
use Rattle.protocol.specs.Node.Common.{node_count, Network, IsValid, RecordView, live_in, hear_prospect, are_nodes}
use Rattle.protocol.specs.Node.Common.{restart_after, IsOut, IsInstall, LiveView, is_down, NodeView, ModeView, Down}
use Rattle.protocol.specs.Node.Common.{InDoubt, Runs, RunningView, running_node, running_in, on_mode, Undue, IsMade}
use Rattle.protocol.specs.Node.Common.{if_due}
use Rattle.protocol.specs.World.Common.{NodeStep, record_seen, Packet, Traffic, all_sent, flights_to, Flight}
use Rattle.protocol.specs.World.Common.{deliver_plan, IsJoined, Leads, SaysWhatWasSent, HasRun, RunsOn, live_seen}
use Rattle.protocol.specs.World.Common.{mode_seen, node_seen, world_seen, DoneView, AreSound, IsNumbered}
use Rattle.protocol.specs.World.Common.{StationInvariant, net_seen, outlets_seen, answer_by, has_happened, ReplyView}
use Rattle.protocol.specs.World.Common.{StationView, StationPlan, moved_to, turns_by, traffic_left, traffic_acted}
use Rattle.protocol.specs.World.Common.{next_release, IsPlanned, IsInstalled, IsRelease}
use Rattle.recovery_line.specs.Nodes.{Node}
use Rattle.wire.proofs.Passing.{arrived_passes}
use Rattle.protocol.specs.Node.Hearing.{told_prospect}
use Rattle.protocol_laws.specs.Join.Promises.{traffic_by}
use Rattle.protocol.specs.Join.Runs.{Carries}
use Rattle.protocol.specs.Join.Seen.{body_seen, spelled_seen}
use Rattle.protocol_laws.specs.Join.Crossings.{both_true}
use Rattle.protocol_laws.specs.Join.Hears.{hear_leads}
use Rattle.protocol_laws.specs.Join.Leading.{leads_here, leads_by, acts, outlets_same, set_itself}
use Rattle.protocol_laws.specs.Join.Leaves.{release_leads}
use Rattle.protocol_laws.specs.Join.Plans.{ProspectLeads, stays_run, made_run}
use Rattle.protocol_laws.specs.Join.Works.{turn_works}
use Rattle.protocol.specs.Node.Installing.{turned}
use Rattle.protocol.specs.declared.event.NetworkAct.{NetworkAct}
use Rattle.protocol.specs.declared.event.NetworkAct.TheVariants as act_is
use Rattle.protocol.specs.World.Steps.{plan_sendings}
use Rattle.protocol.specs.World.Traffic.{SpellsSound}
use Rattle.protocol_laws.specs.World.FlightLaws.{gone_holds, delayed_holds, repeated_holds}
use Rattle.protocol.specs.declared.outcome.Outcome.{Outcome}

-- ---- a deed that is answered as if it hadn't happened

-- a plan can't happen, or what is answered tells that it did
abbrev pub AnswersSo : StationPlan → Type 0
AnswersSo plan =
    (plan.prospect ≡ Undue) ⊎ ((has_happened plan.answer ≡ true) × (has_happened plan.declined ≡ true))

-- the node is as it was then
node_stays : (restart : ℕ) (plan : StationPlan) (old new : NodeView) (answer : ReplyView) → AnswersSo plan
    → has_happened answer ≡ false → (came : Outcome) → IsMade restart plan.prospect old came new
    → answer ≡ answer_by plan.answer plan.declined came → new ≡ old
node_stays restart plan old new answer so none came step is = grind arith

left_carries : (traffic : Traffic) (k : ℕ) (came : Option ℕ) (sent : List Packet) → Carries traffic sent
    → Carries (traffic_left traffic k came) sent
left_carries traffic k None sent carries = carries
left_carries traffic k (Some place) sent carries = gone_holds (λ to. SaysWhatWasSent sent) traffic k place carries

pub acted_carries : (act : NetworkAct) (traffic : Traffic) (k place : ℕ) (sent : List Packet) → Carries traffic sent
    → Carries (traffic_acted act traffic k place) sent
acted_carries act_is.Lose traffic k place sent carries = gone_holds (λ to. SaysWhatWasSent sent) traffic k place carries
acted_carries act_is.Repeat traffic k place sent carries = repeated_holds (λ to. SaysWhatWasSent sent) traffic k place carries
acted_carries (act_is.Delay rounds) traffic k place sent carries =
    delayed_holds (λ to. SaysWhatWasSent sent) traffic k place rounds carries
acted_carries (act_is.ArmPacket from nth change) traffic k place sent carries = carries

module _ (net : Network) (stations : List StationView) (k : ℕ) (old : StationView)
    (there : slice_get stations k ≡ Some old) (traffic : Traffic) where
  -- ---- a deed of a node, by its plan

  pub planned_run : (run : HasRun net stations traffic) (fits : RecordView → Bool) (round : ℕ) (plan : StationPlan)
      (came : Outcome) (answer : ReplyView) (new : StationView) → AnswersSo plan
      → ProspectLeads net stations k old run.sent plan.prospect → IsPlanned fits round plan came old answer new
      → RunsOn net stations traffic (slice_set stations k new) (traffic_by traffic k round plan came answer)
  planned_run run fits round plan came answer new so leads step = by (has_happened answer) refl
    where
      by : (b : Bool) → has_happened answer ≡ b
          → RunsOn net stations traffic (slice_set stations k new)
          (cond b (all_sent round (plan_sendings plan came) (traffic_left traffic k plan.came)) traffic)
      by true happened =
          rw step.same
          (made_run net stations k old there traffic run (restart_after old.node.armed step.call round) round
          plan.prospect came new.node new.failures (turns_by plan.turns old.turns came)
          (traffic_left traffic k plan.came) leads (left_carries traffic k plan.came run.sent run.carries) step.step
          step.allowed)
      by false none =
          rw step.same
          (stays_run net stations k old there traffic run new.node new.failures (turns_by plan.turns old.turns came)
          traffic
          (node_stays (restart_after old.node.armed step.call round) plan old.node new.node answer so none came
          step.step step.answers) run.carries)

  -- ---- a packet that comes

  module _ (valid : IsValid net) (numbered : old.number ≡ k) (joined : IsJoined net old) where
    -- the packet that the bytes at a place spell
    pub come_leads : (inputs : List (List ℤ)) (run : HasRun net stations traffic) (place : ℕ) (bytes : List ℕ)
        → option_map (λ (f : Flight). f.packet) (slice_get (flights_to traffic k) place) ≡ Some bytes
        → SpellsSound net inputs k bytes
        → ProspectLeads net stations k old run.sent (deliver_plan net place (Some bytes) old).prospect
    come_leads inputs run place bytes came says =
        rw (whole_again bytes says.packet says.text, eq-eqb says.packet.to old.number (says.here ∙ sym numbered), says.names)
        (by (is_down old.node.mode) refl)
      where
        node_listed : are_nodes net says.packet.from k ≡ true → says.packet.from < length old.node.kept.highest
        node_listed nodes =
            let both = both_true (not (says.packet.from == k))
            (nat_lt says.packet.from (node_count net) && nat_lt k (node_count net)) nodes in
            let below = ltb-true says.packet.from (node_count net)
            (both_true (nat_lt says.packet.from (node_count net)) (nat_lt k (node_count net)) both.1).0 in
            let listed = joined.kept.listed in
            omega (arith, below, listed)

        wide : (running : RunningView) (live : LiveView) → old.node.mode ≡ Runs running → running.live ≡ Some live
            → length live.questions ≡ length net.channels
        wide running live runs is = (joined.live live (ap live_in runs ∙ is)).wide

        hears_it : (up : is_down old.node.mode ≡ false)
            → ProspectLeads net stations k old run.sent
            (hear_prospect net k says.packet.from says.packet.body old.node)
        hears_it up =
            hear_leads net valid stations k old there run.sent says.packet.from up node_listed wide says.packet.body
            (rw says.here at says.names)
            (λ told is. arrived_passes (SaysWhatWasSent run.sent) (flights_to traffic k) place bytes (run.carries k)
            came told
            (ap spelled_seen (whole_again bytes says.packet says.text)
            ∙ (ap (λ (n : ℕ). body_seen says.packet.from n says.packet.body) says.here ∙ is)))

        by : (down : Bool) → is_down old.node.mode ≡ down
            → ProspectLeads net stations k old run.sent
            (if_due (not down) (told_prospect net old.number (Some says.packet) old.node))
        by true is = tt
        by false is =
            subst (λ (n : ℕ). ProspectLeads net stations k old run.sent
            (hear_prospect net n says.packet.from says.packet.body old.node)) (sym numbered) (hears_it is)

  -- ---- a turn that comes back

  pub install_run : (inputs : List (List ℤ)) (run : HasRun net stations traffic) (done : DoneView) (answer : ReplyView)
      (new : StationView) → old.node.kept.node ≡ k → StationInvariant net inputs old → StationInvariant net inputs new
      → IsInstalled net.channels done old answer new → RunsOn net stations traffic (slice_set stations k new) traffic
  install_run inputs run done answer new home inv later step =
      rw step.same (by step.applied step.step (rw step.same at later))
    where
      by : (applied : Bool)
          → IsInstall net.channels done.job done.after done.taken done.sent old.node applied new.node
          → StationInvariant net inputs (moved_to new.node old.failures old.turns old)
          → RunsOn net stations traffic (slice_set stations k (moved_to new.node old.failures old.turns old)) traffic
      by false is sound =
          stays_run net stations k old there traffic run new.node old.failures old.turns traffic is.1 run.carries
      by true is sound = record {
        run = run;
        sent = run.sent;
        leads =
            (leads_by (net_seen net) (world_seen stations run.sent) _
            (acts stations k old now there (net_seen net) run.sent (outlets_same stations k old now there refl) works));
        carries = run.carries;
      }
        where
          now : StationView
          now = moved_to new.node old.failures old.turns old

          -- the node as it is seen in this mode
          seen_in : ModeView → Node
          seen_in mode =
              record { disk = record_seen old.node.kept; mode = mode_seen mode; outlets = outlets_seen stations }

          at : (mode : ModeView) → old.node.mode ≡ mode → IsOut done.job mode
              → NodeStep (net_seen net) k (seen_in mode)
              (seen_in (on_mode (turned net.channels done.job.process done.after done.taken done.sent) mode))
          at (Runs running) runs out =
              let before = (inv.runs (running_node old.node.kept old.node.version running)
              (ap (running_in old.node.kept old.node.version) runs)).sound.kept in
              let after = (sound.runs (running_node old.node.kept old.node.version
              (turned net.channels done.job.process done.after done.taken done.sent running))
              (rw (is.1, runs) refl)).sound.kept in
              rw (← home)
              (turn_works net old.node.kept.node inputs done.job.process done.after done.taken done.sent running.current
              before.laid_out after.laid_out after.counts (record_seen old.node.kept)
              (option_map live_seen running.live) (outlets_seen stations))
          at mode runs out = absurd out

          works : NodeStep (net_seen net) k (node_seen old (outlets_seen stations)) (node_seen now (outlets_seen stations))
          works = rw is.1 (at old.node.mode refl is.0)

  -- ---- an item that leaves

  module _ (inputs : List (List ℤ)) (round : ℕ) (answer : ReplyView) (new : StationView)
      (numbered : IsNumbered stations) (sound : AreSound net inputs stations)
      (numbered_then : IsNumbered (slice_set stations k new))
      (sound_then : AreSound net inputs (slice_set stations k new))
      (step : IsRelease round (next_release round old) old answer new) where
    pub release_steps : (sent : List Packet)
        → Leads (net_seen net) (world_seen stations sent) (world_seen (slice_set stations k new) sent)
    release_steps sent = by (next_release round old) refl step
      where
        running_now : (mode : ModeView) → old.node.mode ≡ mode → (place : ℕ) → next_release round old ≡ Some place
            → (running : RunningView) × (old.node.mode ≡ Runs running)
        running_now Down is place next = absurd (let none = rw is at next in cc)
        running_now InDoubt is place next = absurd (let none = rw is at next in cc)
        running_now (Runs running) is place next = (running, is)

        by : (o : Option ℕ) → next_release round old ≡ o → IsRelease round o old answer new
            → Leads (net_seen net) (world_seen stations sent) (world_seen (slice_set stations k new) sent)
        by None next is =
            leads_here (net_seen net) (world_seen stations sent) _
            (rw (is.1, set_itself stations k old there) refl)
        by (Some place) next is =
            let runs = running_now old.node.mode refl place next in
            release_leads net inputs stations k old new there sent numbered sound numbered_then sound_then round place
            answer is next runs.0 runs.1

    -- no record is put in it
    pub release_puts_none : new.node.kept ≡ old.node.kept
    release_puts_none = by (next_release round old) step
      where
        by : (o : Option ℕ) → IsRelease round o old answer new → new.node.kept ≡ old.node.kept
        by None is = ap (λ (s : StationView). s.node.kept) is.1
        by (Some place) is = ap (λ (s : StationView). s.node.kept) is.same

    pub release_run : HasRun net stations traffic → RunsOn net stations traffic (slice_set stations k new) traffic
    release_run run = record { run = run; sent = run.sent; leads = release_steps run.sent; carries = run.carries }
