-- However what a node plans comes out, it is steps of the abstract machine, and whatever a crash leaves of it is in
-- line.
use Rattle.std.proofs.Common.{◌≡◌, inl, inr, ℕ, Bool, true, false, cond, List, [], ◌++◌, map, All, Some, refl, sym, ap}
use Rattle.std.specs.Prelude.{slice_get, slice_set}
use Rattle.protocol.specs.Node.Common.{IsPacket, Network, RecordView, crashed, with_kept, NodeView, Plan, Prospect}
use Rattle.protocol.specs.Node.Common.{Undue, Exhausted, Planned, IsCarriedOut, IsMade, next_record, packets_by}
use Rattle.protocol.specs.World.Common.{Traffic, all_sent, Net, Mode, NodeStep, record_seen, Packet, Leads, HasRun}
use Rattle.protocol.specs.World.Common.{RunsOn, mode_seen, all_seen, node_seen, world_seen, AreInLine, AreEither}
use Rattle.protocol.specs.World.Common.{net_seen, records_of, outlets_seen, StationView, moved_to, sending_of}
use Rattle.recovery_line.specs.Nodes.{Node, Crash}
use Rattle.protocol.specs.Join.Runs.{Carries}
use Rattle.protocol_laws.specs.Join.Leading.{leads_here, leads_by, leads_then, acts, outlets_same, same_records, set_there}
use Rattle.protocol_laws.specs.Join.Leading.{set_again, set_itself, unseen}
use Rattle.protocol_laws.specs.Join.Lines.{line_at_put}
use Rattle.protocol_laws.specs.Join.Sent.{carries_still, carries_all}
use Rattle.protocol.specs.Node.Plans.{HasFailedAt, IsHeldUp, plan_packets}
use Rattle.protocol.specs.declared.outcome.Outcome.{Outcome}
use Rattle.protocol.specs.declared.outcome.Outcome.TheVariants as outcome
use Rattle.protocol.specs.declared.outcome.Refusal.TheVariants.{TooLarge, Spent}
use Rattle.protocol.specs.declared.round_turns.RoundTurns.{RoundTurns}

-- ---- a plan and a run

-- Steps lead to the node that a plan makes, in which is sent what the plan sends; what is sent where the record is too
-- large says nothing of checkpoints; and a plan that puts no record leaves the one that is kept.
pub record PlanLeads (net : Network) (stations : List StationView) (k : ℕ) (old : StationView) (sent : List Packet)
    (plan : Plan) : Type 0 where
  pub leads : (failures : ℕ) (turns : RoundTurns)
      → Leads (net_seen net) (world_seen stations sent)
      (world_seen (slice_set stations k (moved_to plan.node failures turns old)) (all_seen plan.packets ++ sent))
  pub silent : all_seen plan.refused ≡ []
  pub keeps : plan.puts ≡ false → plan.node.kept ≡ old.node.kept

abbrev pub ProspectLeads : Network → List StationView → ℕ → StationView → List Packet → Prospect → Type 0
ProspectLeads net stations k old sent Undue = Unit {0}
ProspectLeads net stations k old sent (Exhausted looks) = Unit {0}
ProspectLeads net stations k old sent (Planned plan) = PlanLeads net stations k old sent plan

-- ---- a node goes down

falls : (net : Net) (k : ℕ) (a b : Node) → b.disk ≡ a.disk → b.outlets ≡ a.outlets → b.mode ≡ Mode.Down
    → NodeStep net k a b
falls net k a b disk outlets down = Crash (record { same = record { disk = disk; outlets = outlets }; now = down })

pub falls_leads : (net : Network) (stations : List StationView) (k : ℕ) (old : StationView)
    → slice_get stations k ≡ Some old → (sent : List Packet) (restart failures : ℕ) (turns : RoundTurns)
    → Leads (net_seen net) (world_seen stations sent)
    (world_seen (slice_set stations k (moved_to (crashed restart old.node) failures turns old)) sent)
falls_leads net stations k old there sent restart failures turns =
    let new = moved_to (crashed restart old.node) failures turns old in
    leads_by (net_seen net) (world_seen stations sent) _
    (acts stations k old new there (net_seen net) sent (outlets_same stations k old new there refl)
    (falls (net_seen net) k (node_seen old (outlets_seen stations)) (node_seen new (outlets_seen stations)) refl refl
    refl))

-- ---- however it comes out

module _ (net : Network) (stations : List StationView) (k : ℕ) (old : StationView)
    (there : slice_get stations k ≡ Some old) (traffic : Traffic) (run : HasRun net stations traffic) where
  -- steps that lead to these stations, in which what is in flight now was sent
  leads_on : (later : List StationView) (more : List Packet) (flown : Traffic)
      → Leads (net_seen net) (world_seen stations run.sent) (world_seen later more) → Carries flown more
      → RunsOn net stations traffic later flown
  leads_on later more flown leads carries = record { run = run; sent = more; leads = leads; carries = carries }

  -- a station whose node is as it was
  pub stays_run : (node : NodeView) (failures : ℕ) (turns : RoundTurns) (flown : Traffic) → node ≡ old.node
      → Carries flown run.sent
      → RunsOn net stations traffic (slice_set stations k (moved_to node failures turns old)) flown
  stays_run node failures turns flown same carries =
      leads_on _ run.sent flown (leads_here (net_seen net) (world_seen stations run.sent) _
      (unseen stations k old (moved_to node failures turns old) there run.sent refl
      (ap (λ (n : NodeView). record_seen n.kept) same) (ap (λ (n : NodeView). mode_seen n.mode) same))) carries

  module _ (plan : Plan) (by_steps : PlanLeads net stations k old run.sent plan) where
    -- The device fails: the event happened, and then the node went down, or it went down at once. What would have been
    -- sent is none of what is in flight.
    failed_run : (restart : ℕ) (node : NodeView) (failures : ℕ) (turns : RoundTurns) (flown : Traffic)
        → Carries flown run.sent → HasFailedAt restart plan.node.kept old.node node
        → RunsOn net stations traffic (slice_set stations k (moved_to node failures turns old)) flown
    failed_run restart node failures turns flown carries (inl same) =
        rw same (leads_on _ run.sent flown (falls_leads net stations k old there run.sent restart failures turns) carries)
    failed_run restart node failures turns flown carries (inr same) =
        let done = moved_to plan.node failures turns old in
        let down = moved_to (crashed restart (with_kept plan.node.kept old.node)) failures turns old in
        let more = all_seen plan.packets ++ run.sent in
        let made = slice_set stations k done in
        let fallen : Leads (net_seen net) (world_seen stations run.sent) (world_seen (slice_set stations k down) more) =
        rw (← set_again stations k done down)
        (leads_then (net_seen net) (world_seen stations run.sent) (world_seen made more) _
        (by_steps.leads failures turns)
        (acts made k done down (set_there stations k old done there) (net_seen net) more
        (outlets_same made k done down (set_there stations k old done there) refl)
        (falls (net_seen net) k (node_seen done (outlets_seen made)) (node_seen down (outlets_seen made)) refl refl
        refl))
        (same_records made k done down (set_there stations k old done there) refl)) in
        rw same (leads_on _ more flown fallen (carries_still (all_seen plan.packets) run.sent flown carries))

    carried_run : (restart round : ℕ) (came : Outcome) (node : NodeView) (failures : ℕ) (turns : RoundTurns)
        (flown : Traffic) → Carries flown run.sent → IsCarriedOut restart plan old.node came node
        → All IsPacket (plan_packets plan came)
        → RunsOn net stations traffic (slice_set stations k (moved_to node failures turns old))
        (all_sent round (map sending_of (plan_packets plan came)) flown)
    carried_run restart round outcome.Failed node failures turns flown carries step allowed =
        failed_run restart node failures turns flown carries step.1
    carried_run restart round outcome.Made node failures turns flown carries step allowed =
        rw step (leads_on _ (all_seen plan.packets ++ run.sent) _ (by_steps.leads failures turns)
        (carries_all round plan.packets flown run.sent carries allowed))
    carried_run restart round (outcome.Refused TooLarge) node failures turns flown carries step allowed =
        stays_run node failures turns (all_sent round (map sending_of plan.refused) flown) step.1
        (rw by_steps.silent at (carries_all round plan.refused flown run.sent carries allowed))
    carried_run restart round came node failures turns flown carries step allowed = absurd step

  held_run : (restart : ℕ) (looks : Bool) (came : Outcome) (node : NodeView) (failures : ℕ) (turns : RoundTurns)
      (flown : Traffic) → Carries flown run.sent → IsHeldUp restart looks old.node came node
      → RunsOn net stations traffic (slice_set stations k (moved_to node failures turns old)) flown
  held_run restart looks (outcome.Refused Spent) node failures turns flown carries step =
      stays_run node failures turns flown step carries
  held_run restart looks outcome.Failed node failures turns flown carries step =
      rw step.1 (leads_on _ run.sent flown (falls_leads net stations k old there run.sent restart failures turns) carries)
  held_run restart looks came node failures turns flown carries step = absurd step

  -- what a prospect comes to
  pub made_run : (restart round : ℕ) (prospect : Prospect) (came : Outcome) (node : NodeView) (failures : ℕ)
      (turns : RoundTurns) (flown : Traffic) → ProspectLeads net stations k old run.sent prospect
      → Carries flown run.sent → IsMade restart prospect old.node came node
      → All IsPacket (packets_by prospect came)
      → RunsOn net stations traffic (slice_set stations k (moved_to node failures turns old))
      (all_sent round (map sending_of (packets_by prospect came)) flown)
  made_run restart round Undue came node failures turns flown by_steps carries step allowed =
      stays_run node failures turns flown step.1 carries
  made_run restart round (Exhausted looks) came node failures turns flown by_steps carries step allowed =
      held_run restart looks came node failures turns flown carries step
  made_run restart round (Planned plan) came node failures turns flown by_steps carries step allowed =
      carried_run plan by_steps restart round came node failures turns flown carries step allowed

  -- ---- and what a crash leaves of it

  pub prospect_line : (prospect : Prospect) → ProspectLeads net stations k old run.sent prospect
      → (after : List StationView) (records : List RecordView) → outlets_seen after ≡ outlets_seen stations
      → AreEither (records_of stations)
      (slice_set (records_of stations) k (next_record prospect old.node.kept)) records
      → AreInLine net stations after records
  prospect_line (Planned plan) by_steps after records same left =
      line_at_put net stations run.sent run.reached k old (moved_to plan.node old.failures old.turns old)
      (all_seen plan.packets ++ run.sent) after records there refl (by_steps.leads old.failures old.turns) same
      (rw (kept_is plan.puts refl) at left)
    where
      kept_is : (b : Bool) → plan.puts ≡ b → cond b plan.node.kept old.node.kept ≡ plan.node.kept
      kept_is true e = refl
      kept_is false e = sym (by_steps.keeps e)
  prospect_line prospect by_steps after records same left =
      line_at_put net stations run.sent run.reached k old old run.sent after records there refl
      (leads_here (net_seen net) (world_seen stations run.sent) _ (rw (set_itself stations k old there) refl)) same left
