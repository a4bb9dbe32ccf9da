-- Laws of deeds: what a plan makes of a sound station is sound, and what follows of it however it comes out.
use Rattle.std.proofs.Common.{◌≡◌, ◌⊎◌, inl, inr, ℕ, ◌<◌, ◌&&◌, Bool, true, false, List, ℤ, [], Option, Some, None}
use Rattle.std.proofs.Common.{refl, sym, ap, All, arith}
use Rattle.std.proofs.lemmas.List.Elements.{All-nil}
use Rattle.protocol.specs.Node.Common.{Network, MAX_COUNT, Packet, with_epoch, RecordView, Tentative, JobView, NodeView}
use Rattle.protocol.specs.Node.Common.{ModeView, Runs, RunningView, RunningNode, running_node, running_in, running_of}
use Rattle.protocol.specs.Node.Common.{on_mode, Plan, Prospect, Undue, Exhausted, Planned, becoming, if_due}
use Rattle.protocol.specs.Node.Common.{unless_spent, IsCarriedOut, IsMade, next_record, restored, granted}
use Rattle.protocol.specs.Node.Common.{grant_prospect, next_job, node_job, with_grant, crashed, is_running, with_kept}
use Rattle.protocol.specs.Node.Common.{IsBehind}
use Rattle.protocol.specs.Node.Plans.{IsHeldUp, plan_record}
use Rattle.protocol.specs.Node.Recovering.{restored_running, restored_with}
use Rattle.protocol_laws.specs.Node.RestoreLaws.{restored_begin}
use Rattle.protocol.specs.declared.outcome.Outcome.{Outcome}
use Rattle.protocol.specs.declared.outcome.Outcome.TheVariants as outcome
use Rattle.protocol.specs.declared.outcome.Refusal.TheVariants.{TooLarge, Spent}
use Rattle.protocol.specs.declared.round_turns.RoundTurns.{RoundTurns}
use Rattle.protocol.specs.World.Common.{outputs_of, RunsSoundly, StationInvariant, OutputView, RecordIsSound}
use Rattle.protocol.specs.World.Common.{StationView, moved_to}
use Rattle.protocol.specs.Node.Choosing.{after_grant, job_at}
use Rattle.protocol_laws.specs.Join.Sayable.{ProspectSays}
use Rattle.protocol_laws.specs.Join.Spelled.{all_sendable}
use Rattle.protocol_laws.specs.World.OrderLaws.{behind_itself, order_granted}
use Rattle.protocol_laws.specs.World.RecordLaws.{record_epoch, restarts_soundly}
use Rattle.protocol_laws.specs.World.SendLaws.{IsSendable}
use Rattle.protocol_laws.specs.World.SoundLaws.{granted_sound}

-- ---- what is known of a station and what is around it

-- What is known of a plan: the station afterwards is sound; no record changes but by a put; it is of the same node, and
-- its permanent image isn't behind; and what is sent may be in flight.
pub record IsSoundPlan (net : Network) (inputs : List (List ℤ)) (old : StationView) (plan : Plan) : Type 0 where
  pub keeps : StationInvariant net inputs (moved_to plan.node old.failures old.turns old)
  pub stays : plan.puts ≡ false → plan.node.kept ≡ old.node.kept
  pub same_node : plan.node.kept.node ≡ old.node.kept.node
  pub ahead : IsBehind old.node.kept.permanent plan.node.kept.permanent
  pub sendable : All (IsSendable net inputs) plan.packets
  pub refusable : All (IsSendable net inputs) plan.refused

-- of that, what is known of the station alone
pub record KeepsStation (net : Network) (inputs : List (List ℤ)) (old : StationView) (plan : Plan) : Type 0 where
  pub keeps : StationInvariant net inputs (moved_to plan.node old.failures old.turns old)
  pub stays : plan.puts ≡ false → plan.node.kept ≡ old.node.kept
  pub same_node : plan.node.kept.node ≡ old.node.kept.node
  pub ahead : IsBehind old.node.kept.permanent plan.node.kept.permanent

abbrev pub ProspectKeeps : Network → List (List ℤ) → StationView → Prospect → Type 0
ProspectKeeps net inputs old Undue = Unit {0}
ProspectKeeps net inputs old (Exhausted looks) = Unit {0}
ProspectKeeps net inputs old (Planned plan) = KeepsStation net inputs old plan

abbrev pub IsSoundProspect : Network → List (List ℤ) → StationView → Prospect → Type 0
IsSoundProspect net inputs old Undue = Unit {0}
IsSoundProspect net inputs old (Exhausted looks) = Unit {0}
IsSoundProspect net inputs old (Planned plan) = IsSoundPlan net inputs old plan

-- a node that runs after a change ran before it
pub ran : (kept : RecordView) (version : ℕ) (change : RunningView → RunningView) (mode : ModeView) (node : RunningNode)
    → running_in kept version (on_mode change mode) ≡ Some node
    → (running : RunningView) × (mode ≡ Runs running) × (running_node kept version (change running) ≡ node)
ran kept version change mode node is = grind arith

-- one that may start or decide runs
pub runs_now : (mode : ModeView) → is_running mode ≡ true → (running : RunningView) × (mode ≡ Runs running)
runs_now mode is = grind arith

pub first_true : (a b : Bool) → (a && b) ≡ true → a ≡ true
first_true a b is = grind arith

module _ (net : Network) (inputs : List (List ℤ)) where
  pub moved_keeps : (node : NodeView) (failures : ℕ) (turns : RoundTurns) (old : StationView)
      → RecordIsSound net inputs node.kept (outputs_of old.outlets)
      → ((run : RunningNode) → running_of node ≡ Some run → RunsSoundly net inputs run (outputs_of old.outlets))
      → StationInvariant net inputs (moved_to node failures turns old)
  moved_keeps node failures turns old kept runs = record { kept = kept; runs = runs }

  pub same_keeps : (old new : StationView) → new ≡ old → StationInvariant net inputs old
      → StationInvariant net inputs new
  same_keeps old new same inv = rw same inv

  -- one that is down, with a sound record
  pub down_keeps : (restart : ℕ) (node : NodeView) (failures : ℕ) (turns : RoundTurns) (old : StationView)
      → RecordIsSound net inputs node.kept (outputs_of old.outlets)
      → StationInvariant net inputs (moved_to (crashed restart node) failures turns old)
  down_keeps restart node failures turns old kept = record { kept = kept; runs = λ run is. absurd (cc) }

  -- the node as it runs
  pub runs_at : (old : StationView) → StationInvariant net inputs old → (running : RunningView)
      → old.node.mode ≡ Runs running
      → RunsSoundly net inputs (running_node old.node.kept old.node.version running) (outputs_of old.outlets)
  runs_at old inv running is =
      inv.runs (running_node old.node.kept old.node.version running) (ap (running_in old.node.kept old.node.version) is)

  -- ---- plans

  -- where the record stays, and the node runs soundly with it
  pub keeps_still : (node : NodeView) (packets refused : List Packet) (old : StationView)
      → StationInvariant net inputs (moved_to node old.failures old.turns old) → node.kept ≡ old.node.kept
      → KeepsStation net inputs old
      (record { node = node; puts = false; grows = false; packets = packets; refused = refused })
  keeps_still node packets refused old keeps same = record {
    keeps = keeps;
    stays = λ none. same;
    same_node = rw same refl;
    ahead = rw same (behind_itself old.node.kept.permanent);
  }

  -- and what the packets of a plan are
  pub whole_plan : (old : StationView) (plan : Plan) → KeepsStation net inputs old plan
      → All (IsSendable net inputs) plan.packets → All (IsSendable net inputs) plan.refused
      → IsSoundPlan net inputs old plan
  whole_plan old plan keeps sendable refusable = record {
    keeps = keeps.keeps;
    stays = keeps.stays;
    same_node = keeps.same_node;
    ahead = keeps.ahead;
    sendable = sendable;
    refusable = refusable;
  }

  -- a node afterwards with the same record
  pub sound_becoming : (node : NodeView) (old : StationView)
      → StationInvariant net inputs (moved_to node old.failures old.turns old) → node.kept ≡ old.node.kept
      → IsSoundProspect net inputs old (becoming node)
  sound_becoming node old keeps same =
      whole_plan old _ (keeps_still node [] [] old keeps same) (All-nil (IsSendable net inputs))
      (All-nil (IsSendable net inputs))

  pub sound_if_due : (old : StationView) (due : Bool) (prospect : Prospect)
      → (due ≡ true → IsSoundProspect net inputs old prospect) → IsSoundProspect net inputs old (if_due due prospect)
  sound_if_due old true prospect sound = sound refl
  sound_if_due old false prospect sound = tt

  pub sound_unless_spent : (old : StationView) (looks less : Bool) (prospect : Prospect)
      → (less ≡ true → IsSoundProspect net inputs old prospect)
      → IsSoundProspect net inputs old (unless_spent looks less prospect)
  sound_unless_spent old looks true prospect sound = sound refl
  sound_unless_spent old looks false prospect sound = tt

  pub keeps_if_due : (old : StationView) (due : Bool) (prospect : Prospect)
      → (due ≡ true → ProspectKeeps net inputs old prospect) → ProspectKeeps net inputs old (if_due due prospect)
  keeps_if_due old true prospect keeps = keeps refl
  keeps_if_due old false prospect keeps = tt

  pub whole_prospect : (home : ℕ) (old : StationView) (prospect : Prospect) → ProspectKeeps net inputs old prospect
      → ProspectSays net inputs home prospect → IsSoundProspect net inputs old prospect
  whole_prospect home old (Planned plan) keeps says =
      whole_plan old plan keeps (all_sendable net inputs plan.packets says.sendable)
      (all_sendable net inputs plan.refused says.refusable)
  whole_prospect home old _ keeps says = tt

  -- ---- a job that is granted

  after_grant_is : (kept : RecordView) (version : ℕ) (job : Option JobView) (running : RunningView)
      → running_node kept version (granted job running) ≡ after_grant job (running_node kept version running)
  after_grant_is kept version job running = grind arith

  grant_keeps : (rooms : List ℕ) (old : StationView) → StationInvariant net inputs old
      → StationInvariant net inputs
      (moved_to (with_grant (node_job net inputs rooms old.node) old.node) old.failures old.turns old)
  grant_keeps rooms old inv = moved_keeps (with_grant job old.node) old.failures old.turns old inv.kept runs
    where
      job : Option JobView
      job = node_job net inputs rooms old.node

      runs : (run : RunningNode) → running_of (with_grant job old.node) ≡ Some run
          → RunsSoundly net inputs run (outputs_of old.outlets)
      runs run is =
          let before = ran old.node.kept old.node.version (granted job) old.node.mode run is in
          let node = running_node old.node.kept old.node.version before.0 in
          let sound = runs_at old inv before.0 before.1 in
          let next : next_job net inputs rooms node ≡ job =
          sym (ap (λ (m : ModeView). job_at net inputs rooms (running_in old.node.kept old.node.version m)) before.1) in
          rw (← before.2, after_grant_is old.node.kept old.node.version job before.0)
          (record {
            order = order_granted job node sound.order;
            sound = granted_sound net inputs (outputs_of old.outlets) rooms job node next sound.sound;
          })

  pub grant_sound : (rooms : List ℕ) (old : StationView) → StationInvariant net inputs old
      → IsSoundProspect net inputs old (grant_prospect (node_job net inputs rooms old.node) old.node)
  grant_sound rooms old inv = at (node_job net inputs rooms old.node) refl
    where
      at : (job : Option JobView) → node_job net inputs rooms old.node ≡ job
          → IsSoundProspect net inputs old (grant_prospect job old.node)
      at None is = tt
      at (Some job) is =
          sound_becoming (with_grant (Some job) old.node) old (rw (← is) (grant_keeps rooms old inv)) refl

  -- ---- a recovery

  epoch_kept : (old : StationView) → old.node.kept.epoch < MAX_COUNT → StationInvariant net inputs old
      → RecordIsSound net inputs (with_epoch old.node.kept) (outputs_of old.outlets)
  epoch_kept old below inv = record_epoch net inputs (outputs_of old.outlets) old.node.kept below inv.kept

  -- a node that restores its permanent image runs soundly
  pub restored_runs : (home version : ℕ) (kept : RecordView) (outputs : List OutputView) → kept.node ≡ home
      → kept.tentative ≡ None → RecordIsSound net inputs kept outputs
      → RunsSoundly net inputs (running_node kept version (restored_running net home kept)) outputs
  restored_runs home version kept outputs named free sound =
      rw (← named)
      (restarts_soundly net inputs outputs kept version (restored_running net kept.node kept).inboxes
      (restored_running net kept.node kept).outboxes (restored_begin net kept.node kept) free sound)

  restored_keeps : (home : ℕ) (old : StationView) → old.node.kept.node ≡ home → old.node.kept.epoch < MAX_COUNT
      → StationInvariant net inputs old
      → StationInvariant net inputs (moved_to (restored net home old.node) old.failures old.turns old)
  restored_keeps home old named below inv =
      moved_keeps (restored net home old.node) old.failures old.turns old (epoch_kept old below inv)
      (λ run is. at (with_epoch old.node.kept).tentative refl run is)
    where
      at : (o : Option Tentative) → (with_epoch old.node.kept).tentative ≡ o → (run : RunningNode)
          → running_in (with_epoch old.node.kept) old.node.version (restored_with net home (with_epoch old.node.kept) o)
          ≡ Some run → RunsSoundly net inputs run (outputs_of old.outlets)
      at (Some held) free run is = absurd (cc)
      at None free run is =
          let same : running_node (with_epoch old.node.kept) old.node.version
          (restored_running net home (with_epoch old.node.kept)) ≡ run = cc in
          rw (← same) (restored_runs home old.node.version (with_epoch old.node.kept) (outputs_of old.outlets) named free
          (epoch_kept old below inv))

  pub back_sound : (old : StationView) → old.node.kept.node ≡ old.number → old.node.kept.epoch < MAX_COUNT
      → StationInvariant net inputs old
      → IsSoundPlan net inputs old
      (record { node = restored net old.number old.node; puts = true; grows = false; packets = []; refused = [] })
  back_sound old named below inv = record {
    keeps = restored_keeps old.number old named below inv;
    stays = λ none. absurd (cc);
    same_node = refl;
    ahead = behind_itself old.node.kept.permanent;
    sendable = All-nil (IsSendable net inputs);
    refusable = All-nil (IsSendable net inputs);
  }

-- ---- however a plan comes out

module _ (net : Network) (inputs : List (List ℤ)) (old : StationView) where
  -- the record afterwards is the one that is put, or the one of before
  record_is : (plan : Plan) → IsSoundPlan net inputs old plan → plan.node.kept ≡ plan_record plan old.node.kept
  record_is plan sound = (let stays = sound.stays in grind (arith, stays))

  -- so of the next one is known what is known of a plan's
  pub next_record_node : (prospect : Prospect) → IsSoundProspect net inputs old prospect
      → (next_record prospect old.node.kept).node ≡ old.node.kept.node
  next_record_node (Planned plan) sound = rw (← record_is plan sound) sound.same_node
  next_record_node _ sound = refl

  pub next_record_ahead : (prospect : Prospect) → IsSoundProspect net inputs old prospect
      → IsBehind old.node.kept.permanent (next_record prospect old.node.kept).permanent
  next_record_ahead (Planned plan) sound = rw (← record_is plan sound) sound.ahead
  next_record_ahead _ sound = behind_itself old.node.kept.permanent

  -- the record that is kept in the end is the one of before or the next one
  carried_kept : (restart : ℕ) (plan : Plan) (outcome : Outcome) (node : NodeView) → IsSoundPlan net inputs old plan
      → IsCarriedOut restart plan old.node outcome node
      → (node.kept ≡ old.node.kept) ⊎ (node.kept ≡ plan_record plan old.node.kept)
  carried_kept restart plan came node sound step = (let put = record_is plan sound in grind arith)

  held_kept : (restart : ℕ) (looks : Bool) (outcome : Outcome) (node : NodeView)
      → IsHeldUp restart looks old.node outcome node → node.kept ≡ old.node.kept
  held_kept restart looks came node step = grind arith

  pub made_kept : (restart : ℕ) (prospect : Prospect) (outcome : Outcome) (node : NodeView)
      → IsSoundProspect net inputs old prospect → IsMade restart prospect old.node outcome node
      → (node.kept ≡ old.node.kept) ⊎ (node.kept ≡ next_record prospect old.node.kept)
  made_kept restart Undue outcome node sound step = inl (rw step.1 refl)
  made_kept restart (Exhausted looks) outcome node sound step = inl (held_kept restart looks outcome node step)
  made_kept restart (Planned plan) outcome node sound step = carried_kept restart plan outcome node sound step

  -- and the station is sound
  stays_so : (node : NodeView) (failures : ℕ) (turns : RoundTurns) → StationInvariant net inputs old → node ≡ old.node
      → StationInvariant net inputs (moved_to node failures turns old)
  stays_so node failures turns inv same =
      rw same (moved_keeps net inputs old.node failures turns old inv.kept inv.runs)

  carried_keeps : (restart : ℕ) (plan : Plan) (outcome : Outcome) (node : NodeView) (failures : ℕ) (turns : RoundTurns)
      → StationInvariant net inputs old → IsSoundPlan net inputs old plan
      → IsCarriedOut restart plan old.node outcome node → StationInvariant net inputs (moved_to node failures turns old)
  carried_keeps restart plan outcome.Made node failures turns inv sound step =
      rw step (moved_keeps net inputs plan.node failures turns old sound.keeps.kept sound.keeps.runs)
  carried_keeps restart plan (outcome.Refused TooLarge) node failures turns inv sound step =
      stays_so node failures turns inv step.1
  carried_keeps restart plan outcome.Failed node failures turns inv sound step =
      elim step.1 [
        | inl same ↦ rw same (down_keeps net inputs restart old.node failures turns old inv.kept)
        | inr same ↦ rw same
            (down_keeps net inputs restart (with_kept plan.node.kept old.node) failures turns old sound.keeps.kept)
      ]
  carried_keeps restart plan _ node failures turns inv sound step = absurd step

  held_keeps : (restart : ℕ) (looks : Bool) (outcome : Outcome) (node : NodeView) (failures : ℕ) (turns : RoundTurns)
      → StationInvariant net inputs old → IsHeldUp restart looks old.node outcome node
      → StationInvariant net inputs (moved_to node failures turns old)
  held_keeps restart looks (outcome.Refused Spent) node failures turns inv step = stays_so node failures turns inv step
  held_keeps restart looks outcome.Failed node failures turns inv step =
      rw step.1 (down_keeps net inputs restart old.node failures turns old inv.kept)
  held_keeps restart looks _ node failures turns inv step = absurd step

  pub made_keeps : (restart : ℕ) (prospect : Prospect) (outcome : Outcome) (node : NodeView) (failures : ℕ)
      (turns : RoundTurns) → StationInvariant net inputs old → IsSoundProspect net inputs old prospect
      → IsMade restart prospect old.node outcome node → StationInvariant net inputs (moved_to node failures turns old)
  made_keeps restart Undue outcome node failures turns inv sound step = stays_so node failures turns inv step.1
  made_keeps restart (Exhausted looks) outcome node failures turns inv sound step =
      held_keeps restart looks outcome node failures turns inv step
  made_keeps restart (Planned plan) outcome node failures turns inv sound step =
      carried_keeps restart plan outcome node failures turns inv sound step
