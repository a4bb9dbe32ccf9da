-- Which job is out behind an event of a world: it stays, or is lost with the node's epoch or with its running; or a grant gives it
-- out, or an install takes it in.
use Rattle.std.proofs.Common.{◌≡◌, ◌⊎◌, inl, inr, ℕ, ◌+◌, Bool, true, false, cond, not, List, []}
use Rattle.std.proofs.Common.{Option, Some, None, refl, sym, ap, subst, arith}
use Rattle.std.specs.Prelude.{nat_lt}
use Rattle.protocol.specs.Node.Common.{Network, Body, Need, Packet, MAX_COUNT, highest_seen, with_confirmed}
use Rattle.protocol.specs.Node.Common.{with_epoch, with_permanent, without_tentative, RecordView, Tentative}
use Rattle.protocol.specs.Node.Common.{AskAnswer, Silent, CoveredBefore, TookBefore, TakesNow, Declines}
use Rattle.protocol.specs.Node.Common.{answer_to_ask, holds, kept_then, beginning, begun, collecting, live_asks}
use Rattle.protocol.specs.Node.Common.{live_in, may_start, start_prospect}
use Rattle.protocol.specs.Node.Common.{Ignores, Joins, GivesUp, answer_to_took, hearing_covered}
use Rattle.protocol.specs.Node.Common.{hearing, packet_for, PassesOver, Notes}
use Rattle.protocol.specs.Node.Common.{GoesBack, noting_undone, set_back_to}
use Rattle.protocol.specs.Node.Common.{hear_prospect, LiveView, crashed, is_down, is_running}
use Rattle.protocol.specs.Node.Common.{with_kept, NodeView, ModeView, Down, InDoubt, Runs, RunningView}
use Rattle.protocol.specs.Node.Common.{on_mode, on_running, running_in, Plan, Prospect, Undue, Exhausted, Planned}
use Rattle.protocol.specs.Node.Common.{IsCarriedOut, IsMade, if_due, becoming, putting, unless_spent}
use Rattle.protocol.specs.Node.Common.{recover_prospect, restored, own_at, cut_at, after_verdict}
use Rattle.protocol.specs.Node.Common.{decide_prospect, may_decide}
use Rattle.protocol.specs.Node.Common.{mode_then}
use Rattle.datagram.specs.declared.packet.Body.TheVariants.{Data, Ack, Kept, Ask, Took, Covered, Refused, Query, Commit}
use Rattle.datagram.specs.declared.packet.Body.TheVariants.{Ended, Settled, Undone}
use Rattle.protocol.specs.World.Common.{names, StationView, deliver_plan}
use Rattle.protocol.specs.Node.Answering.{ask_prospect}
use Rattle.protocol.specs.Node.Collecting.{TookAnswer, give_up_prospect}
use Rattle.protocol.specs.Node.Collecting.{joining, loses, took_by}
use Rattle.protocol.specs.Node.GoingBack.{UndoneAnswer, answer_to_undone, gone_back}
use Rattle.protocol.specs.Node.GoingBack.{undone_by}
use Rattle.protocol.specs.Node.Hearing.{told_prospect}
use Rattle.protocol.specs.Node.Plans.{IsHeldUp}
use Rattle.protocol.specs.Node.Recovering.{crash_prospect, restored_with}
use Rattle.protocol.specs.Node.Starting.{with_own_now}
use Rattle.protocol.specs.Node.Telling.{send_prospect}
use Rattle.protocol.specs.Node.Verdicts.{decided_now}
use Rattle.protocol.specs.declared.outcome.Outcome.{Outcome}
use Rattle.protocol.specs.declared.outcome.Outcome.TheVariants as outcome
use Rattle.protocol.specs.declared.outcome.Refusal.TheVariants.{TooLarge, Spent}
use Rattle.replay.specs.Out.{Look, look_of, out_in}

-- ---- one node

-- all stays that is looked at; or no job is out any more, and none was, or the node doesn't run, or not in the same epoch
abbrev pub Stays : Look → Look → Type 0
Stays old new = (new.out ≡ old.out) × (new.runs ≡ old.runs) × (new.epoch ≡ old.epoch)

abbrev pub Loses : Look → Look → Type 0
Loses old new = (new.out ≡ None) × ((old.out ≡ None) ⊎ ((new.runs ≡ false) ⊎ ¬ (new.epoch ≡ old.epoch)))

abbrev pub Goes : Look → Look → Type 0
Goes old new = Stays old new ⊎ Loses old new

abbrev NodeGoes : NodeView → NodeView → Type 0
NodeGoes old new = Goes (look_of old) (look_of new)

-- a node is as it was
pub goes_same : (old new : NodeView) → new ≡ old → NodeGoes old new
goes_same old new same = inl (
  ap (λ (n : NodeView). out_in n.mode) same,
  ap (λ (n : NodeView). is_running n.mode) same,
  ap (λ (n : NodeView). n.kept.epoch) same,
)

-- it went down
goes_down : (restart : ℕ) (old new other : NodeView) → new ≡ crashed restart other → NodeGoes old new
goes_down restart old new other same =
    inr (ap (λ (n : NodeView). out_in n.mode) same, inr (inl (ap (λ (n : NodeView). is_running n.mode) same)))

module _ (change : RunningView → RunningView) (keeps : (r : RunningView) → (change r).out ≡ r.out) where
  out_stays : (mode : ModeView) → out_in (on_mode change mode) ≡ out_in mode
  out_stays Down = refl
  out_stays InDoubt = refl
  out_stays (Runs running) = keeps running

  runs_stays : (mode : ModeView) → is_running (on_mode change mode) ≡ is_running mode
  runs_stays Down = refl
  runs_stays InDoubt = refl
  runs_stays (Runs running) = refl

  -- what it has in memory changes, and no job's being out
  pub remembers : (node : NodeView) → NodeGoes node (on_running change node)
  remembers node = inl (out_stays node.mode, runs_stays node.mode, refl)

  -- and its record, but for the epoch
  remembers_with : (kept : RecordView) (node : NodeView) → kept.epoch ≡ node.kept.epoch
      → NodeGoes node (with_kept kept (on_running change node))
  remembers_with kept node same = inl (out_stays node.mode, runs_stays node.mode, same)

-- ---- plans

abbrev PlanGoes : NodeView → Prospect → Type 0
PlanGoes node Undue = Unit {0}
PlanGoes node (Exhausted looks) = Unit {0}
PlanGoes node (Planned plan) = NodeGoes node plan.node

due_goes : (due : Bool) (node : NodeView) (prospect : Prospect) → PlanGoes node prospect
    → PlanGoes node (if_due due prospect)
due_goes true node prospect goes = goes
due_goes false node prospect goes = tt

spent_goes : (looks less : Bool) (node : NodeView) (prospect : Prospect) → PlanGoes node prospect
    → PlanGoes node (unless_spent looks less prospect)
spent_goes looks true node prospect goes = goes
spent_goes looks false node prospect goes = tt

either_goes : (b : Bool) (node : NodeView) (one other : Prospect) → PlanGoes node one → PlanGoes node other
    → PlanGoes node (cond b one other)
either_goes true node one other first second = first
either_goes false node one other first second = second

-- ---- what it hears

kept_epoch : (x n : ℕ) (answer : AskAnswer) (mode : ModeView) (kept : RecordView)
    → (kept_then x n answer mode kept).epoch ≡ kept.epoch
kept_epoch x n Silent mode kept = refl
kept_epoch x n CoveredBefore mode kept = refl
kept_epoch x n TookBefore mode kept = refl
kept_epoch x n TakesNow Down kept = refl
kept_epoch x n TakesNow InDoubt kept = refl
kept_epoch x n TakesNow (Runs running) kept = refl
kept_epoch x n (Declines reason) mode kept = refl

ask_goes : (net : Network) (home x n c m : ℕ) (node : NodeView) → PlanGoes node (ask_prospect net home x n c m node)
ask_goes net home x n c m node =
    inl (refl, refl, kept_epoch x n (answer_to_ask x n c m node.kept node.mode) node.mode node.kept)

gives_up_goes : (node : NodeView) → PlanGoes node (give_up_prospect node)
gives_up_goes node = remembers_with (collecting None) (λ r. refl) (without_tentative node.kept) node refl

took_goes : (net : Network) (home p c : ℕ) (needs : List Need) (answer : TookAnswer) (node : NodeView)
    → PlanGoes node (took_by net home p c needs answer node)
took_goes net home p c needs Ignores node = goes_same node node refl
took_goes net home p c needs Joins node = remembers (joining net home p c needs) (λ r. refl) node
took_goes net home p c needs GivesUp node = gives_up_goes node

verdict_goes : (net : Network) (home : ℕ) (kept : RecordView) (node : NodeView) → kept.epoch ≡ node.kept.epoch
    → NodeGoes node (after_verdict net home kept node)
verdict_goes net home kept node same = at node.mode
  where
    at : (mode : ModeView)
        → Goes (record { out = out_in mode; runs = is_running mode; epoch = node.kept.epoch })
        (record {
          out = out_in (mode_then net home kept mode);
          runs = is_running (mode_then net home kept mode);
          epoch = kept.epoch;
        })
    at Down = inl (refl, refl, same)
    at InDoubt = inr (refl, inl refl)
    at (Runs running) = inl (refl, refl, same)

-- a node that goes back is in its next epoch
next_epoch : (n : ℕ) → ¬ (n + 1 ≡ n)
next_epoch n same = omega (arith, same)

back_goes : (channel epoch : ℕ) (node : NodeView) → NodeGoes node (gone_back channel epoch node)
back_goes channel epoch node = inr (at node.mode, inr (inr (next_epoch node.kept.epoch)))
  where
    at : (mode : ModeView) → out_in (on_mode (set_back_to (with_epoch node.kept) channel epoch) mode) ≡ None
    at Down = refl
    at InDoubt = refl
    at (Runs running) = refl

undone_goes : (channel epoch : ℕ) (answer : UndoneAnswer) (node : NodeView)
    → PlanGoes node (undone_by channel epoch answer node)
undone_goes channel epoch PassesOver node = goes_same node node refl
undone_goes channel epoch Notes node = remembers (noting_undone channel epoch) (λ r. refl) node
undone_goes channel epoch GoesBack node = back_goes channel epoch node

hear_goes : (net : Network) (home from : ℕ) (body : Body) (node : NodeView)
    → PlanGoes node (hear_prospect net home from body node)
hear_goes net home from (Data channel position item) node =
    remembers (hearing (Data channel position item)) (λ r. refl) node
hear_goes net home from (Ack channel epoch next) node = remembers (hearing (Ack channel epoch next)) (λ r. refl) node
hear_goes net home from (Kept channel count) node = remembers (cut_at channel count) (λ r. refl) node
hear_goes net home from (Ask n c m) node = ask_goes net home from n c m node
hear_goes net home from (Took n c m needs) node =
    took_goes net home from c needs (answer_to_took net home n c needs node.kept (live_in node.mode)) node
hear_goes net home from (Covered n c m) node = remembers (hearing_covered n c) (λ r. refl) node
hear_goes net home from (Refused n c reason) node =
    either_goes (loses home n node) node (give_up_prospect node) _ (gives_up_goes node) (goes_same node node refl)
hear_goes net home from (Query n) node = goes_same node node refl
hear_goes net home from (Commit n) node =
    either_goes (holds from n node.kept.tentative) node _ _
    (verdict_goes net home (with_permanent node.kept) node refl) (goes_same node node refl)
hear_goes net home from (Ended n) node =
    either_goes (holds from n node.kept.tentative) node _ _
    (verdict_goes net home (without_tentative node.kept) node refl) (goes_same node node refl)
hear_goes net home from (Settled n) node =
    either_goes (names node.kept.decisions n from) node (putting false (with_kept (with_confirmed n from node.kept) node)) (becoming node)
    (inl (refl, refl, refl)) (goes_same node node refl)
hear_goes net home from (Undone channel epoch sent) node =
    undone_goes channel epoch (answer_to_undone channel epoch sent node.kept node.mode) node

told_goes : (net : Network) (home : ℕ) (packet : Option Packet) (node : NodeView)
    → PlanGoes node (told_prospect net home packet node)
told_goes net home None node = goes_same node node refl
told_goes net home (Some packet) node = hear_goes net home packet.from packet.body node

-- ---- deeds

pub deliver_goes : (net : Network) (place : ℕ) (bytes : Option (List ℕ)) (station : StationView)
    → PlanGoes station.node (deliver_plan net place bytes station).prospect
deliver_goes net place None station = tt
deliver_goes net place (Some bytes) station =
    due_goes (not (is_down station.node.mode)) station.node
    (told_prospect net station.number (packet_for net station.number bytes) station.node)
    (told_goes net station.number (packet_for net station.number bytes) station.node)

pub send_goes : (net : Network) (home : ℕ) (node : NodeView) → PlanGoes node (send_prospect net home node)
send_goes net home node = due_goes (not (is_down node.mode)) node _ (goes_same node node refl)

-- what a start comes to where it may be made
abbrev begins : Network → ℕ → NodeView → Prospect
begins net home node =
    Planned (record {
      node = begun net home node;
      puts = true;
      grows = true;
      packets = live_asks net home (live_in (begun net home node).mode);
      refused = [];
    })

own_epoch : (home : ℕ) (node : NodeView) → (with_own_now home node).epoch ≡ node.kept.epoch
own_epoch home node = at node.mode
  where
    at : (mode : ModeView) → (own_at home node.kept (running_in node.kept node.version mode)).epoch ≡ node.kept.epoch
    at Down = refl
    at InDoubt = refl
    at (Runs running) = refl

pub start_goes : (net : Network) (home : ℕ) (node : NodeView) → PlanGoes node (start_prospect net home node)
start_goes net home node =
    due_goes (may_start node) node
    (unless_spent false (nat_lt (highest_seen home node.kept) MAX_COUNT) (begins net home node))
    (spent_goes false (nat_lt (highest_seen home node.kept) MAX_COUNT) node (begins net home node)
    (remembers_with (beginning net home node.kept) (λ r. refl) (with_own_now home node) node (own_epoch home node)))

decided_epoch : (live : Option LiveView) (kept : RecordView) → (decided_now live kept).epoch ≡ kept.epoch
decided_epoch None kept = refl
decided_epoch (Some live) kept = refl

pub decide_goes : (home : ℕ) (node : NodeView) → PlanGoes node (decide_prospect home node)
decide_goes home node =
    due_goes (may_decide home node.kept (live_in node.mode)) node _
    (remembers_with (collecting None) (λ r. refl) (decided_now (live_in node.mode) node.kept) node
    (decided_epoch (live_in node.mode) node.kept))

pub crash_goes : (restart : ℕ) (node : NodeView) → PlanGoes node (crash_prospect restart node)
crash_goes restart node =
    due_goes (not (is_down node.mode)) node _ (goes_down restart node (crashed restart node) node refl)

none_restored : (net : Network) (home : ℕ) (kept : RecordView) (held : Option Tentative)
    → out_in (restored_with net home kept held) ≡ None
none_restored net home kept None = refl
none_restored net home kept (Some held) = refl

pub recover_goes : (net : Network) (home : ℕ) (node : NodeView) → PlanGoes node (recover_prospect net home node)
recover_goes net home node =
    due_goes (is_down node.mode) node
    (unless_spent true (nat_lt node.kept.epoch MAX_COUNT) (putting false (restored net home node)))
    (spent_goes true (nat_lt node.kept.epoch MAX_COUNT) node (putting false (restored net home node))
    (inr (
      none_restored net home (with_epoch node.kept) (with_epoch node.kept).tentative,
      inr (inr (next_epoch node.kept.epoch)),
    )))

-- ---- how a plan comes out

failed_goes : (restart : ℕ) (next : RecordView) (old new : NodeView)
    → (new ≡ crashed restart old) ⊎ (new ≡ crashed restart (with_kept next old)) → NodeGoes old new
failed_goes restart next old new (inl same) = goes_down restart old new old same
failed_goes restart next old new (inr same) = goes_down restart old new (with_kept next old) same

held_goes : (restart : ℕ) (looks : Bool) (old : NodeView) (came : Outcome) (new : NodeView)
    → IsHeldUp restart looks old came new → NodeGoes old new
held_goes restart looks old outcome.NotDue new step = absurd step
held_goes restart looks old outcome.Made new step = absurd step
held_goes restart looks old (outcome.Refused TooLarge) new step = absurd step
held_goes restart looks old (outcome.Refused Spent) new step = goes_same old new step
held_goes restart looks old outcome.Failed new step = goes_down restart old new old step.1

out_goes : (restart : ℕ) (plan : Plan) (old : NodeView) (came : Outcome) (new : NodeView) → NodeGoes old plan.node
    → IsCarriedOut restart plan old came new → NodeGoes old new
out_goes restart plan old outcome.NotDue new goes step = absurd step
out_goes restart plan old outcome.Made new goes step = subst (NodeGoes old) (sym step) goes
out_goes restart plan old (outcome.Refused TooLarge) new goes step = goes_same old new step.1
out_goes restart plan old (outcome.Refused Spent) new goes step = absurd step
out_goes restart plan old outcome.Failed new goes step = failed_goes restart plan.node.kept old new step.1

pub made_goes : (restart : ℕ) (prospect : Prospect) (old : NodeView) (came : Outcome) (new : NodeView)
    → PlanGoes old prospect → IsMade restart prospect old came new → NodeGoes old new
made_goes restart Undue old came new goes step = goes_same old new step.1
made_goes restart (Exhausted looks) old came new goes step = held_goes restart looks old came new step
made_goes restart (Planned plan) old came new goes step = out_goes restart plan old came new goes step
