-- What an event makes of a sound station is sound: its node takes an image, makes one permanent, drops one, or changes
-- what it has in memory.
use Rattle.std.proofs.Common.{◌≡◌, ◌⊎◌, inl, inr, ℕ, zero, suc, ◌+◌, ◌<◌, ◌≤◌, Bool, true, false, List, ℤ, length}
use Rattle.std.proofs.Common.{Option, Some, None, refl, arith}
use Rattle.std.proofs.lemmas.Bool.{eqb-true}
use Rattle.ckpt_codec.specs.SizeLaws.{IsRecordWithin, within_confirmed, within_without_tentative}
use Rattle.protocol.specs.Node.Common.{MAX_RETAINED_ITEMS, Packet, Network, IsValid, MAX_COUNT, DecisionView}
use Rattle.protocol.specs.Node.Common.{highest_seen, with_confirmed, with_decision, with_tentative, without_tentative}
use Rattle.protocol.specs.Node.Common.{RecordView, Tentative, MAX_DECISIONS, beginning, begun, live_in, may_start}
use Rattle.protocol.specs.Node.Common.{collecting, numbers_where, LiveView, is_running, with_kept, NodeView, ModeView}
use Rattle.protocol.specs.Node.Common.{Runs, RunningView, RunningNode, running_node, running_in, on_mode, on_running}
use Rattle.protocol.specs.Node.Common.{IsBehind, after_verdict, concluded, may_decide, mode_then, participants_of}
use Rattle.ckpt_codec.specs.Common.{confirmed}
use Rattle.protocol.specs.World.Common.{has_node, IsJoined, outputs_of, RunsSoundly, StationInvariant, RecordIsSound}
use Rattle.protocol.specs.World.Common.{StationView, moved_to}
use Rattle.protocol.specs.Node.Collecting.{given_up}
use Rattle.protocol.specs.Node.Recovering.{restored_running}
use Rattle.protocol.specs.Node.Starting.{with_own, with_own_now}
use Rattle.protocol_laws.specs.Node.SizeLaws.{decided_within}
use Rattle.protocol_laws.specs.Node.StepLaws.{lessened}
use Rattle.protocol_laws.specs.World.BoundLaws.{taken_bounded}
use Rattle.protocol_laws.specs.World.OrderLaws.{behind_itself, order_decided, order_less, order_taken}
use Rattle.protocol_laws.specs.World.PlanLaws.{KeepsStation, first_true, moved_keeps, restored_runs, runs_at, runs_now}
use Rattle.protocol_laws.specs.World.RecordLaws.{current_sound, last_more, record_decided, record_less, record_of}
use Rattle.protocol_laws.specs.World.RecordLaws.{record_taken}
use Rattle.protocol_laws.specs.World.SoundLaws.{decided_sound, less_sound, taken_sound}

-- ---- modes

-- a node that runs after a change ran before it
pub changed_from : (change : RunningView → RunningView) (mode : ModeView) (running : RunningView)
    → on_mode change mode ≡ Runs running → (before : RunningView) × (mode ≡ Runs before) × (change before ≡ running)
changed_from change mode running is = grind arith

-- one that runs after a verdict ran before it, or was in doubt, and has restored its permanent image
pub then_from : (net : Network) (home : ℕ) (kept : RecordView) (mode : ModeView) (running : RunningView)
    → mode_then net home kept mode ≡ Runs running
    → (mode ≡ Runs running) ⊎ (restored_running net home kept ≡ running)
then_from net home kept mode running is = grind arith

-- of so many nodes no more than so many took part
where_few : (test : ℕ → Bool) (first count : ℕ) → length (numbers_where test first count) ≤ count
where_few test first zero = omega arith
where_few test first (suc count) = grind (arith, where_few test (suc first) count)

-- Where a checkpoint may be decided there is room for the decision, since the image that is held is the node's own.
pub decision_room : (net : Network) (old : StationView) → IsJoined net old
    → may_decide old.number old.node.kept (live_in old.node.mode) ≡ true
    → length old.node.kept.decisions < MAX_DECISIONS
decision_room net old joined may =
    let own = held_own (live_in old.node.mode) may in joined.kept.room own.0 own.1 own.2
  where
    held_own : (o : Option LiveView) → may_decide old.number old.node.kept o ≡ true
        → (held : Tentative) × (old.node.kept.tentative ≡ Some held) × (held.initiator ≡ old.number)
    held_own o may = grind (arith, eqb-true)

-- And it names other nodes.
pub decision_others : (net : Network) (old : StationView) → IsJoined net old → (live : LiveView)
    → live_in old.node.mode ≡ Some live → has_node old.number live.takers ≡ false
decision_others net old joined live is =
    let others = (joined.live live is).takers old.number in grind (arith, others)

module _ (net : Network) (inputs : List (List ℤ)) (old : StationView) (inv : StationInvariant net inputs old) where
  -- a station with this node, whose record is sound and which runs soundly if it runs
  pub node_keeps : (node : NodeView) → RecordIsSound net inputs node.kept (outputs_of old.outlets)
      → ((running : RunningView) → node.mode ≡ Runs running
      → RunsSoundly net inputs (running_node node.kept node.version running) (outputs_of old.outlets))
      → StationInvariant net inputs (moved_to node old.failures old.turns old)
  node_keeps node kept runs =
      moved_keeps net inputs node old.failures old.turns old kept (λ run is.
      let now = running_from node.mode run is in rw (← now.2) (runs now.0 now.1))
    where
      running_from : (mode : ModeView) (run : RunningNode) → running_in node.kept node.version mode ≡ Some run
          → (running : RunningView) × (mode ≡ Runs running) × (running_node node.kept node.version running ≡ run)
      running_from mode run is = grind arith

  -- a plan that puts such a record
  puts : {node : NodeView} {grows : Bool} {packets refused : List Packet}
      → RecordIsSound net inputs node.kept (outputs_of old.outlets)
      → ((running : RunningView) → node.mode ≡ Runs running
      → RunsSoundly net inputs (running_node node.kept node.version running) (outputs_of old.outlets))
      → node.kept.node ≡ old.node.kept.node → IsBehind old.node.kept.permanent node.kept.permanent
      → KeepsStation net inputs old
      (record { node = node; puts = true; grows = grows; packets = packets; refused = refused })
  puts kept runs same ahead = record {
    keeps = node_keeps _ kept runs;
    stays = λ none. absurd (cc);
    same_node = same;
    ahead = ahead;
  }

  -- what runs with this record runs soundly
  abbrev RunsWith : RecordView → RunningView → Type 0
  RunsWith kept running =
      RunsSoundly net inputs (running_node kept old.node.version running) (outputs_of old.outlets)

  -- ---- a node that runs

  module _ (running : RunningView) (is : old.node.mode ≡ Runs running) where
    was : RunsWith old.node.kept running
    was = runs_at net inputs old inv running is

    -- it takes an image of what it has now, of whatever instance
    taken_runs : (x n : ℕ) → RunsWith (with_tentative x n running.current old.node.kept) running
    taken_runs x n = record {
      order = order_taken x n old.node.kept running.current was.order;
      sound = taken_sound net inputs (outputs_of old.outlets) x n
          (running_node old.node.kept old.node.version running) was.sound;
    }

    taken_record : IsValid net → (x n : ℕ)
        → RecordIsSound net inputs (with_tentative x n running.current old.node.kept) (outputs_of old.outlets)
    taken_record valid x n =
        record_of net inputs (outputs_of old.outlets)
        (running_node (with_tentative x n running.current old.node.kept) old.node.version running)
        inv.kept.epoch (taken_bounded net inputs valid (outputs_of old.outlets) x n
        (running_node old.node.kept old.node.version running) was.sound inv.kept.bounded) inv.kept.permanent
        (record_taken net inputs (outputs_of old.outlets) x n old.node.kept running.current
        (current_sound net inputs (outputs_of old.outlets) (running_node old.node.kept old.node.version running)
        was.sound)) (taken_runs x n).order (taken_runs x n).sound

    -- its tentative image becomes permanent
    decided_runs : (number : ℕ) (nodes : List ℕ) → RunsWith (with_decision number nodes old.node.kept) running
    decided_runs number nodes = record {
      order = order_decided number nodes old.node.kept running.current was.order;
      sound = decided_sound net inputs (outputs_of old.outlets) number nodes
          (running_node old.node.kept old.node.version running)
          (last_more net inputs (outputs_of old.outlets) old.node.kept inv.kept old.node.kept.tentative refl)
          was.sound;
    }

    -- or stays, or is dropped
    less_runs : (epoch : ℕ) (decisions : List DecisionView) (held : Option Tentative)
        → ((t : Tentative) → held ≡ Some t → old.node.kept.tentative ≡ Some t)
        → RunsWith (lessened epoch decisions held old.node.kept) running
    less_runs epoch decisions held still = record {
      order = order_less epoch decisions held old.node.kept running.current still was.order;
      sound = less_sound net inputs (outputs_of old.outlets) epoch decisions held
          (running_node old.node.kept old.node.version running) still was.sound;
    }

  -- ---- an image is taken

  -- under whatever instance, by a node that runs, and in this mode runs as it ran
  pub taken_keeps : IsValid net → (x n : ℕ) (running : RunningView) → old.node.mode ≡ Runs running → (mode : ModeView)
      → ((later : RunningView) → mode ≡ Runs later
      → running_node (with_tentative x n running.current old.node.kept) old.node.version running
      ≡ running_node (with_tentative x n running.current old.node.kept) old.node.version later)
      → (packets refused : List Packet)
      → KeepsStation net inputs old (record {
        node = record old.node { kept = with_tentative x n running.current old.node.kept; mode = mode };
        puts = true;
        grows = true;
        packets = packets;
        refused = refused;
      })
  taken_keeps valid x n running is mode ran packets refused =
      puts (taken_record running is valid x n) (λ later now. rw (← ran later now) (taken_runs running is x n)) refl
      (behind_itself old.node.kept.permanent)

  pub runs_same : (a b : RunningView) → old.node.mode ≡ Runs a → old.node.mode ≡ Runs b → a ≡ b
  runs_same a b one other = cc

  -- ---- one becomes permanent, or is dropped

  module _ (number : ℕ) (nodes : List ℕ)
      (bounded : IsRecordWithin MAX_RETAINED_ITEMS (with_decision number nodes old.node.kept)) where
    decided_record : RecordIsSound net inputs (with_decision number nodes old.node.kept) (outputs_of old.outlets)
    decided_record = record_decided net inputs (outputs_of old.outlets) number nodes old.node.kept bounded inv.kept

    decided_ahead : IsBehind old.node.kept.permanent (with_decision number nodes old.node.kept).permanent
    decided_ahead = last_more net inputs (outputs_of old.outlets) old.node.kept inv.kept old.node.kept.tentative refl

    -- by a node that collects nothing more
    pub decision_keeps : (packets refused : List Packet)
        → KeepsStation net inputs old (record {
          node = with_kept (with_decision number nodes old.node.kept) (on_running (collecting None) old.node);
          puts = true;
          grows = false;
          packets = packets;
          refused = refused;
        })
    decision_keeps packets refused =
        puts decided_record (λ later now.
        let before = changed_from (collecting None) old.node.mode later now in
        rw (← before.2) (decided_runs before.0 before.1 number nodes)) refl decided_ahead

    -- by a node that hears the verdict
    pub verdict_keeps : old.node.kept.node ≡ old.number → (packets refused : List Packet)
        → KeepsStation net inputs old (record {
          node = after_verdict net old.number (with_decision number nodes old.node.kept) old.node;
          puts = true;
          grows = false;
          packets = packets;
          refused = refused;
        })
    verdict_keeps named packets refused =
        puts decided_record (λ later now.
        elim (then_from net old.number (with_decision number nodes old.node.kept) old.node.mode later now) [
          | inl ran ↦ decided_runs later ran number nodes
          | inr restored ↦ rw (← restored)
              (restored_runs net inputs old.number old.node.version (with_decision number nodes old.node.kept)
              (outputs_of old.outlets) named refl decided_record)
        ]) refl decided_ahead

  module _ (epoch : ℕ) (decisions : List DecisionView) (held : Option Tentative)
      (still : (t : Tentative) → held ≡ Some t → old.node.kept.tentative ≡ Some t) (few : epoch ≤ MAX_COUNT)
      (bounded : IsRecordWithin MAX_RETAINED_ITEMS (lessened epoch decisions held old.node.kept)) where
    less_record : RecordIsSound net inputs (lessened epoch decisions held old.node.kept) (outputs_of old.outlets)
    less_record =
        record_less net inputs (outputs_of old.outlets) epoch decisions held old.node.kept still few bounded inv.kept

    -- with a node in this mode, in which it runs soundly
    pub less_keeps : (mode : ModeView)
        → ((running : RunningView) → mode ≡ Runs running
        → RunsSoundly net inputs
        (running_node (lessened epoch decisions held old.node.kept) old.node.version running)
        (outputs_of old.outlets))
        → (packets refused : List Packet)
        → KeepsStation net inputs old (record {
          node = record old.node { kept = lessened epoch decisions held old.node.kept; mode = mode };
          puts = true;
          grows = false;
          packets = packets;
          refused = refused;
        })
    less_keeps mode soundly packets refused =
        puts less_record soundly refl (behind_itself old.node.kept.permanent)

  -- the tentative image is dropped, by a node that gives up, or one that hears the verdict
  dropped : (t : Tentative) → None ≡ Some t → old.node.kept.tentative ≡ Some t
  dropped t is = absurd (cc)

  -- the record without it
  over_record : RecordIsSound net inputs (without_tentative old.node.kept) (outputs_of old.outlets)
  over_record =
      less_record old.node.kept.epoch old.node.kept.decisions None dropped inv.kept.epoch
      (within_without_tentative MAX_RETAINED_ITEMS old.node.kept inv.kept.bounded)

  -- with which the node runs as it ran
  over_runs : (running : RunningView) → old.node.mode ≡ Runs running → RunsWith (without_tentative old.node.kept) running
  over_runs running is = less_runs running is old.node.kept.epoch old.node.kept.decisions None dropped

  pub gives_up_keeps : (packets refused : List Packet)
      → KeepsStation net inputs old
      (record { node = given_up old.node; puts = true; grows = false; packets = packets; refused = refused })
  gives_up_keeps packets refused =
      puts over_record (λ later now.
      let before = changed_from (collecting None) old.node.mode later now in
      rw (← before.2) (over_runs before.0 before.1)) refl (behind_itself old.node.kept.permanent)

  pub over_keeps : old.node.kept.node ≡ old.number → (packets refused : List Packet)
      → KeepsStation net inputs old
      (record {
        node = after_verdict net old.number (without_tentative old.node.kept) old.node;
        puts = true;
        grows = false;
        packets = packets;
        refused = refused;
      })
  over_keeps named packets refused =
      puts over_record (λ later now.
      elim (then_from net old.number (without_tentative old.node.kept) old.node.mode later now) [
        | inl ran ↦ over_runs later ran
        | inr restored ↦ rw (← restored)
            (restored_runs net inputs old.number old.node.version (without_tentative old.node.kept)
            (outputs_of old.outlets) named refl over_record)
      ]) refl (behind_itself old.node.kept.permanent)

  -- a decision is confirmed
  pub confirmed_keeps : (n p : ℕ) (packets refused : List Packet)
      → KeepsStation net inputs old
      (record {
        node = with_kept (with_confirmed n p old.node.kept) old.node;
        puts = true;
        grows = false;
        packets = packets;
        refused = refused;
      })
  confirmed_keeps n p packets refused =
      less_keeps old.node.kept.epoch (confirmed n p old.node.kept.decisions) old.node.kept.tentative (λ t is. is)
      inv.kept.epoch (within_confirmed MAX_RETAINED_ITEMS old.node.kept inv.kept.bounded n p) old.node.mode
      (λ later now. less_runs later now old.node.kept.epoch (confirmed n p old.node.kept.decisions)
      old.node.kept.tentative (λ t is. is)) packets refused

  -- ---- a start, and a decision

  -- the record of a node that runs with what it has now as its own image
  own_is : (running : RunningView) → old.node.mode ≡ Runs running
      → with_own_now old.number old.node ≡ with_own old.number running.current old.node.kept
  own_is running is = rw is refl

  -- and what it has in memory once it began
  then_is : (running later : RunningView) → old.node.mode ≡ Runs running
      → on_mode (beginning net old.number old.node.kept) old.node.mode ≡ Runs later
      → beginning net old.number old.node.kept running ≡ later
  then_is running later was is = cc

  pub start_keeps : IsValid net → may_start old.node ≡ true → (packets refused : List Packet)
      → KeepsStation net inputs old
      (record {
        node = begun net old.number old.node;
        puts = true;
        grows = true;
        packets = packets;
        refused = refused;
      })
  start_keeps valid due packets refused =
      let now = runs_now old.node.mode (first_true (is_running old.node.mode) _ due) in
      rw (own_is now.0 now.1)
      (taken_keeps valid old.number (highest_seen old.number old.node.kept + 1) now.0 now.1
      (on_mode (beginning net old.number old.node.kept) old.node.mode) (λ later is.
      rw (← then_is now.0 later now.1 is) refl) packets refused)

  pub decide_keeps : IsJoined net old → may_decide old.number old.node.kept (live_in old.node.mode) ≡ true
      → (packets refused : List Packet)
      → KeepsStation net inputs old
      (record { node = concluded old.node; puts = true; grows = false; packets = packets; refused = refused })
  decide_keeps joined due packets refused =
      let some = decided (live_in old.node.mode) due in
      let nodes = participants_of (length old.node.kept.highest) some.0.takers in
      let few = where_few (λ (p : ℕ). has_node p some.0.takers) 0 (length old.node.kept.highest) in
      let most = inv.kept.bounded.nodes in
      rw some.1 (decision_keeps some.0.number nodes
      (decided_within some.0.number nodes old.node.kept (omega (arith, few, most)) (decision_room net old joined due)
      inv.kept.bounded) packets refused)
    where
      decided : (o : Option LiveView) → may_decide old.number old.node.kept o ≡ true → (live : LiveView) × (o ≡ Some live)
      decided o may = grind arith
