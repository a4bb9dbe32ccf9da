-- A checkpoint of several nodes ends: it is decided and made permanent, or dropped, and whoever took part confirms it.
use Rattle.std.specs.Prelude.{ℕ, nat_le, Bool, true, false, ◌&&◌, ◌||◌, not, if◌then◌else◌, List, [], ◌∷◌, length, map}
use Rattle.std.specs.Prelude.{Option}
use Rattle.std.specs.Prelude.{Some, None}
use Rattle.std.specs.List.{list_all}
use Rattle.datagram.specs.declared.packet.Body.TheVariants.{Commit, Ended, Settled}
use Rattle.datagram.specs.declared.packet.Packet.{Packet}
use Rattle.ckpt_codec.specs.Common.{Network, highest_seen, with_decision, with_permanent, without_tentative}
use Rattle.ckpt_codec.specs.Common.{with_confirmed, RecordView}
use Rattle.recovery_line.specs.Observers.{decides, has_node, names}
use Rattle.protocol.specs.Node.Answering.{holds}
use Rattle.protocol.specs.Node.Beginning.{collecting, live_in}
use Rattle.protocol.specs.Node.Collecting.{is_live, is_open}
use Rattle.protocol.specs.Node.Layout.{numbers_where}
use Rattle.protocol.specs.Node.LiveView.{QuestionView, LiveView}
use Rattle.protocol.specs.Node.Modes.{with_kept}
use Rattle.protocol.specs.Node.NodeView.{NodeView, ModeView, Down, InDoubt, Runs, on_running, with_mode}
use Rattle.protocol.specs.Node.Plans.{Prospect, Planned, becoming, if_due, putting, telling}
use Rattle.protocol.specs.Node.Recovering.{restored_running}

-- ---- a decision

abbrev pub all_answered : List (Option QuestionView) → Bool
all_answered questions = list_all (λ (question : Option QuestionView). not (is_open question)) questions

-- a node may decide: it holds the image of the checkpoint for which it collects answers, and none is missing
abbrev pub may_decide : ℕ → RecordView → Option LiveView → Bool
may_decide home kept None = false
may_decide home kept (Some live) = holds home live.number kept.tentative && all_answered live.questions

-- who took part, of so many nodes, ascending
abbrev pub participants_of : ℕ → List ℕ → List ℕ
participants_of nodes takers = numbers_where (λ p. has_node p takers) 0 nodes

abbrev pub decision_on : LiveView → RecordView → RecordView
decision_on live kept = with_decision live.number (participants_of (length kept.highest) live.takers) kept

abbrev pub decided_now : Option LiveView → RecordView → RecordView
decided_now None kept = kept
decided_now (Some live) kept = decision_on live kept

-- its image is permanent, and the decision names who took part
abbrev pub concluded : NodeView → NodeView
concluded node = with_kept (decided_now (live_in node.mode) node.kept) (on_running (collecting None) node)

abbrev pub commit_to : ℕ → ℕ → ℕ → Packet
commit_to home number p = record { from = home; to = p; body = Commit number }

abbrev pub commit_packets : ℕ → ℕ → Option LiveView → List Packet
commit_packets home nodes None = []
commit_packets home nodes (Some live) = map (commit_to home live.number) (participants_of nodes live.takers)

-- what a `Decide` comes to: the image becomes permanent, the decision names who took part, and these are told
abbrev pub decide_prospect : ℕ → NodeView → Prospect
decide_prospect home node =
    if_due (may_decide home node.kept (live_in node.mode))
    (Planned (record {
      node = concluded node;
      puts = true;
      grows = false;
      packets = commit_packets home (length node.kept.highest) (live_in node.mode);
      refused = [];
    }))

-- ---- verdicts for whoever took part

-- a node that waited for the verdict runs on from its permanent image
abbrev pub mode_then : Network → ℕ → RecordView → ModeView → ModeView
mode_then net home kept Down = Down
mode_then net home kept InDoubt = Runs (restored_running net home kept)
mode_then net home kept (Runs running) = Runs running

abbrev pub after_verdict : Network → ℕ → RecordView → NodeView → NodeView
after_verdict net home kept node = with_mode (mode_then net home kept node.mode) (with_kept kept node)

-- a node that has seen the number, and doesn't hold the image, says that it is settled
abbrev pub settled_packets : ℕ → ℕ → ℕ → RecordView → List Packet
settled_packets home x n kept =
    if nat_le n (highest_seen x kept) then record { from = home; to = x; body = Settled n } ∷ [] else []

-- What becomes of a node that hears that a checkpoint is committed: where it holds the image this becomes permanent,
-- and the verdict is confirmed.
abbrev pub commit_prospect : Network → ℕ → ℕ → ℕ → NodeView → Prospect
commit_prospect net home x n node =
    if holds x n node.kept.tentative
    then Planned (record {
      node = after_verdict net home (with_permanent node.kept) node;
      puts = true;
      grows = false;
      packets = settled_packets home x n (with_permanent node.kept);
      refused = [];
    })
    else telling (settled_packets home x n node.kept) node

-- what becomes of a node that hears that a checkpoint is over: it drops the tentative image of that checkpoint, if it
-- holds it
abbrev pub ended_prospect : Network → ℕ → ℕ → ℕ → NodeView → Prospect
ended_prospect net home x n node =
    if holds x n node.kept.tentative
    then putting false (after_verdict net home (without_tentative node.kept) node) else becoming node

-- ---- what the node that began it hears then

-- what becomes of an initiator that hears that node p has done what a decision told it
abbrev pub settled_prospect : ℕ → ℕ → NodeView → Prospect
settled_prospect p n node =
    if names node.kept.decisions n p then putting false (with_kept (with_confirmed n p node.kept) node)
    else becoming node

-- What node p is told that asks for the verdict: the decision; that the checkpoint is over; or nothing, while it is
-- live or where its number wasn't used yet.
abbrev pub verdict_packets : ℕ → ℕ → ℕ → RecordView → Option LiveView → List Packet
verdict_packets home p n kept live =
    if decides kept.decisions n then commit_to home n p ∷ []
    else (if is_live n live || not (nat_le n (highest_seen home kept)) then []
    else record { from = home; to = p; body = Ended n } ∷ [])

-- what becomes of a node that is asked by node p for the verdict on its checkpoint n: it says what it knows
abbrev pub query_prospect : ℕ → ℕ → ℕ → NodeView → Prospect
query_prospect home p n node = telling (verdict_packets home p n node.kept (live_in node.mode)) node
