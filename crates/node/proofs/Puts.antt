-- From a put that a store did, or refused, to the event that it ends, and to what the node's type keeps.
use Rattle.std.proofs.Common.{◌≡◌, ℕ, ◌≤◌, true, false, length, Option, None, Result, Ok, Err, refl, ap, ◌∙◌}
use Rattle.std.specs.Prelude.{IsTrue, OnOk, OnErr}
use Rattle.protocol.specs.Node.Common.{Only, Whole, RecordView, fits_in, cell_in, record_in, Changes, Store}
use Rattle.protocol.specs.Node.Common.{StoreFault, restart_after, is_down, crashed, NodeView, Plan, Prospect, Planned}
use Rattle.gate_cell.specs.declared.cell.StableCell.{Ghosts as CellWords}
use Rattle.slot_cell.specs.declared.slot_cell.SlotCell.{Ghosts as SlotWords}
use Rattle.protocol.specs.declared.outcome.Outcome.{Outcome}
use Rattle.node.specs.NodeView.{mode_view, node_view}
use Rattle.node.specs.Putting.{IsPutEvent}
use Rattle.node.specs.StoredView.{HasRecord, IsAnswer, IsCrashed, has_failed, put_outcome}
use Rattle.node.specs.Then.{then_node}
use Rattle.node.specs.declared.checkpoint.Then.{Then}
use Rattle.node.specs.declared.checkpoint.Then.TheVariants as then_is
use Rattle.node.specs.declared.state.NodeState.{NodeState}
use Rattle.node.proofs.Checkpoints.{Ends, ended, ends_event, ends_kept}

pub on_ok : {T E P Q : Type 0} (r : Result T E) → OnOk r P → (P → Q) → OnOk r Q
on_ok (Ok x) p f = f p
on_ok (Err e) p f = tt

-- what becomes of a node's memory leaves its record
then_kept : (then : Then) (node : NodeView) → (then_node then node).kept ≡ node.kept
then_kept then_is.Stays node = refl
then_kept (then_is.Collects live) node = refl
then_kept (then_is.Covers number channel) node = refl
then_kept (then_is.Cuts channel count) node = refl
then_kept (then_is.Notes channel epoch) node = refl
then_kept (then_is.Runs restored) node = refl
then_kept (then_is.GoesBack image own channel epoch) node = refl

module _ {C : Type 0} (words : CellWords C) (slots : SlotWords C)
    (includes_now : (cell : C) (t : ℕ) (left : Whole) → t ≤ words.moment cell → slots.may_leave_whole cell left
    → slots.left_since_whole cell t left)
    (may_stay : (cell : C) → slots.may_leave_whole cell (slots.whole cell))
    (ready_settled : (cell : C) → IsTrue (words.is_ready cell) → Only (slots.whole cell) (slots.may_leave_whole cell))
    (number round call : ℕ) (old mid new : Store C slots words) (before after : NodeState)
    (put : Result (Unit {0}) StoreFault) (then : Then) (has : HasRecord number (mode_view before.mode) old)
    (up : is_down (mode_view before.mode) ≡ false) (stays : has_failed put ≡ false → new ≡ mid)
    (done : OnOk put ((kept : RecordView) → node_view kept after ≡ then_node then (node_view kept before)))
    (same : OnErr put (has_failed put ≡ false → after ≡ before))
    (crash : IsTrue (has_failed put) → IsCrashed mid new
    × ((kept : RecordView)
    → node_view kept after ≡ crashed (restart_after before.armed.items call round) (node_view kept before)))
    (cause : RecordView → Option StoreFault) (change : RecordView → RecordView)
    (fine : cause (record_in old) ≡ None) (changes : Changes cause change old mid put) where
  abbrev next : RecordView
  next = change (record_in old)

  abbrev was : NodeView
  was = node_view (record_in old) before

  abbrev made : NodeView
  made = then_node then (node_view (change (record_in old)) before)

  put_ends : Ends (change (record_in old)) (then_node then (node_view (change (record_in old)) before))
      (restart_after before.armed.items call round) old new before after put
  put_ends =
      ended words slots includes_now may_stay ready_settled cause change old mid new put (has.ready up) fine changes
      has.settled (restart_after before.armed.items call round) before after
      (then_node then (node_view (change (record_in old)) before)) stays
      (on_ok put done (λ f. f (change (record_in old)))) same crash

  pub put_kept : length (change (record_in old)).highest ≡ length (record_in old).highest
      → (change (record_in old)).node ≡ (record_in old).node → HasRecord number (mode_view after.mode) new
  put_kept long node =
      ends_kept (change (record_in old)) (then_node then (node_view (change (record_in old)) before))
      (restart_after before.armed.items call round) old new before after put put_ends number has long node

  pub put_event : (plan : Plan) → plan.puts ≡ true
      → plan.node ≡ then_node then (node_view (change (record_in old)) before)
      → (plan.grows ≡ false → fits_in (slots.slot_capacity (cell_in old)) (change (record_in old)) ≡ true)
      → (prospect : Prospect) → prospect ≡ Planned plan → {E : Type 0} (answer : Result Outcome E)
      → IsAnswer (put_outcome put) answer → call ≡ words.failed_call (cell_in new)
      → IsPutEvent prospect round (node_view (record_in old) before) (node_view (record_in new) after) old new answer
  put_event plan puts node short prospect planned answer is failed =
      ends_event (change (record_in old)) (then_node then (node_view (change (record_in old)) before))
      (restart_after before.armed.items call round) old new before after put put_ends plan puts node
      (ap (λ (n : NodeView). n.kept) node ∙ then_kept then (node_view (change (record_in old)) before)) short prospect
      round answer planned (ap (λ (n : ℕ). restart_after before.armed.items n round) failed) is
