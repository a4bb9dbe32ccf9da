-- Events that put no record.
use Rattle.std.proofs.Common.{◌≡◌, inl, ℕ, Bool, true, false, cond, Result, Ok, Err, refl, sym, ap, subst, arith}
use Rattle.std.specs.Result.{IsErr}
use Rattle.gate_cell.specs.Setup.{setup_stays}
use Rattle.protocol.specs.Node.Common.{Whole, RecordView, fits_in, cell_in, Store, NodeView, Plan, Prospect, Planned}
use Rattle.gate_cell.specs.declared.cell.StableCell.{Ghosts as CellWords}
use Rattle.slot_cell.specs.declared.slot_cell.SlotCell.{Ghosts as SlotWords}
use Rattle.protocol.specs.declared.outcome.Outcome.{Outcome}
use Rattle.protocol.specs.declared.outcome.Outcome.TheVariants.{Made}
use Rattle.node.specs.Putting.{IsPutEvent}
use Rattle.node.specs.StoredView.{LeavesDevice, LeavesNext}

module _ {C : Type 0} (words : CellWords C) (slots : SlotWords C)
    (only_now : (cell : C) (left : Whole) → slots.left_since_whole cell (words.moment cell) left
    → slots.may_leave_whole cell left) (store : Store C slots words) where
  still : (next : RecordView) → LeavesNext next store store
  still next = record {
    later = omega arith;
    each = λ left since. inl (only_now (cell_in store) left since);
    before = λ t left le since. inl since;
    keeps = λ t left le had. had;
  }

  device : LeavesDevice store store
  device = record {
    setup = setup_stays words.capacity words.armed words.call_count (cell_in store);
    same_slot_room = refl;
  }

  -- it was made, and the store wasn't touched
  pub memory_event : {E : Type 0} (answer : Result Outcome E) (plan : Plan) (prospect : Prospect) (round : ℕ)
      (was now : NodeView) → answer ≡ Ok Made → prospect ≡ Planned plan → plan.puts ≡ false → now ≡ plan.node
      → IsPutEvent prospect round was now store store answer
  memory_event {E} answer plan prospect round was now is planned none same =
      subst (λ (r : Result Outcome E). IsPutEvent prospect round was now store store r) (sym is)
      (subst (λ (p : Prospect). IsPutEvent p round was now store store made) (sym planned) (record {
        step = same;
        refused = tt;
        refused_failures = tt;
        put = (ap (λ (b : Bool). cond b (fits_in (slots.slot_capacity (cell_in store)) plan.node.kept) true) none, refl);
        any_moment = still _;
        same_setup = device;
      }))
    where
      made : Result Outcome E
      made = Ok Made

  -- or want of memory changed nothing
  pub memory_refused : {E : Type 0} (answer : Result Outcome E) (prospect : Prospect) (round : ℕ) (was now : NodeView)
      → IsErr answer → now ≡ was → IsPutEvent prospect round was now store store answer
  memory_refused (Ok x) prospect round was now is same = absurd (cc)
  memory_refused (Err e) prospect round was now is same = record {
    step = tt;
    refused = same;
    refused_failures = refl;
    put = tt;
    any_moment = still _;
    same_setup = device;
  }
