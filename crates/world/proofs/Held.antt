-- What an event that is refused leaves of what its node's cell holds.
use Rattle.std.proofs.Common.{◌≡◌, ℕ, zero, suc, ◌<◌, ◌≤◌, List, [], ◌∷◌, length, get_or, Some, None, refl, sym, ap, subst}
use Rattle.std.proofs.Common.{inl, arith}
use Rattle.std.specs.Prelude.{slice_get, slice_set}
use Rattle.std.specs.List.{AllZip}
use Rattle.std.proofs.lemmas.Option.{slice_get_read}
use Rattle.protocol.specs.Node.Common.{Only, Whole, cell_in, Store}
use Rattle.sector_disk.specs.Clock.{LeavesOnly}
use Rattle.gate_cell.specs.declared.cell.StableCell.{Ghosts as CellWords}
use Rattle.slot_cell.specs.declared.slot_cell.SlotCell.{Ghosts as SlotWords}
use Rattle.station.specs.Nodes.{LeavesAsBefore}
use Rattle.protocol.specs.World.Common.{ByNode, EventView}
use Rattle.protocol.specs.declared.event.Deed.TheVariants as event
use Rattle.protocol.specs.World.Replies.{LeavesCells, TakesMemory}
use Rattle.world.specs.WorldView.{HoldsAsBefore, HoldsAsBeforeAt, LeavesWhatItFoundAt}
use Rattle.station.specs.Leaving.{IsCellUnchanged, LeavesWhatItFound}
use Rattle.station.specs.declared.station.Station.{Station}
use Rattle.world.proofs.Restarts.{holds_there}

-- what holds of two lists place by place holds at each place
zip_at : {A : Type 0} (P : A → A → Type 0) (xs ys : List A) (k : ℕ) (x y : A) → AllZip P xs ys
    → slice_get xs k ≡ Some x → slice_get ys k ≡ Some y → P x y
zip_at P [] ys k x y all there then_there = absurd (cc)
zip_at P (z ∷ xs) [] k x y all there then_there = absurd (cc)
zip_at P (z ∷ xs) (w ∷ ys) zero x y all there then_there =
    let first : z ≡ x = cc in
    let second : w ≡ y = cc in
    subst (λ v. P v y) first (subst (λ v. P z v) second all.0)
zip_at P (z ∷ xs) (w ∷ ys) (suc k) x y all there then_there = zip_at P xs ys k x y all.1 there then_there

-- ---- one cell

module _ {C : Type 0} (cell : CellWords C) (slots : SlotWords C) where
  -- a cell that a crash may only leave as it is holds that still, where no crash meanwhile leaves anything new
  whole_same : ((one : C) (t : ℕ) (left : Whole) → t ≤ cell.moment one → slots.may_leave_whole one left
      → slots.left_since_whole one t left) → ((one : C) → slots.may_leave_whole one (slots.whole one))
      → (old new : Store C slots cell) → Only (slots.whole (cell_in old)) (slots.may_leave_whole (cell_in old))
      → LeavesAsBefore old new → slots.whole (cell_in new) ≡ slots.whole (cell_in old)
  whole_same includes_now may_stay old new settled moments =
      settled (slots.whole (cell_in new))
      (moments.each (slots.whole (cell_in new))
      (includes_now (cell_in new) (cell.moment (cell_in old)) (slots.whole (cell_in new)) moments.later
      (may_stay (cell_in new))))

  abbrev LeavesBetween : C → C → Type 0
  LeavesBetween one other = LeavesOnly cell.moment slots.left_since_whole one other (slots.may_leave_whole one)

  leaves_itself : ((one : C) (left : Whole) → slots.left_since_whole one (cell.moment one) left
      → slots.may_leave_whole one left) → (one : C) → LeavesBetween one one
  leaves_itself only_now one = record {
    later = omega arith;
    each = λ left since. only_now one left since;
    before = λ t left early since. inl since;
    keeps = λ t left early since. since;
  }

-- ---- one station, and all

module _ {C O : Type 0} {cell : CellWords C} {slots : SlotWords C} where
  pub found_at : (e : EventView) (xs : List (Station C O slots cell)) (place number : ℕ) (x y : Station C O slots cell)
      → number ≡ place → place < length xs → x ≡ get_or xs place x → LeavesWhatItFound e x y
      → LeavesWhatItFoundAt e number xs (slice_set xs place y)
  found_at e xs place number x y same within is holds =
      let there : slice_get xs place ≡ Some x = slice_get_read xs (length xs) place x refl within is in
      subst (λ (n : ℕ). LeavesWhatItFoundAt e n xs (slice_set xs place y)) (sym same)
      (holds_there (LeavesWhatItFound e) xs place x y there holds)

  module _
      (includes_now : (one : C) (t : ℕ) (left : Whole) → t ≤ cell.moment one → slots.may_leave_whole one left
      → slots.left_since_whole one t left)
      (only_now : (one : C) (left : Whole) → slots.left_since_whole one (cell.moment one) left
      → slots.may_leave_whole one left)
      (may_stay : (one : C) → slots.may_leave_whole one (slots.whole one)) where
    untouched : (old new : Station C O slots cell) → IsCellUnchanged old new → HoldsAsBefore old new
    untouched old new same = record {
      same_whole = ap slots.whole same;
      any_moment = subst (LeavesBetween cell slots (cell_in old.node.store)) (sym same)
          (leaves_itself cell slots only_now (cell_in old.node.store));
    }

    looked : (old new : Station C O slots cell) → LeavesAsBefore old.node.store new.node.store → HoldsAsBefore old new
    looked old new moments = record {
      same_whole = whole_same cell slots includes_now may_stay old.node.store new.node.store old.node.kept.settled
          moments;
      any_moment = moments;
    }

    held_by : (e : EventView) (old new : Station C O slots cell) → TakesMemory e → LeavesWhatItFound e old new
        → (LeavesCells e None → IsCellUnchanged old new) → HoldsAsBefore old new
    held_by (ByNode k (event.Crash fill rounds)) old new takes found same = absurd takes
    held_by (ByNode k event.Recover) old new takes found same = looked old new found
    held_by (ByNode k (event.Arm fault rounds)) old new takes found same = looked old new found
    held_by (ByNode k event.Idle) old new takes found same = absurd takes
    held_by e old new takes found same = untouched old new (same tt)

    pub held_at : (e : EventView) (place : ℕ) (olds news : List (Station C O slots cell)) → TakesMemory e
        → LeavesWhatItFoundAt e place olds news → (LeavesCells e None → AllZip IsCellUnchanged olds news)
        → HoldsAsBeforeAt place olds news
    held_at e place olds news takes found same old new was now =
        held_by e old new takes (found old new was now)
        (λ leaves. zip_at IsCellUnchanged olds news place old new (same leaves) was now)
