-- What a crash may leave of a station's cell.
use Rattle.std.proofs.Common.{◌≡◌, inl, inr, ⊎_elim, sym, subst, ap, ◌∙◌, arith}
use Rattle.std.proofs.Math.Logic.{∥∥₁_map}
use Rattle.protocol.specs.Node.Common.{Only, Whole, sent_of, RecordView, Spells, cell_in, record_in, Store}
use Rattle.gate_cell.specs.declared.cell.StableCell.{Ghosts as CellWords}
use Rattle.slot_cell.specs.declared.slot_cell.SlotCell.{Ghosts as SlotWords}
use Rattle.ckpt_store.proofs.Seen.{spelled_is}
use Rattle.node.specs.StoredView.{LeavesNext, LeavesAsBefore}
use Rattle.protocol.specs.World.Covered.{LeavesAsMuch, LeavesEither}
use Rattle.protocol.specs.World.Common.{LeaveEitherSince}

-- what was left spells one record alone
one_record : (kept other : RecordView) (left : Whole) → Spells kept left → Spells other left → kept ≡ other
one_record kept other left is too = sym (spelled_is kept left is) ∙ spelled_is other left too

module _ {C : Type 0} (words : CellWords C) (slots : SlotWords C) where
  -- what a crash leaves spells the record of its store, and no other
  pub own_alone : (store : Store C slots words)
      → Only (slots.whole (cell_in store)) (slots.may_leave_whole (cell_in store))
      → (left : Whole) → slots.may_leave_whole (cell_in store) left
      → (spelled : RecordView) → Spells spelled left → spelled ≡ record_in store
  own_alone store settled left might spelled is =
      sym (spelled_is spelled (slots.whole (cell_in store))
      (subst (λ (l : Whole). Spells spelled l) (settled left might) is))

  pub own_spelled : (store : Store C slots words)
      → Only (slots.whole (cell_in store)) (slots.may_leave_whole (cell_in store)) → (left : Whole)
      → slots.may_leave_whole (cell_in store) left
      → ∥ Spells (record_in store) left ∥₁
  own_spelled store settled left might =
      ∥∥₁_map (store.kept.leaves left might)
      (λ some. subst (λ (kept : RecordView). Spells kept left) (own_alone store settled left might some.0 some.1)
      some.1)

  pub own_left : (store : Store C slots words) (next : RecordView)
      → Only (slots.whole (cell_in store)) (slots.may_leave_whole (cell_in store)) → (left : Whole)
      → slots.may_leave_whole (cell_in store) left
      → LeavesEither (record_in store) next left
  own_left store next settled left might =
      record {
        something = store.kept.leaves left might;
        one_of =
            λ spelled is. inl (own_alone store settled left might spelled is);
      }

  pub leaves_own : (store : Store C slots words)
      → Only (slots.whole (cell_in store)) (slots.may_leave_whole (cell_in store)) → (left : Whole)
      → slots.may_leave_whole (cell_in store) left
      → LeavesAsMuch (record_in store).permanent left
  leaves_own store settled left might = record {
    something = store.kept.leaves left might;
    as_much =
        λ spelled is
        channel. (let same = own_alone store settled left might spelled is in
        omega (arith, ap (λ (r : RecordView). sent_of r.permanent channel) same));
  }

  -- what a crash leaves of a cell that nobody called
  pub untouched : ((c : C) (left : Whole) → slots.left_since_whole c (words.moment c) left
      → slots.may_leave_whole c left)
      → (store : Store C slots words)
      → Only (slots.whole (cell_in store)) (slots.may_leave_whole (cell_in store)) → (next : RecordView)
      → LeaveEitherSince words.moment slots.left_since_whole (cell_in store) (cell_in store) (record_in store) next
  untouched only_now store settled next left since =
      own_left store next settled left (only_now (cell_in store) left since)

  -- also where its store is told to be the same
  pub left_alone : ((c : C) (left : Whole) → slots.left_since_whole c (words.moment c) left
      → slots.may_leave_whole c left)
      → (old new : Store C slots words) → new ≡ old
      → Only (slots.whole (cell_in old)) (slots.may_leave_whole (cell_in old)) → (next : RecordView)
      → LeaveEitherSince words.moment slots.left_since_whole (cell_in old) (cell_in new) (record_in old) next
  left_alone only_now old new same settled next =
      subst
      (λ (s : Store C slots words). LeaveEitherSince words.moment slots.left_since_whole (cell_in old) (cell_in s)
      (record_in old)
      next)
      (sym same) (untouched only_now old settled next)

  module _ (old new : Store C slots words)
      (settled : Only (slots.whole (cell_in old)) (slots.may_leave_whole (cell_in old))) where
    -- through a put of this record
    pub through : (next : RecordView) → LeavesNext next old new
        → LeaveEitherSince words.moment slots.left_since_whole (cell_in old) (cell_in new) (record_in old) next
    through next run left since =
        ⊎_elim (own_left old next settled left)
        (λ one. ⊎_elim
        (λ is. record {
          something = ∣ (record_in old, is) ∣₁;
          one_of = λ spelled too. inl (one_record spelled (record_in old) left too is);
        })
        (λ is. record {
          something = ∣ (next, is) ∣₁;
          one_of = λ spelled too. inr (one_record spelled next left too is);
        }) one)
        (run.each left since)

    -- and where nothing was put
    pub through_crash : LeavesAsBefore old new
        → LeaveEitherSince words.moment slots.left_since_whole (cell_in old) (cell_in new) (record_in old)
        (record_in old)
    through_crash run left since = own_left old (record_in old) settled left (run.each left since)
