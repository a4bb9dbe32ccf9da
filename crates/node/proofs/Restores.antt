-- What a store holds may be restored: its counts are counts.
use Rattle.std.proofs.Common.{◌≡◌, ◌≤◌, Some, sym, subst}
use Rattle.std.proofs.Math.Bridge.{le_prop}
use Rattle.std.proofs.Math.Logic.{∥∥₁_elim}
use Rattle.ckpt_store.proofs.Seen.{spelled_is}
use Rattle.ckpt_store.proofs.Spelled.{spelled_is_record}
use Rattle.protocol.specs.Node.Common.{record_in, Store, MAX_COUNT, IsRestorable, received_of, RecordView, Tentative}
use Rattle.gate_cell.specs.declared.cell.StableCell.{Ghosts as CellWords}
use Rattle.slot_cell.specs.declared.slot_cell.SlotCell.{Ghosts as SlotWords}
use Rattle.rollback_core.specs.StoredCounts.{HasCounts, record_counts}

module _ {C : Type 0} (words : CellWords C) (slots : SlotWords C)
    (may_stay : (cell : C) → slots.may_leave_whole cell (slots.whole cell)) (store : Store C slots words) where
  -- whatever of its record is a number at most so great
  shown : (P : RecordView → Type 0) → ((kept : RecordView) (a b : P kept) → a ≡ b)
      → ((kept : RecordView) → HasCounts kept → P kept) → P (record_in store)
  shown P one counts =
      ∥∥₁_elim (store.kept.leaves (slots.whole store.cell) (may_stay store.cell)) (one (record_in store))
      (λ e. subst P (sym (spelled_is e.0 (slots.whole store.cell) e.1))
      (counts e.0 (record_counts e.0 (spelled_is_record e.0 e.1.0 (slots.whole store.cell) e.1.1))))

  pub permanent_counts : IsRestorable (record_in store).permanent
  permanent_counts c =
      shown (λ (kept : RecordView). received_of kept.permanent c ≤ MAX_COUNT) (λ kept. le_prop)
      (λ kept counts. counts.permanent c)

  pub epoch_count : (record_in store).epoch ≤ MAX_COUNT
  epoch_count = shown (λ (kept : RecordView). kept.epoch ≤ MAX_COUNT) (λ kept. le_prop) (λ kept counts. counts.epoch)

  pub held_counts : (held : Tentative) → (record_in store).tentative ≡ Some held → IsRestorable held.image
  held_counts held is c =
      shown (λ (kept : RecordView). kept.tentative ≡ Some held → received_of held.image c ≤ MAX_COUNT)
      (λ kept. hlevel (le_prop)) (λ kept counts at. counts.held held at c) is
