-- A node's record, as its store has it.
use Rattle.std.specs.Prelude.{◌≡◌, ◌⊎◌, ℕ, ◌<◌, ◌≤◌, Bool, true, false, length, Option, Some, None, IsSome, IsTrue}
use Rattle.std.specs.Prelude.{Result, Ok, Err, IfOk, IfErr, OnOk, OnErr, IsErrOf}
use Rattle.protocol.specs.Node.Common.{Only, Whole, RecordView, Network, with_epoch, MAX_COUNT, Spells, fits_in}
use Rattle.protocol.specs.Node.Common.{cell_in, known_in, record_in, Store, StoreFault, ModeView, is_down}
use Rattle.protocol.specs.Node.Common.{restored_mode}
use Rattle.sector_disk.specs.Clock.{LeavesOnly}
use Rattle.gate_cell.specs.declared.cell.StableCell.{Ghosts as CellWords}
use Rattle.gate_cell.specs.Setup.{LeavesSetup}
use Rattle.slot_cell.specs.declared.slot_cell.SlotCell.{Ghosts as SlotWords}
use Rattle.ckpt_store.specs.StoreFault.{HasFailures}
use Rattle.ckpt_store.specs.declared.fault.StoreFault.TheVariants as fault
use Rattle.rollback_core.specs.RestoredView.{recovery_mode}
use Rattle.rollback_core.specs.declared.restoring.Recovery.{Recovery}
use Rattle.protocol.specs.declared.outcome.Outcome.{Outcome}
use Rattle.protocol.specs.declared.outcome.Outcome.TheVariants.{NotDue, Made, Refused, Failed}
use Rattle.protocol.specs.declared.outcome.Refusal.TheVariants.{TooLarge, Spent}

-- What a node's type keeps of its store: the record is the node's and has an entry for it; while the node is up the
-- store is ready; and a crash now leaves that record and no other.
pub record HasRecord {C : Type 0} {words : CellWords C} {slots : SlotWords C} (number : ℕ) (mode : ModeView) (store : Store C slots words) : Type 0
  where
    pub listed : number < length ((record_in store).highest)
    pub named : (record_in store).node ≡ number
    pub ready : is_down mode ≡ false → IsSome (known_in store)
    pub settled : Only (slots.whole (cell_in store)) (slots.may_leave_whole (cell_in store))

-- a crash leaves what it might have left before, or the record that was there, or this one
abbrev pub MayLeaveNext : {C : Type 0} {words : CellWords C} {slots : SlotWords C} → RecordView
    → Store C slots words → Whole → Type 0
MayLeaveNext {slots = slots} next old left =
    slots.may_leave_whole (cell_in old) left ⊎ (Spells (record_in old) left ⊎ Spells next left)

-- a crash at any moment of a call leaves what it might have left before, or this next record
abbrev pub LeavesNext : {C : Type 0} {words : CellWords C} {slots : SlotWords C} → RecordView → Store C slots words → Store C slots words → Type 0
LeavesNext {words = words} {slots = slots} next old new =
    LeavesOnly words.moment slots.left_since_whole (cell_in old) (cell_in new) (MayLeaveNext next old)

-- a crash at any moment of a call leaves only what it might have left before
abbrev pub LeavesAsBefore : {C : Type 0} {words : CellWords C} {slots : SlotWords C} → Store C slots words → Store C slots words → Type 0
LeavesAsBefore {words = words} {slots = slots} old new =
    LeavesOnly words.moment slots.left_since_whole (cell_in old) (cell_in new) (slots.may_leave_whole (cell_in old))

-- as many bytes fit header and slots, the same faults are armed, and no device call that was counted is forgotten
pub record LeavesDevice {C : Type 0} {words : CellWords C} {slots : SlotWords C} (old new : Store C slots words) : Type 0
  where
    pub setup : LeavesSetup words.capacity words.armed words.call_count (cell_in old) (cell_in new)
    pub same_slot_room : slots.slot_capacity (cell_in new) ≡ slots.slot_capacity (cell_in old)

-- What a crash makes of a store that has a record: none is known until it is reopened, and what its cell holds is
-- settled.
pub record IsCrashed {C : Type 0} {words : CellWords C} {slots : SlotWords C} (old new : Store C slots words) : Type 0 where
  pub down : known_in new ≡ None
  pub left : slots.may_leave_whole (cell_in old) (slots.whole (cell_in new))
  pub settled : Only (slots.whole (cell_in new)) (slots.may_leave_whole (cell_in new))
  pub any_moment : LeavesAsBefore old new
  pub same_setup : LeavesDevice old new
  pub failures : words.failure_count (cell_in new) ≡ words.failure_count (cell_in old)
  pub same_failed : words.failed_call (cell_in new) ≡ words.failed_call (cell_in old)

-- why a record isn't raised to its next epoch: there is none (44), the record doesn't fit (22), or memory or the device
-- fails
abbrev pub IsRaiseRefusal : Bool → RecordView → StoreFault → Type 0
IsRaiseRefusal fits kept fault.NoMemory = Unit {0}
IsRaiseRefusal fits kept fault.Device = Unit {0}
IsRaiseRefusal fits kept fault.TooLarge = (kept.epoch < MAX_COUNT) × (fits ≡ false)
IsRaiseRefusal fits kept fault.Spent = MAX_COUNT ≤ kept.epoch
IsRaiseRefusal fits kept other = ⊥

-- The store of a node that is down was reopened, and its record is in the next epoch: `result` is the permanent image,
-- or why it isn't. After a failure of the device the record is the old one or the next one; after any other refusal the
-- old one.
pub record IsRaised {C : Type 0} {words : CellWords C} {slots : SlotWords C} (net : Network) (home : ℕ)
    (old new : Store C slots words) (result : Result Recovery StoreFault) : Type 0 where
  pub recovery : IfOk result (λ recovery. recovery_mode recovery ≡ restored_mode net home (with_epoch (record_in old)))
  pub raised : OnOk result
      ((record_in new ≡ with_epoch (record_in old)) × IsSome (known_in new) × ((record_in old).epoch < MAX_COUNT)
      × IsTrue (fits_in (slots.slot_capacity (cell_in old)) (with_epoch (record_in old))))
  pub refused : IfErr result
      (IsRaiseRefusal (fits_in (slots.slot_capacity (cell_in old)) (with_epoch (record_in old))) (record_in old))
  pub same_record : OnErr result (¬ (IsErrOf result fault.Device) → record_in new ≡ record_in old)
  pub failures : HasFailures (words.failure_count (cell_in old)) (words.failure_count (cell_in new)) result
  pub settled : ¬ (IsErrOf result fault.Device)
      → Only (slots.whole (cell_in new)) (slots.may_leave_whole (cell_in new))
  pub any_moment : LeavesNext (with_epoch (record_in old)) old new
  -- where it was refused, or there is no next epoch, nothing was put
  pub nothing_put : OnErr result (¬ (IsErrOf result fault.Device) → LeavesAsBefore old new)
  pub held_up : OnErr result (MAX_COUNT ≤ (record_in old).epoch → LeavesAsBefore old new)
  pub same_setup : LeavesDevice old new

-- what a put that the store did, or refused, comes to: nothing where memory was missing
abbrev pub put_outcome : Result (Unit {0}) StoreFault → Option Outcome
put_outcome (Ok x) = Some Made
put_outcome (Err fault.NoMemory) = None
put_outcome (Err fault.Device) = Some Failed
put_outcome (Err fault.TooLarge) = Some (Refused TooLarge)
put_outcome (Err fault.Spent) = Some (Refused Spent)
put_outcome (Err other) = Some NotDue

-- this is answered, or memory is missing
abbrev pub IsAnswer : {A E : Type 0} → Option A → Result A E → Type 0
IsAnswer None (Ok y) = ⊥
IsAnswer None (Err e) = Unit {0}
IsAnswer (Some x) (Ok y) = y ≡ x
IsAnswer (Some x) (Err e) = ⊥

-- the device failed
abbrev pub has_failed : Result (Unit {0}) StoreFault → Bool
has_failed (Err fault.Device) = true
has_failed result = false
