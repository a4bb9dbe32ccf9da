-- What a store shows, and how its calls change that.
use Rattle.std.specs.Prelude.{◌≡◌, ℕ, ◌-◌, List, [], Option, Some, None, Result, Ok, Err}
use Rattle.sector_disk.specs.Clock.{LeavesOnly}
use Rattle.gate_cell.specs.declared.cell.StableCell.{Ghosts as CellWords}
use Rattle.slot_cell.specs.declared.slot_cell.SlotCell.{Ghosts as SlotWords}
use Rattle.slot_cell.specs.Whole.{Whole, slot_in}
use Rattle.ckpt_codec.specs.Common.{ImageView, RecordView, HeaderView}
use Rattle.ckpt_codec.specs.HeaderText.{record_with}
use Rattle.ckpt_codec.specs.Reading.{header_at, whole_image_at}
use Rattle.ckpt_codec.specs.declared.fault.CodecFault.{CodecFault}
use Rattle.ckpt_store.specs.Putting.{IsChange, IsIdle}
use Rattle.ckpt_store.specs.Spelling.{Spells, kept_in}
use Rattle.ckpt_store.specs.declared.fault.StoreFault.{StoreFault}
use Rattle.ckpt_store.specs.declared.fault.StoreFault.TheVariants.{Reopen}
use Rattle.ckpt_store.specs.Loading.{IsLoad, IsReload}
use Rattle.ckpt_store.specs.declared.store.Store.{Store}
use Rattle.ckpt_store.specs.declared.store.Refused.{Refused}

-- the cell in which the record lies
abbrev pub cell_in : {C : Type 0} {cell : CellWords C} {slots : SlotWords C} → Store C slots cell → C
cell_in store = store.cell

-- the record, while the store is ready; none while it has to be reopened
abbrev pub known_in : {C : Type 0} {cell : CellWords C} {slots : SlotWords C} → Store C slots cell → Option RecordView
known_in store = kept_in store.known

-- the record that the cell holds, in every state of the store
abbrev pub Holds : {C : Type 0} {cell : CellWords C} {slots : SlotWords C} → Store C slots cell → RecordView → Type 0
Holds {slots = slots} store kept = Spells kept (slots.whole store.cell)

-- a record of nothing
abbrev pub blank : RecordView
blank = record {
  node = 0;
  epoch = 0;
  highest = [];
  decisions = [];
  permanent = record { processes = []; ends = [] };
  tentative =
      None;
}

abbrev pub read_or_none : {X : Type 0} → Result X CodecFault → Option X
read_or_none (Ok x) = Some x
read_or_none (Err fault) = None

-- the image in a slot, like this one where there is one
abbrev pub image_spelled : Option ImageView → Option (List ℕ) → Option ImageView
image_spelled like None = None
image_spelled like (Some bytes) = read_or_none (whole_image_at like bytes)

abbrev pub header_spelled : Option (List ℕ) → Option HeaderView
header_spelled None = None
header_spelled (Some bytes) = read_or_none (header_at bytes)

-- the record of a header, its permanent image and the other slot; a blank one where there is none
abbrev pub record_beside : Whole → HeaderView → Option ImageView → RecordView
record_beside whole h None = blank
record_beside whole h (Some permanent) =
    record_with h permanent (image_spelled (Some permanent) (slot_in (1 - h.slot) whole))

abbrev pub record_behind : Whole → Option HeaderView → RecordView
record_behind whole None = blank
record_behind whole (Some h) = record_beside whole h (image_spelled None (slot_in h.slot whole))

-- the record that header and slots are; a blank one where they are none
abbrev pub record_spelled : Whole → RecordView
record_spelled whole = record_behind whole (header_spelled whole.header)

-- the record of a store, read off its cell in every state; of a ready store it is the one that is known
abbrev pub record_in : {C : Type 0} {cell : CellWords C} {slots : SlotWords C} → Store C slots cell → RecordView
record_in {slots = slots} store = record_spelled (slots.whole store.cell)

-- the record was changed to the next one by one put, or that was refused
abbrev pub Changes : {C : Type 0} {cell : CellWords C} {slots : SlotWords C} → (RecordView → Option StoreFault)
    → (RecordView → RecordView) → Store C slots cell → Store C slots cell → {T : Type 0} → Result T StoreFault
    → Type 0
Changes {cell = cell} {slots = slots} cause next old new result =
    IsChange cell slots cause next old.cell new.cell (kept_in old.known) (kept_in new.known) result

-- nothing was to be done, and nothing was
abbrev pub Stays : {C : Type 0} {cell : CellWords C} {slots : SlotWords C} → Store C slots cell → Store C slots cell
    → {T : Type 0} → Result T StoreFault → Type 0
Stays old new result = IsIdle old.cell new.cell (kept_in old.known) (kept_in new.known) result

-- the cell that a store was opened on, whether or not it was
abbrev pub cell_after : {C : Type 0} {cell : CellWords C} {slots : SlotWords C}
    → Result (Store C slots cell) (Refused C) → C
cell_after (Ok store) = store.cell
cell_after (Err refused) = refused.cell

-- the record of the store, or why there is none
abbrev pub record_or : StoreFault → Option RecordView → Result RecordView StoreFault
record_or fault None = Err fault
record_or fault (Some kept) = Ok kept

abbrev pub answer_of : {C : Type 0} {cell : CellWords C} {slots : SlotWords C}
    → Result (Store C slots cell) (Refused C) → Result RecordView StoreFault
answer_of (Ok store) = record_or Reopen (kept_in store.known)
answer_of (Err refused) = Err refused.fault

-- it was opened on this cell with the record that the cell holds, or that was refused and the cell handed back
abbrev pub Opens : {C : Type 0} {cell : CellWords C} {slots : SlotWords C} → C
    → Result (Store C slots cell) (Refused C) → Type 0
Opens {cell = cell} {slots = slots} one result = IsLoad cell slots one (cell_after result) (answer_of result)

-- it was reopened in its place, or that was refused
abbrev pub Reopens : {C : Type 0} {cell : CellWords C} {slots : SlotWords C} → Store C slots cell → Store C slots cell
    → {T : Type 0} → Result T StoreFault → Type 0
Reopens {cell = cell} {slots = slots} old new result =
    IsReload cell slots old.cell new.cell (kept_in new.known) result

-- The record, whether it is known, and what a crash leaves of it are as before, at every moment; and so are the cell's
-- rooms and the count of the device's failures. What is armed, and how many calls are counted, is another matter.
pub record IsUntouched {C : Type 0} {cell : CellWords C} {slots : SlotWords C} (old new : Store C slots cell) : Type 0
  where
    pub same_record : kept_in new.known ≡ kept_in old.known
    pub same_whole : slots.whole new.cell ≡ slots.whole old.cell
    pub any_moment : LeavesOnly cell.moment slots.left_since_whole old.cell new.cell
        (slots.may_leave_whole old.cell)
    pub same_room : cell.capacity new.cell ≡ cell.capacity old.cell
    pub same_slot_room : slots.slot_capacity new.cell ≡ slots.slot_capacity old.cell
    pub same_readiness : cell.is_ready new.cell ≡ cell.is_ready old.cell
    pub failures : cell.failure_count new.cell ≡ cell.failure_count old.cell
