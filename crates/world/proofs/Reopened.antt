-- A store and a node that are opened over what lies on a disk, and the disk that comes back.
use Rattle.std.proofs.Common.{◌≡◌, ◌⊎◌, inl, inr, ℕ, ◌<◌, ◌≤◌, false, List, Option, Some, None, refl, sym, ap, subst}
use Rattle.std.proofs.Common.{◌∙◌, arith}
use Rattle.std.specs.Prelude.{Result, Err, IfOk, IsSome, IsTrue}
use Rattle.std.proofs.Math.Logic.{∥∥₁_elim}
use mathlib.Core.HLevel.{⊥_prop}
use Rattle.sector_disk.specs.Clock.{LeavesOnly, Only}
use Rattle.sector_disk.specs.Disk.{IsQuiet, SameSetup}
use Rattle.sector_disk.specs.declared.disk.Disk.{Ghosts as DiskWords}
use Rattle.gate_cell.specs.Stands.{Looks, MayShow}
use Rattle.gate_cell.specs.declared.cell.StableCell.{Ghosts as CellWords}
use Rattle.gate_cell.specs.declared.fault.CellFault.{CellFault}
use Rattle.gate_cell.specs.declared.fault.CellFault.TheVariants as cell
use Rattle.slot_cell.specs.SplitCell.{armed_of, disk_in, left_since_whole_of, may_leave_whole_of, moment_of, slot_capacity_of}
use Rattle.slot_cell.specs.SplitCell.{whole_of}
use Rattle.slot_cell.specs.SplitLayout.{HoldsNoHeader, whole_on}
use Rattle.slot_cell.specs.SplitStands.{only_whole}
use Rattle.slot_cell.specs.declared.TheConstants.{LEAST_SPLIT_SECTORS}
use Rattle.slot_cell.specs.declared.slot_cell.SlotCell.{Ghosts as SlotWords}
use Rattle.slot_cell.specs.declared.split.SplitCell.{SplitCell}
use Rattle.ckpt_store.proofs.Seen.{spelled_is}
use Rattle.ckpt_store.specs.Loading.{IsLoad, IsOfCell, IsOfReopening}
use Rattle.ckpt_store.specs.StoreFault.{HasFailures, of_cell}
use Rattle.ckpt_store.specs.StoreView.{record_or, record_spelled}
use Rattle.ckpt_store.specs.declared.fault.StoreFault.TheVariants.{Reopen, Device}
use Rattle.ckpt_store.specs.declared.fault.StoreFault.TheVariants as store
use Rattle.protocol.specs.Node.Common.{RecordView, slot_room_on, Spells, StoreFault, Whole}
use Rattle.world.specs.Left.{HoldsRecord}
use Rattle.world.specs.OpeningWorld.{IsNotOpened, IsOpeningRefusal}
use Rattle.world.specs.Reopening.{IsDiskAsLeft, IsDiskRefused}

-- by a disk's words
abbrev pub Held : {D : Type 0} → DiskWords D → D → Type 0
Held disk given = HoldsRecord disk.sector_count disk.content disk.may_leave given

abbrev pub AsLeft : {D : Type 0} → DiskWords D → D → D → Type 0
AsLeft disk given back = IsDiskAsLeft disk.sector_count disk.content disk.may_leave disk.armed given back

abbrev pub NotOver : {D : Type 0} → DiskWords D → D → D → StoreFault → Type 0
NotOver disk given back fault =
    IsDiskRefused disk.sector_count disk.content disk.may_leave disk.armed disk.failure_count given back fault

-- ---- a disk that is as it was left

-- holds what it held
held_again : {D : Type 0} (disk : DiskWords D) (given back : D) → Held disk given
    → LEAST_SPLIT_SECTORS ≤ disk.sector_count back
    → whole_on (disk.sector_count back) (disk.content back) ≡ whole_on (disk.sector_count given) (disk.content given)
    → ((left : Whole) → MayShow whole_on disk.may_leave disk.sector_count back left
    → MayShow whole_on disk.may_leave disk.sector_count given left)
    → Held disk back
held_again disk given back held long same no_more = record {
  long = long;
  alone = λ left might. subst (λ (w : Whole). ∥ Spells (record_spelled w) left ∥₁) (sym same)
      (held.alone left (no_more left might));
}

-- where nothing was done with it
pub same_disk : {D : Type 0} (disk : DiskWords D) (given : D) → Held disk given → AsLeft disk given given
same_disk disk given held = record {
  same = refl;
  no_more = λ left might. might;
  room = refl;
  same_faults = refl;
  held = held;
}

-- where a cell was opened on it
pub looked_at : {D : Type 0} (disk : DiskWords D) (given back : D) → Held disk given
    → IsQuiet disk.content disk.may_leave given back → SameSetup disk.sector_count disk.armed given back
    → AsLeft disk given back
looked_at disk given back held quiet setup =
    let same : whole_on (disk.sector_count back) (disk.content back)
    ≡ whole_on (disk.sector_count given) (disk.content given) =
    ap (λ (n : ℕ). whole_on n (disk.content back)) setup.same_sectors
    ∙ ap (whole_on (disk.sector_count given)) quiet.same in
    let no_more : (left : Whole) → MayShow whole_on disk.may_leave disk.sector_count back left
    → MayShow whole_on disk.may_leave disk.sector_count given left =
    λ left might. (
      might.0,
      quiet.no_more might.0 might.1,
      ap (λ (n : ℕ). whole_on n might.0) (sym setup.same_sectors) ∙ might.2,
    ) in
    record {
      same = same;
      no_more = no_more;
      room = ap slot_room_on setup.same_sectors;
      same_faults = setup.same_faults;
      held = held_again disk given back held
          (subst (λ (n : ℕ). LEAST_SPLIT_SECTORS ≤ n) (sym setup.same_sectors) held.long) same no_more;
    }

-- and through calls of the cell that only look
pub then_looked : {D : Type 0} (disk : DiskWords D)
    (includes : (d : D) (t : ℕ) (c : List ℕ) → t ≤ disk.moment d → disk.may_leave d c → disk.left_since d t c)
    (given : D) (old new : SplitCell D disk) → AsLeft disk given (disk_in old) → whole_of new ≡ whole_of old
    → LeavesOnly {D = SplitCell D disk} {C = Whole} moment_of left_since_whole_of old new (may_leave_whole_of old)
    → slot_capacity_of new ≡ slot_capacity_of old → armed_of new ≡ armed_of old → AsLeft disk given (disk_in new)
then_looked disk includes given old new left same only room faults =
    let no_more : (l : Whole) → MayShow whole_on disk.may_leave disk.sector_count (disk_in new) l
    → MayShow whole_on disk.may_leave disk.sector_count (disk_in old) l =
    λ l might. only.each l
    (might.0, includes (disk_in new) (disk.moment (disk_in old)) might.0 only.later might.1, might.2) in
    record {
      same = same ∙ left.same;
      no_more = λ l might. left.no_more l (no_more l might);
      room = room ∙ left.room;
      same_faults = faults ∙ left.same_faults;
      held = held_again disk (disk_in old) (disk_in new) left.held new.sectors same no_more;
    }

-- ---- a store that was opened

-- what a cell spells that a store was opened on, it spells later
pub holds_found : (before now given : Whole) → now ≡ before → now ≡ given
    → (kept : RecordView) × Spells kept before → Spells (record_spelled given) now
holds_found before now given same is found =
    subst (λ (w : Whole). Spells (record_spelled w) now) is
    (subst (λ (w : Whole). Spells (record_spelled w) w) (sym same)
    (subst (λ (kept : RecordView). Spells kept before) (sym (spelled_is found.0 before found.1)) found.1))

-- the record that was found
pub found_in : (P : RecordView → Type 0) (known : Option RecordView) → IsSome known
    → IfOk (record_or Reopen known) P → (kept : RecordView) × P kept
found_in P None some found = absurd (cc)
found_in P (Some kept) some found = (kept, found)

-- a cell that is ready leaves one whole alone
pub settled_cell : {D : Type 0} (disk : DiskWords D) (c : SplitCell D disk) → IsTrue c.ready
    → Only (whole_of c) (may_leave_whole_of c)
settled_cell disk c ready =
    only_whole (disk.sector_count (disk_in c)) (disk.content (disk_in c)) (disk.may_leave (disk_in c))
    (c.settled ready).durable

-- ---- refusals

-- a disk that holds a record is of a cell
no_header : {D : Type 0} (disk : DiskWords D) (given : D) → Held disk given
    → disk.may_leave given (disk.content given)
    → HoldsNoHeader (disk.sector_count given) (disk.content given) → ⊥
no_header disk given held stays (inl few) = let long = held.long in omega (arith, few, long)
no_header disk given held stays (inr none) =
    ∥∥₁_elim (held.alone (whole_on (disk.sector_count given) (disk.content given)) (disk.content given, stays, refl))
    (hlevel ⊥_prop)
    (λ spelled.
    (let there : IsSome {T = List ℕ} None = subst (λ (o : Option (List ℕ)). IsSome o) none spelled.1.says.there in
    absurd (cc)))

-- so no cell is refused there but where the device failed
pub cell_refused : {D : Type 0} (disk : DiskWords D) (stays : (d : D) → disk.may_leave d (disk.content d))
    (given back : D) (fault : CellFault) (told : StoreFault) → Held disk given → told ≡ of_cell fault
    → Looks disk.content disk.may_leave disk.moment disk.left_since given back
    → SameSetup disk.sector_count disk.armed given back
    → ((fault ≡ cell.Device) × (disk.failure_count given < disk.failure_count back))
    ⊎ ((fault ≡ cell.TooLarge) × (disk.failure_count back ≡ disk.failure_count given)
    × HoldsNoHeader (disk.sector_count given) (disk.content given))
    → NotOver disk given back told
cell_refused disk stays given back fault told held is looks setup (inl failed) =
    let device : told ≡ Device = is ∙ ap of_cell failed.0 in
    record {
      why = subst IsOfReopening (sym device) tt;
      as_left = looked_at disk given back held looks.quiet setup;
      failed = λ same. failed.1;
      otherwise = λ other. absurd (other device);
    }
cell_refused disk stays given back fault told held is looks setup (inr none) =
    absurd (no_header disk given held (stays given) none.2)

-- nor a store on a cell that is ready and holds a record, but for want of memory
pub store_refused : {C : Type 0} (words : CellWords C) (slots : SlotWords C) (kept : RecordView) (old new : C)
    (fault : StoreFault) → IsLoad words slots old new (Err fault) → ∥ Spells kept (slots.whole old) ∥₁
    → IsTrue (words.is_ready old) → IsOfReopening fault
store_refused words slots kept old new fault load spelled ready =
    at fault (load.only kept) (λ same. load.reopen.0 (ap (λ (f : StoreFault). Err f) same))
  where
    at : (f : StoreFault) → (Spells kept (slots.whole old) → IsOfCell f)
        → (f ≡ store.Reopen → words.is_ready old ≡ false) → IsOfReopening f
    at store.NoMemory told reopens = tt
    at store.Device told reopens = tt
    at store.Reopen told reopens = (let down : words.is_ready old ≡ false = reopens refl in cc)
    at store.TooLarge told reopens = ∥∥₁_elim spelled (hlevel ⊥_prop) told
    at store.Truncated told reopens = ∥∥₁_elim spelled (hlevel ⊥_prop) told
    at store.Version told reopens = ∥∥₁_elim spelled (hlevel ⊥_prop) told
    at store.Malformed told reopens = ∥∥₁_elim spelled (hlevel ⊥_prop) told
    at store.HoldsOther told reopens = ∥∥₁_elim spelled (hlevel ⊥_prop) told
    at store.PastNumber told reopens = ∥∥₁_elim spelled (hlevel ⊥_prop) told
    at store.NotHeld told reopens = ∥∥₁_elim spelled (hlevel ⊥_prop) told
    at store.Unsettled told reopens = ∥∥₁_elim spelled (hlevel ⊥_prop) told
    at store.Spent told reopens = ∥∥₁_elim spelled (hlevel ⊥_prop) told

-- the disk of a cell on which no store was opened
pub not_loaded : {D : Type 0} (disk : DiskWords D) (given back : D) (before now : ℕ) (fault : StoreFault)
    → IsOfReopening fault → AsLeft disk given back → before ≡ disk.failure_count given
    → now ≡ disk.failure_count back → HasFailures {T = RecordView} before now (Err fault)
    → NotOver disk given back fault
not_loaded disk given back before now fault why left was later counts = record {
  why = why;
  as_left = left;
  failed =
      λ device. (let more = counts.device (ap (λ (f : StoreFault). Err f) device) in
      omega (arith, more, was, later));
  otherwise = λ other. sym later ∙ (counts.otherwise (λ e. other (same_fault e)) ∙ was);
}
  where
    same_fault : {f g : StoreFault} → ◌≡◌ {A = Result RecordView StoreFault} (Err f) (Err g) → f ≡ g
    same_fault e = cc

-- as it is said of a disk that wasn't formatted
pub as_not_opened : {D : Type 0} (disk : DiskWords D) (given back : D) (fault : StoreFault) → Held disk given
    → NotOver disk given back fault
    → IsNotOpened disk.sector_count disk.failure_count 0 given back fault
as_not_opened disk given back fault held refused = record {
  why = at fault refused.why;
  room = refused.as_left.room;
  failed = refused.failed;
  otherwise = refused.otherwise;
}
  where
    at : (f : StoreFault) → IsOfReopening f → IsOpeningRefusal (disk.sector_count given) 0 f
    at store.NoMemory told = tt
    at store.Device told = (held.long, omega arith)
    at store.Reopen told = absurd told
    at store.TooLarge told = absurd told
    at store.Truncated told = absurd told
    at store.Version told = absurd told
    at store.Malformed told = absurd told
    at store.HoldsOther told = absurd told
    at store.PastNumber told = absurd told
    at store.NotHeld told = absurd told
    at store.Unsettled told = absurd told
    at store.Spent told = absurd told
