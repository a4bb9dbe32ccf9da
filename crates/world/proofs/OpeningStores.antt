-- A store that was opened on a cell with a header and an image, and why none is.
use Rattle.std.proofs.Common.{◌≡◌, ◌⊎◌, inl, inr, ℕ, ◌<◌, ◌≤◌, Bool, true, false, List, Option, Some, None, refl, sym, ap, subst}
use Rattle.std.proofs.Common.{◌∙◌, arith}
use Rattle.std.specs.Prelude.{◌↔◌, Result, Err, IsSome, IsTrue, IsErrOf, nat_le}
use Rattle.std.proofs.lemmas.Bool.{cases_Bool, leb-true, leb-false, true≢false}
use Rattle.std.proofs.lemmas.Option.{none-some}
use Rattle.gate_cell.specs.CellFault.{HasCause}
use Rattle.protocol.specs.Node.Common.{slot_room_on, Whole, RecordView, ImageView, IsRecord, MAX_RETAINED_ITEMS}
use Rattle.protocol.specs.Node.Common.{Spells, cell_in, known_in, record_in, StoreFault, Store}
use Rattle.gate_cell.specs.declared.cell.StableCell.{Ghosts as CellWords}
use Rattle.gate_cell.specs.declared.fault.CellFault.{CellFault}
use Rattle.gate_cell.specs.declared.fault.CellFault.TheVariants as cell
use Rattle.slot_cell.specs.SplitLayout.{HasNoHeaderRoom}
use Rattle.slot_cell.specs.SplitStands.{header_room}
use Rattle.slot_cell.specs.Whole.{with_header, with_slot}
use Rattle.slot_cell.specs.declared.TheConstants.{LEAST_SPLIT_SECTORS}
use Rattle.slot_cell.specs.declared.slot_cell.SlotCell.{Ghosts as SlotWords}
use Rattle.ckpt_codec.specs.Common.{AreAllowed, header_of, IsHeaderText, IsImageText, image_fields, spelled_length}
use Rattle.ckpt_codec.specs.HeaderText.{header_text, IsHeaderTextIn}
use Rattle.ckpt_codec.specs.SizeLaws.{IsRecordWithin}
use Rattle.ckpt_codec.proofs.Headers.{told_is_header}
use Rattle.ckpt_store.proofs.Parts.{parts_of}
use Rattle.station.specs.Nodes.{Node}
use Rattle.protocol_laws.specs.World.RoomLaws.{bounded_is_short}
use Rattle.ckpt_codec.specs.declared.lengths.TheConstants.{MAX_HEADER_BYTES, MAX_RECORD_BYTES}
use Rattle.ckpt_store.specs.Loading.{IsLoad, IsOfCell}
use Rattle.ckpt_store.specs.StoreFault.{of_cell}
use Rattle.ckpt_store.specs.StoreView.{record_or, record_spelled, Holds, IsUntouched}
use Rattle.ckpt_store.specs.declared.fault.StoreFault.TheVariants.{Reopen, Device}
use Rattle.ckpt_store.specs.declared.fault.StoreFault.TheVariants as store
use Rattle.ckpt_store.proofs.Seen.{spelled_is}
use Rattle.ckpt_store.proofs.Spelled.{lies_of}
use Rattle.world.specs.OpeningWorld.{HasRoom, HasNoRoom, IsNotOpened, IsOpeningRefusal, StandsInVersion}

-- ---- a store that was opened

-- a header that names slot 0, and an image there, are a record without a tentative image
pub stands_first : (kept : RecordView) (whole base : Whole) (header image : List ℕ)
    → whole ≡ with_slot 0 (Some image) (with_header (Some header) base) → IsHeaderText (header_of 0 kept) header
    → IsImageText None kept.permanent image → kept.tentative ≡ None → spelled_length kept ≤ MAX_RECORD_BYTES
    → Spells kept whole
stands_first kept whole base header image is says shows alone short = (
  0,
  record {
    one = omega arith;
    says = lies_of (IsHeaderText (header_of 0 kept)) whole.header header (ap (λ (w : Whole). w.header) is) says;
    shows = lies_of (IsImageText None kept.permanent) whole.first image (ap (λ (w : Whole). w.first) is) shows;
    holds = λ t held. absurd (none-some t (sym alone ∙ held));
    short = short;
  },
)

-- what is written of a record, on a disk that was formatted and in a slot that was filled, is the record
pub first_spelled : (version : ℕ) (kept inside : RecordView) (now formatted base : Whole) (header image header_given image_given : List ℕ)
    → inside ≡ kept → formatted ≡ with_header (Some header_given) base → now ≡ with_slot 0 (Some image_given) formatted
    → header_given ≡ header → image_given ≡ image → IsHeaderTextIn version (header_of 0 kept) header
    → ((like : Option ImageView) → AreAllowed (image_fields like inside.permanent)
    → IsImageText like inside.permanent image)
    → IsRecord kept → kept.tentative ≡ None → IsRecordWithin MAX_RETAINED_ITEMS kept → Spells kept now
first_spelled version kept inside now formatted base header image header_given image_given view laid filled header_is image_is
    says shows written alone bounded =
    stands_first kept now base header_given image_given
    (filled ∙ ap (with_slot 0 (Some image_given)) laid)
    (subst (IsHeaderText (header_of 0 kept)) (sym header_is) (told_is_header version (header_of 0 kept) header says))
    (subst (λ (r : RecordView). IsImageText None r.permanent image_given) view
    (subst (IsImageText None inside.permanent) (sym image_is)
    (shows None (subst (λ (r : RecordView). AreAllowed (image_fields None r.permanent)) (sym view)
    (parts_of kept written).permanent)))) alone (bounded_is_short kept bounded)

-- its header is the one that was written, in its version
pub first_header : (version : ℕ) (kept : RecordView) (now formatted base : Whole) (header header_given image_given : List ℕ)
    → formatted ≡ with_header (Some header_given) base → now ≡ with_slot 0 (Some image_given) formatted
    → header_given ≡ header → IsHeaderTextIn version (header_of 0 kept) header
    → now.header ≡ Some (header_text version (header_of 0 kept))
first_header version kept now formatted base header header_given image_given laid filled header_is says =
    ap (λ (w : Whole). w.header) (filled ∙ ap (with_slot 0 (Some image_given)) laid)
    ∙ ap Some (header_is ∙ says.spelled)

-- a crash leaves the opening record of a node that was opened
pub node_left : {C : Type 0} (words : CellWords C) (slots : SlotWords C) (node : Node C slots words)
    (store : Store C slots words) (kept opening : RecordView) → node.store ≡ store → kept ≡ opening → Holds store kept
    → (left : Whole) → slots.may_leave_whole (cell_in node.store) left → Spells opening left
node_left {C} words slots node store kept opening same is holds left might =
    subst (Spells opening) (sym (node.kept.settled left might))
    (subst (λ (r : RecordView). Spells r (slots.whole (cell_in node.store))) is
    (subst (λ (s : Store C slots words). Holds s kept) (sym same) holds))

-- and its header stands in the version in which its disk was formatted
pub node_stands : {C : Type 0} (words : CellWords C) (slots : SlotWords C) (node : Node C slots words)
    (store : Store C slots words) (kept opening : RecordView) (version : ℕ) → node.store ≡ store → kept ≡ opening
    → StandsInVersion version kept store → StandsInVersion version opening node.store
node_stands {C} words slots node store kept opening version same is stands =
    subst (λ (r : RecordView). StandsInVersion version r node.store) is
    (subst (λ (s : Store C slots words). StandsInVersion version kept s) (sym same) stands)

pub answered : (o : Option RecordView) → IsSome o → ¬ (IsErrOf (record_or Reopen o) Device)
answered None known failed = absurd (cc)
answered (Some kept) known failed = absurd (cc)

module _ {C : Type 0} (words : CellWords C) (slots : SlotWords C) (kept : RecordView) (cell : C)
    (opened recounted : Store C slots words)
    (load : IsLoad words slots cell (cell_in opened) (record_or Reopen (known_in opened)))
    (same : IsUntouched opened recounted) where
  -- shows that record
  pub opened_record : Spells kept (slots.whole cell) → record_in recounted ≡ kept
  opened_record spelled =
      ap record_spelled (same.same_whole ∙ load.same_whole) ∙ spelled_is kept (slots.whole cell) spelled

  -- and holds it
  pub opened_holds : Spells kept (slots.whole cell) → Holds recounted kept
  opened_holds spelled = subst (Spells kept) (sym (same.same_whole ∙ load.same_whole)) spelled

  -- its header stands as it stood
  pub opened_header : (version : ℕ) → (slots.whole cell).header ≡ Some (header_text version (header_of 0 kept))
      → StandsInVersion version kept recounted
  opened_header version stands = ap (λ (w : Whole). w.header) (same.same_whole ∙ load.same_whole) ∙ stands

  -- the slots of its cell have the room that they had
  pub opened_room : slots.slot_capacity (cell_in recounted) ≡ slots.slot_capacity cell
  opened_room = same.same_slot_room ∙ load.same_slot_room

  -- the faults that were armed are, and its calls are counted anew
  pub opened_armed : words.armed (cell_in recounted) ≡ words.armed (cell_in opened)
      → words.armed (cell_in recounted) ≡ words.armed cell
  opened_armed same_faults = same_faults ∙ load.same_setup.same_faults

  -- its device hasn't failed again
  pub opened_failures : IsSome (known_in opened) → words.failure_count (cell_in recounted) ≡ words.failure_count cell
  opened_failures known = same.failures ∙ load.failures.otherwise (answered (known_in opened) known)

-- ---- room

-- what hasn't room is without
pub room_missing : (sectors image_len : ℕ) → ¬ (HasRoom sectors image_len)
    → IsOpeningRefusal sectors image_len store.TooLarge
room_missing sectors image_len none = at (cases_Bool (nat_le LEAST_SPLIT_SECTORS sectors))
  where
    long : LEAST_SPLIT_SECTORS ≤ sectors
        → (nat_le image_len (slot_room_on sectors) ≡ true) ⊎ (nat_le image_len (slot_room_on sectors) ≡ false)
        → HasNoRoom sectors image_len
    long wide (inl fits) = absurd (none (wide, leb-true image_len (slot_room_on sectors) fits))
    long wide (inr more) = inr (leb-false image_len (slot_room_on sectors) more)

    at : (nat_le LEAST_SPLIT_SECTORS sectors ≡ true) ⊎ (nat_le LEAST_SPLIT_SECTORS sectors ≡ false)
        → HasNoRoom sectors image_len
    at (inl wide) =
        long (leb-true LEAST_SPLIT_SECTORS sectors wide) (cases_Bool (nat_le image_len (slot_room_on sectors)))
    at (inr few) = inl (leb-false LEAST_SPLIT_SECTORS sectors few)

-- ---- refusals

-- one of `format`, as the store tells it: there is room
pub format_refusal : (sectors image_len header_len : ℕ) (fault : CellFault) (told : StoreFault)
    → HasRoom sectors image_len → header_len ≤ MAX_HEADER_BYTES → told ≡ of_cell fault → ¬ (fault ≡ cell.Reopen)
    → (fault ≡ cell.TooLarge → HasNoHeaderRoom sectors header_len) → IsOpeningRefusal sectors image_len told
format_refusal sectors image_len header_len fault told room short is ready large =
    subst (IsOpeningRefusal sectors image_len) (sym is) (at fault ready large)
  where
    never : HasNoHeaderRoom sectors header_len → HasNoRoom sectors image_len
    never (inl few) = inl few
    never (inr more) = (let wide = header_room in absurd (omega (arith, more, short, wide)))

    at : (f : CellFault) → ¬ (f ≡ cell.Reopen) → (f ≡ cell.TooLarge → HasNoHeaderRoom sectors header_len)
        → IsOpeningRefusal sectors image_len (of_cell f)
    at cell.NoMemory ready large = tt
    at cell.Device ready large = room
    at cell.TooLarge ready large = never (large refl)
    at cell.Reopen ready large = absurd (ready refl)

-- one of `fill`, at a cell that is ready and has room
pub fill_refusal : (sectors image_len capacity given_len before now : ℕ) (ready ready_now : Bool) (fault : CellFault)
    (told : StoreFault) → HasRoom sectors image_len → capacity ≡ slot_room_on sectors → given_len ≡ image_len
    → IsTrue ready → told ≡ of_cell fault
    → (IsErrOf {T = Unit {0}} (Err fault) cell.TooLarge ↔ (IsTrue ready × (capacity < given_len)))
    → HasCause {T = Unit {0}} before now ready ready_now (Err fault) → IsOpeningRefusal sectors image_len told
fill_refusal sectors image_len capacity given_len before now ready ready_now fault told room wide long up is large
    cause =
    subst (IsOpeningRefusal sectors image_len) (sym is) (at fault large cause)
  where
    at : (f : CellFault) → (IsErrOf {T = Unit {0}} (Err f) cell.TooLarge ↔ (IsTrue ready × (capacity < given_len)))
        → HasCause {T = Unit {0}} before now ready ready_now (Err f) → IsOpeningRefusal sectors image_len (of_cell f)
    at cell.NoMemory large cause = tt
    at cell.Device large cause = room
    at cell.TooLarge large cause =
        (let more = (large.0 refl).1 in
        let fits = room.1 in
        absurd (omega (arith, more, fits, wide, long)))
    at cell.Reopen large cause = absurd (true≢false (sym up ∙ cause.reopen.0 refl))

-- one of a store on a cell that is ready and holds a record
pub open_refusal : {C : Type 0} (words : CellWords C) (slots : SlotWords C) (kept : RecordView) (old new : C)
    (fault : StoreFault) (sectors image_len : ℕ) → IsLoad words slots old new (Err fault)
    → Spells kept (slots.whole old) → IsTrue (words.is_ready old) → HasRoom sectors image_len
    → IsOpeningRefusal sectors image_len fault
open_refusal words slots kept old new fault sectors image_len load spelled ready room =
    at fault (load.only kept spelled) (λ same. load.reopen.0 (ap (λ (f : StoreFault). Err f) same))
  where
    at : (f : StoreFault) → IsOfCell f → (f ≡ store.Reopen → words.is_ready old ≡ false)
        → IsOpeningRefusal sectors image_len f
    at store.NoMemory told reopens = tt
    at store.Device told reopens = room
    at store.Reopen told reopens = (let down : words.is_ready old ≡ false = reopens refl in cc)
    at store.TooLarge told reopens = absurd told
    at store.Truncated told reopens = absurd told
    at store.Version told reopens = absurd told
    at store.Malformed told reopens = absurd told
    at store.HoldsOther told reopens = absurd told
    at store.PastNumber told reopens = absurd told
    at store.NotHeld told reopens = absurd told
    at store.Unsettled told reopens = absurd told
    at store.Spent told reopens = absurd told

-- ---- what comes back

-- the device failed, as the store tells it
of_device : (f : CellFault) → of_cell f ≡ Device → f ≡ cell.Device
of_device cell.Device e = refl
of_device cell.NoMemory e = absurd (cc)
of_device cell.TooLarge e = absurd (cc)
of_device cell.Reopen e = absurd (cc)

-- of a disk with which nothing was done
pub not_touched : {D : Type 0} (sectors failures : D → ℕ) (image_len : ℕ) (given : D) (fault : StoreFault)
    → IsOpeningRefusal (sectors given) image_len fault → ¬ (fault ≡ Device)
    → IsNotOpened sectors failures image_len given given fault
not_touched sectors failures image_len given fault why other = record {
  why = why;
  room = refl;
  failed = λ device. absurd (other device);
  otherwise = λ else. refl;
}

-- of a disk that wasn't formatted
pub format_back : {D : Type 0} (sectors failures : D → ℕ) (image_len : ℕ) (given back : D) (fault : CellFault)
    (told : StoreFault) → IsOpeningRefusal (sectors given) image_len told → told ≡ of_cell fault
    → sectors back ≡ sectors given → (fault ≡ cell.Device → failures given < failures back)
    → (¬ (fault ≡ cell.Device) → back ≡ given)
    → IsNotOpened sectors failures image_len given back told
format_back sectors failures image_len given back fault told why is same failed unchanged = record {
  why = why;
  room = ap slot_room_on same;
  failed = λ device. failed (of_device fault (sym is ∙ device));
  otherwise = λ other. ap failures (unchanged (λ device. other (is ∙ ap of_cell device)));
}

-- of one whose slot wasn't filled
pub fill_back : {D : Type 0} (sectors failures : D → ℕ) (image_len : ℕ) (given back : D) (before now : ℕ)
    (ready ready_now : Bool) (fault : CellFault) (told : StoreFault) → IsOpeningRefusal (sectors given) image_len told
    → told ≡ of_cell fault
    → slot_room_on (sectors back) ≡ slot_room_on (sectors given) → before ≡ failures given → now ≡ failures back
    → HasCause {T = Unit {0}} before now ready ready_now (Err fault)
    → IsNotOpened sectors failures image_len given back told
fill_back sectors failures image_len given back before now ready ready_now fault told why is room was later cause = record {
  why = why;
  room = room;
  failed =
      λ device. (let more = cause.device (ap (λ (f : CellFault). Err f) (of_device fault (sym is ∙ device))) in
      omega (arith, more, was, later));
  otherwise = λ other. sym later ∙ (cause.otherwise (λ e. other (is ∙ ap of_cell (same_fault e))) ∙ was);
}
  where
    same_fault : {f g : CellFault} → ◌≡◌ {A = Result (Unit {0}) CellFault} (Err f) (Err g) → f ≡ g
    same_fault e = cc

-- of one on whose cell no store was opened
pub load_back : {C D : Type 0} (words : CellWords C) (slots : SlotWords C) (sectors failures : D → ℕ) (image_len : ℕ)
    (given back : D) (old new : C) (fault : StoreFault) → IsOpeningRefusal (sectors given) image_len fault
    → IsLoad words slots old new (Err fault)
    → slots.slot_capacity old ≡ slot_room_on (sectors given) → slots.slot_capacity new ≡ slot_room_on (sectors back)
    → words.failure_count old ≡ failures given → words.failure_count new ≡ failures back
    → IsNotOpened sectors failures image_len given back fault
load_back words slots sectors failures image_len given back old new fault why load room_before room_now before now = record {
  why = why;
  room = sym room_now ∙ (load.same_slot_room ∙ room_before);
  failed =
      λ device. (let more = load.failures.device (ap (λ (f : StoreFault). Err f) device) in
      omega (arith, more, before, now));
  otherwise = λ other. sym now ∙ (load.failures.otherwise (λ e. other (cc)) ∙ before);
}
