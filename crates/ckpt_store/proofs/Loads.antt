-- From what the cell gives and the readers say to what is loaded.
use Rattle.std.proofs.Common.{◌≡◌, ◌⊎◌, ℕ, ◌-◌, ◌<◌, ◌≤◌, inl, inr, ⊎_elim, true, false, List, [], Option, Some, None, Result, Ok, Err, refl}
use Rattle.std.proofs.Common.{sym, ◌∙◌, ap, subst, arith}
use Rattle.std.specs.Prelude.{IsTrue, IsErrOf, IfOk, IfErr}
use Rattle.std.proofs.lemmas.Bool.{cases_Bool, false≢true, leb-true, leb-false}
use Rattle.std.proofs.lemmas.Option.{same_Some, none-some}
use Rattle.std.proofs.Math.Logic.{∥∥₁_elim}
use Rattle.sector_disk.specs.Clock.{Only, LeavesOnly}
use Rattle.sector_disk.proofs.Moments.{joined}
use Rattle.gate_cell.specs.declared.cell.StableCell.{Ghosts as CellWords}
use Rattle.gate_cell.specs.Setup.{LeavesSetup, setup_then}
use Rattle.gate_cell.specs.declared.fault.CellFault.{CellFault}
use Rattle.gate_cell.specs.declared.fault.CellFault.TheVariants as cell
use Rattle.gate_cell.specs.CellFault.{HasCause}
use Rattle.slot_cell.specs.declared.slot_cell.SlotCell.{Ghosts as SlotWords}
use Rattle.slot_cell.specs.Whole.{Whole, slot_in, OnlyLooks}
use Rattle.ckpt_codec.specs.Common.{ImageView, RecordView, Tentative, HeaderView, header_of, spelled_length, IsRecord}
use Rattle.ckpt_codec.specs.HeaderText.{instance_of, tentative_with, record_with, IsTentativeText, IsHeldText}
use Rattle.ckpt_codec.specs.Faults.{IsImageFault, IsReadUnlessMemory, IsRefusedUnlessMemory}
use Rattle.ckpt_codec.specs.declared.header.Instance.{Instance}
use Rattle.ckpt_codec.specs.declared.fault.CodecFault.{CodecFault}
use Rattle.ckpt_codec.specs.declared.fault.CodecFault.TheVariants as codec
use Rattle.ckpt_codec.specs.declared.lengths.TheConstants.{MAX_RECORD_BYTES}
use Rattle.ckpt_codec.proofs.Joined.{apart_is_record, joined_is_apart}
use Rattle.ckpt_store.specs.declared.known.Known.{Known}
use Rattle.ckpt_store.specs.declared.fault.StoreFault.{StoreFault}
use Rattle.ckpt_store.specs.declared.fault.StoreFault.TheVariants.{NoMemory, Device, TooLarge, Reopen, Truncated}
use Rattle.ckpt_store.specs.declared.fault.StoreFault.TheVariants.{Version, Malformed, HoldsOther, PastNumber, NotHeld}
use Rattle.ckpt_store.specs.declared.fault.StoreFault.TheVariants.{Unsettled, Spent}
use Rattle.ckpt_store.specs.StoreFault.{of_cell, of_codec}
use Rattle.ckpt_store.specs.Spelling.{SpellsAt, Spells, SpellsSome, IsKept, is_short, known_as}
use Rattle.ckpt_store.specs.Loading.{IsOfCell, IsOfReopening, IsTextFault, IsHeaderOf, IsHeaderWrong, IsImageOf, IsImageWrong, IsHeldOf, IsHeldWrong, IsShort, IsLong, IsImageThen, IsImageWrongThen, IsHeldThen, IsHeldWrongThen}
use Rattle.ckpt_store.specs.Loading.{OneThen, WrongThen, IsRecordOf, IsWrong, IsRefused, IsRead, IsLook, IsLoad, IsReload}
use Rattle.ckpt_store.proofs.Spelled.{HoldsFor, parts_in, spelled_of, slot_is_one}

-- ---- what a reader says of bytes

same_fault : {X : Type 0} {a b : StoreFault} → ◌≡◌ {A = Result X StoreFault} (Err a) (Err b) → a ≡ b
same_fault e = cc

module _ {X : Type 0} (Is : X → List ℕ → Type 0) (Wrong : List ℕ → CodecFault → Type 0) (found : Option (List ℕ))
    (bytes : List ℕ) (there : found ≡ Some bytes) where
  same_bytes : (b : List ℕ) → found ≡ Some b → b ≡ bytes
  same_bytes b is = same_Some b bytes (sym is ∙ there)

  -- a fault of the text is one that the reader tells
  wrong_told : {Y : Type 0} (answer : Result Y StoreFault) → ((fault : CodecFault) (at : StoreFault) → of_codec fault ≡ at
      → ¬ (fault ≡ codec.NoMemory) → Wrong bytes fault → IsRefused at answer)
      → (fault : StoreFault) → IsTextFault (Wrong bytes) fault → IsRefused fault answer
  wrong_told answer carry Truncated is = carry codec.Truncated Truncated refl (λ e. cc) is
  wrong_told answer carry Version is = carry codec.Version Version refl (λ e. cc) is
  wrong_told answer carry Malformed is = carry codec.Malformed Malformed refl (λ e. cc) is
  wrong_told answer carry NoMemory is = absurd is
  wrong_told answer carry Device is = absurd is
  wrong_told answer carry TooLarge is = absurd is
  wrong_told answer carry Reopen is = absurd is
  wrong_told answer carry HoldsOther is = absurd is
  wrong_told answer carry PastNumber is = absurd is
  wrong_told answer carry NotHeld is = absurd is
  wrong_told answer carry Unsettled is = absurd is
  wrong_told answer carry Spent is = absurd is

  -- the reader gave this
  pub text_found : (x : X) → Is x bytes → ((y : X) → Is y bytes → IsReadUnlessMemory y (Ok x))
      → ((fault : CodecFault) → Wrong bytes fault → IsRefusedUnlessMemory fault (Ok x))
      → IsRead (λ y. (b : List ℕ) × (found ≡ Some b) × Is y b)
      (λ fault. (b : List ℕ) × (found ≡ Some b) × IsTextFault (Wrong b) fault) (Ok x)
  text_found x is only each = record {
    found = (bytes, there, is);
    only = λ y at. only y (subst (Is y) (same_bytes at.0 at.1) at.2);
    cause = tt;
    each = λ fault at. wrong_told (Ok x) (λ told at same not_memory wrong. absurd (not_memory (each told wrong))) fault
        (subst (λ b. IsTextFault (Wrong b) fault) (same_bytes at.0 at.1) at.2);
  }

  told_cause : (fault : CodecFault) → Wrong bytes fault → IsOfCell (of_codec fault) ⊎ IsTextFault (Wrong bytes) (of_codec fault)
  told_cause codec.NoMemory is = inl tt
  told_cause codec.Truncated is = inr is
  told_cause codec.Version is = inr is
  told_cause codec.Malformed is = inr is

  -- the reader refused
  pub text_refused : (told : CodecFault) → ((y : X) → Is y bytes → IsReadUnlessMemory y (Err told))
      → Wrong bytes told → ((fault : CodecFault) → Wrong bytes fault → IsRefusedUnlessMemory {X = X} fault (Err told))
      → IsRead (λ y. (b : List ℕ) × (found ≡ Some b) × Is y b)
      (λ fault. (b : List ℕ) × (found ≡ Some b) × IsTextFault (Wrong b) fault) (Err (of_codec told))
  text_refused told only wrong each = record {
    found = tt;
    only = λ y at. subst (λ f. IsOfCell (of_codec f))
        (sym (only y (subst (Is y) (same_bytes at.0 at.1) at.2))) tt;
    cause = ⊎_elim (λ cell. inl cell) (λ text. inr (bytes, there, text)) (told_cause told wrong);
    each = λ fault at. wrong_told {Y = X} (Err (of_codec told))
        (λ one at same not_memory wrong. ⊎_elim (λ e. absurd (not_memory e))
        (λ other. ⊎_elim (λ memory. inr (subst (λ f. IsOfCell (of_codec f)) (sym memory) tt))
        (λ is. inl (ap of_codec is ∙ same)) other) (each one wrong)) fault
        (subst (λ b. IsTextFault (Wrong b) fault) (same_bytes at.0 at.1) at.2);
  }

-- ---- one part, and then another

module _ {X Z : Type 0} (Is : X → Type 0) (Wrong : StoreFault → Type 0) (Behind : X → Z → Type 0)
    (WrongBehind : X → StoreFault → Type 0) where
  pub then_found : (x : X) (result : Result Z StoreFault) → IsRead Is Wrong (Ok x)
      → IsRead (Behind x) (WrongBehind x) result
      → IsRead (OneThen Is Behind) (WrongThen Is Wrong WrongBehind) result
  then_found x (Ok z) first second = record {
    found = (x, first.found, second.found);
    only = λ y at. second.only y (subst (λ a. Behind a y) (sym (first.only at.0 at.1)) at.2);
    cause = tt;
    each = λ fault at. ⊎_elim (λ wrong. first.each fault wrong)
        (λ behind. second.each fault (subst (λ a. WrongBehind a fault) (sym (first.only behind.0 behind.1)) behind.2)) at;
  }
  then_found x (Err told) first second = record {
    found = tt;
    only = λ y at. second.only y (subst (λ a. Behind a y) (sym (first.only at.0 at.1)) at.2);
    cause = ⊎_elim (λ cell. inl cell) (λ wrong. inr (inr (x, first.found, wrong))) second.cause;
    each = λ fault at. ⊎_elim (λ wrong. absurd (first.each fault wrong))
        (λ behind. second.each fault (subst (λ a. WrongBehind a fault) (sym (first.only behind.0 behind.1)) behind.2)) at;
  }

  pub then_refused : (fault : StoreFault) → IsRead Is Wrong (Err fault)
      → IsRead {X = Z} (OneThen Is Behind) (WrongThen Is Wrong WrongBehind) (Err fault)
  then_refused fault first = record {
    found = tt;
    only = λ y at. first.only at.0 at.1;
    cause = ⊎_elim (λ cell. inl cell) (λ wrong. inr (inl wrong)) first.cause;
    each = λ other at. ⊎_elim (λ wrong. first.each other wrong) (λ behind. inr (first.only behind.0 behind.1)) at;
  }

-- the record isn't too long, or it is
pub short_found : (kept : RecordView) → is_short (spelled_length kept) ≡ true → IsRead (IsShort kept) (IsLong kept) (Ok kept)
short_found kept short = record {
  found = record { same = refl; short = leb-true (spelled_length kept) MAX_RECORD_BYTES short };
  only = λ other at. sym at.same;
  cause = tt;
  each = λ fault at. omega (arith, at.0, leb-true (spelled_length kept) MAX_RECORD_BYTES short);
}

pub long_refused : (kept : RecordView) → is_short (spelled_length kept) ≡ false
    → IsRead (IsShort kept) (IsLong kept) (Err TooLarge)
long_refused kept long = record {
  found = tt;
  only = λ other at. (let more = leb-false (spelled_length kept) MAX_RECORD_BYTES long in
      let few = at.short in
      absurd (omega (arith, more, few)));
  cause = inr (leb-false (spelled_length kept) MAX_RECORD_BYTES long, refl);
  each = λ fault at. inl (sym at.1);
}

told_device : (fault : CodecFault) → ¬ (of_codec fault ≡ Device)
told_device codec.NoMemory e = absurd cc
told_device codec.Truncated e = absurd cc
told_device codec.Version e = absurd cc
told_device codec.Malformed e = absurd cc

told_reopen : (fault : CodecFault) → ¬ (of_codec fault ≡ Reopen)
told_reopen codec.NoMemory e = absurd cc
told_reopen codec.Truncated e = absurd cc
told_reopen codec.Version e = absurd cc
told_reopen codec.Malformed e = absurd cc

-- ---- looks

module _ {C : Type 0} (words : CellWords C) (slots : SlotWords C) where
  -- the cell gave bytes
  pub look_done : {B X : Type 0} (old new : C) (bytes : B) (result : Result X StoreFault)
      → ¬ (IsErrOf result Device) → ¬ (IsErrOf result Reopen)
      → HasCause {T = B} (words.failure_count old) (words.failure_count new) (words.is_ready old)
      (words.is_ready new) (Ok bytes)
      → OnlyLooks slots.whole slots.slot_capacity words.moment slots.left_since_whole slots.may_leave_whole old new
      → LeavesSetup words.capacity words.armed words.call_count old new
      → IsLook words slots old new result
  look_done {B} old new bytes result no_device no_reopen cause looks setup = record {
    reopen = (
      λ e. absurd (no_reopen e),
      λ not_ready. (let e : IsErrOf {T = B} (Ok bytes) cell.Reopen = cause.reopen.1 not_ready in absurd cc),
    );
    failures = record { device = λ e. absurd (no_device e); otherwise = λ other. cause.otherwise (λ e. cc) };
    unchanged = λ e. absurd (no_reopen e);
    stays_ready = λ other. cause.stays_ready;
    same_whole = looks.same;
    same_setup = setup;
    same_slot_room = looks.same_slot_room;
    any_moment = looks.any_moment;
  }

  -- the cell gave bytes, and the reader refused them
  pub codec_look : {B X : Type 0} (old new : C) (bytes : B) (fault : CodecFault)
      → HasCause {T = B} (words.failure_count old) (words.failure_count new) (words.is_ready old)
      (words.is_ready new) (Ok bytes)
      → OnlyLooks slots.whole slots.slot_capacity words.moment slots.left_since_whole slots.may_leave_whole old new
      → LeavesSetup words.capacity words.armed words.call_count old new
      → IsLook words slots old new {X = X} (Err (of_codec fault))
  codec_look old new bytes fault cause looks setup =
      look_done old new bytes (Err (of_codec fault)) (λ e. told_device fault (same_fault e))
      (λ e. told_reopen fault (same_fault e)) cause looks setup

  -- the cell refused
  pub look_refused : {B X : Type 0} (old new : C) (fault : CellFault)
      → (IsErrOf {T = B} (Err fault) cell.Reopen → new ≡ old)
      → HasCause {T = B} (words.failure_count old) (words.failure_count new) (words.is_ready old)
      (words.is_ready new) (Err fault)
      → OnlyLooks slots.whole slots.slot_capacity words.moment slots.left_since_whole slots.may_leave_whole old new
      → LeavesSetup words.capacity words.armed words.call_count old new
      → IsLook words slots old new {X = X} (Err (of_cell fault))
  look_refused old new cell.NoMemory unchanged cause looks setup = record {
    reopen = (λ e. absurd cc, λ not_ready. (let e = cause.reopen.1 not_ready in absurd cc));
    failures = record { device = λ e. absurd cc; otherwise = λ other. cause.otherwise (λ e. cc) };
    unchanged = λ e. absurd cc;
    stays_ready = λ other. cause.stays_ready;
    same_whole = looks.same;
    same_setup = setup;
    same_slot_room = looks.same_slot_room;
    any_moment = looks.any_moment;
  }
  look_refused old new cell.Device unchanged cause looks setup = record {
    reopen = (λ e. absurd cc, λ not_ready. (let e = cause.reopen.1 not_ready in absurd cc));
    failures = record { device = λ e. cause.device refl; otherwise = λ other. absurd (other refl) };
    unchanged = λ e. absurd cc;
    stays_ready = λ other. absurd (other refl);
    same_whole = looks.same;
    same_setup = setup;
    same_slot_room = looks.same_slot_room;
    any_moment = looks.any_moment;
  }
  look_refused old new cell.TooLarge unchanged cause looks setup = record {
    reopen = (λ e. absurd cc, λ not_ready. (let e = cause.reopen.1 not_ready in absurd cc));
    failures = record { device = λ e. absurd cc; otherwise = λ other. cause.otherwise (λ e. cc) };
    unchanged = λ e. absurd cc;
    stays_ready = λ other. cause.stays_ready;
    same_whole = looks.same;
    same_setup = setup;
    same_slot_room = looks.same_slot_room;
    any_moment = looks.any_moment;
  }
  look_refused old new cell.Reopen unchanged cause looks setup = record {
    reopen = (λ e. cause.reopen.0 refl, λ not_ready. refl);
    failures = record { device = λ e. absurd cc; otherwise = λ other. cause.otherwise (λ e. cc) };
    unchanged = λ e. unchanged refl;
    stays_ready = λ other. cause.stays_ready;
    same_whole = looks.same;
    same_setup = setup;
    same_slot_room = looks.same_slot_room;
    any_moment = looks.any_moment;
  }

  -- it was ready where it gave something
  pub ready_before : {X : Type 0} (old new : C) (x : X) → IsLook words slots old new (Ok x)
      → IsTrue (words.is_ready old)
  ready_before {X} old new x look =
      ⊎_elim (λ ready. ready)
      (λ not_ready. (let e : IsErrOf {T = X} (Ok x) Reopen = look.reopen.1 not_ready in absurd cc))
      (cases_Bool (words.is_ready old))

  pub ready_behind : {X : Type 0} (old new : C) (x : X) → IsLook words slots old new (Ok x)
      → IsTrue (words.is_ready new)
  ready_behind old new x look = look.stays_ready (λ e. absurd cc) ∙ ready_before old new x look

  -- the same of another result: it is the same refusal, or there is none
  pub look_err : {X Z : Type 0} (old new : C) (fault : StoreFault) → IsLook words slots old new {X = X} (Err fault)
      → IsLook words slots old new {X = Z} (Err fault)
  look_err old new fault look = record {
    reopen = (λ e. look.reopen.0 (ap Err (same_fault e)), λ not_ready. ap Err (same_fault (look.reopen.1 not_ready)));
    failures = record {
      device = λ e. look.failures.device (ap Err (same_fault e));
      otherwise = λ other. look.failures.otherwise (λ e. other (ap Err (same_fault e)));
    };
    unchanged = λ e. look.unchanged (ap Err (same_fault e));
    stays_ready = λ other. look.stays_ready (λ e. other (ap Err (same_fault e)));
    same_whole = look.same_whole;
    same_setup = look.same_setup;
    same_slot_room = look.same_slot_room;
    any_moment = look.any_moment;
  }

  pub look_as : {X Z : Type 0} (old new : C) (x : X) (result : Result Z StoreFault) → ¬ (IsErrOf result Device)
      → ¬ (IsErrOf result Reopen) → IsLook words slots old new (Ok x) → IsLook words slots old new result
  look_as old new x result no_device no_reopen look = record {
    reopen = (
      λ e. absurd (no_reopen e),
      λ not_ready. absurd (false≢true (sym not_ready ∙ ready_before old new x look)),
    );
    failures = record { device = λ e. absurd (no_device e); otherwise = λ other. look.failures.otherwise (λ e. absurd cc) };
    unchanged = λ e. absurd (no_reopen e);
    stays_ready = λ other. look.stays_ready (λ e. absurd cc);
    same_whole = look.same_whole;
    same_setup = look.same_setup;
    same_slot_room = look.same_slot_room;
    any_moment = look.any_moment;
  }

  -- one look, and then another
  pub look_then : {X Z : Type 0} (old mid new : C) (x : X) (result : Result Z StoreFault)
      → ((left : Whole) → words.moment old ≤ words.moment mid → slots.may_leave_whole mid left
      → slots.left_since_whole mid (words.moment old) left)
      → IsLook words slots old mid (Ok x) → IsLook words slots mid new result → IsLook words slots old new result
  look_then old mid new x result includes_now first second = record {
    reopen = (
      λ e. absurd (false≢true (sym (second.reopen.0 e) ∙ ready_behind old mid x first)),
      λ not_ready. absurd (false≢true (sym not_ready ∙ ready_before old mid x first)),
    );
    failures = record {
      device = λ e. subst (λ n. n < words.failure_count new) (first.failures.otherwise (λ e. absurd cc))
          (second.failures.device e);
      otherwise = λ other. second.failures.otherwise other ∙ first.failures.otherwise (λ e. absurd cc);
    };
    unchanged = λ e. absurd (false≢true (sym (second.reopen.0 e) ∙ ready_behind old mid x first));
    stays_ready = λ other. second.stays_ready other ∙ first.stays_ready (λ e. absurd cc);
    same_whole = second.same_whole ∙ first.same_whole;
    same_setup = setup_then words.capacity words.armed words.call_count old mid new first.same_setup second.same_setup;
    same_slot_room = second.same_slot_room ∙ first.same_slot_room;
    any_moment = joined words.moment slots.left_since_whole old mid new (slots.may_leave_whole old)
        (slots.may_leave_whole mid) first.any_moment second.any_moment
        (λ left now. first.any_moment.each left (includes_now left first.any_moment.later now));
  }

-- ---- the record

held_lies : (permanent : ImageView) (i : Option Instance) (found : Option (List ℕ)) (held : Option ImageView)
    → IsHeldOf permanent i found held
    → (bytes : List ℕ) × IsHeldText permanent i held bytes × HoldsFor (tentative_with i held) found bytes
held_lies permanent None found held is = ([], tt, tt)
held_lies permanent (Some i) found held is = (
  is.2.0,
  subst (λ (h : Option ImageView). IsHeldText permanent (Some i) h is.2.0) (sym is.1) is.2.2,
  subst (λ (h : Option ImageView). HoldsFor (tentative_with (Some i) h) found is.2.0) (sym is.1) is.2.1,
)

-- what was read part by part is held
pub record_is_spelled : (w : Whole) (h : HeaderView) (permanent : ImageView) (held : Option ImageView)
    → IsHeaderOf w h → IsImageOf None (slot_in h.slot w) permanent
    → IsHeldOf permanent h.tentative (slot_in (1 - h.slot) w) held
    → spelled_length (record_with h permanent held) ≤ MAX_RECORD_BYTES
    → SpellsAt h.slot (record_with h permanent held) w
record_is_spelled w h permanent held header image other short =
    let second = held_lies permanent h.tentative (slot_in (1 - h.slot) w) held other in
    spelled_of (record_with h permanent held) h.slot w (slot_is_one h header.0 header.2) short (record {
      header = header.0;
      first = image.0;
      second = second.0;
      says = header.1;
      shows = image.1;
      holds = second.2;
      apart = joined_is_apart h permanent held header.0 image.0 second.0 header.2 image.2 second.1;
    })

-- and may be written
pub read_is_record : (w : Whole) (h : HeaderView) (permanent : ImageView) (held : Option ImageView)
    (first second : Option (List ℕ)) → IsHeaderOf w h → IsImageOf None first permanent
    → IsHeldOf permanent h.tentative second held → IsRecord (record_with h permanent held)
read_is_record w h permanent held first second header image other =
    let s = held_lies permanent h.tentative second held other in
    apart_is_record (record_with h permanent held) h.slot header.0 image.0 s.0
    (joined_is_apart h permanent held header.0 image.0 s.0 header.2 image.2 s.1)

-- and what is held is read so
held_read : (permanent : ImageView) (t : Option Tentative) (found : Option (List ℕ)) (bytes : List ℕ)
    → HoldsFor t found bytes → IsTentativeText permanent t bytes
    → (held : Option ImageView) × IsHeldOf permanent (instance_of t) found held × (tentative_with (instance_of t) held ≡ t)
held_read permanent None found bytes is text = (None, refl, refl)
held_read permanent (Some t) found bytes is text = (Some t.image, (t.image, refl, (bytes, is, text)), refl)

pub spelled_is_read : (w : Whole) (kept : RecordView) → Spells kept w → IsRecordOf w kept
spelled_is_read w kept is =
    let slot = is.0 in
    let s = parts_in kept slot w is.1 in
    let held = held_read kept.permanent kept.tentative (slot_in (1 - slot) w) s.second s.holds s.apart.holds in
    let same : kept ≡ record_with (header_of slot kept) kept.permanent held.0 =
    ap (λ (t : Option Tentative). record kept { tentative = t }) (sym held.2) in (
      header_of slot kept,
      (s.header, s.says, s.apart.says),
      (
        kept.permanent,
        (s.first, s.shows, s.apart.shows),
        (
          held.0,
          held.1,
          record {
            same = same;
            short = subst (λ (k : RecordView). spelled_length k ≤ MAX_RECORD_BYTES) same is.1.short;
          },
        ),
      ),
    )

pub read_is_spelled : (w : Whole) (kept : RecordView) → IsRecordOf w kept → Spells kept w
read_is_spelled w kept is =
    let h = is.0 in
    let permanent = is.2.0 in
    let held = is.2.2.0 in
    let short = is.2.2.2 in (
      h.slot,
      subst (λ (k : RecordView). SpellsAt h.slot k w) (sym short.same)
          (record_is_spelled w h permanent held is.1 is.2.1 is.2.2.1 short.short),
    )

module _ {C : Type 0} (words : CellWords C) (slots : SlotWords C) (old new : C) where
  pub is_load : (result : Result RecordView StoreFault) → IsLook words slots old new result
      → IsRead (IsRecordOf (slots.whole old)) (IsWrong (slots.whole old)) result → IsLoad words slots old new result
  is_load result look read = record {
    found = found_so result read.found;
    only = λ kept is. read.only kept (spelled_is_read (slots.whole old) kept is);
    cause = read.cause;
    each = read.each;
    reopen = look.reopen;
    failures = look.failures;
    unchanged = look.unchanged;
    stays_ready = look.stays_ready;
    same_whole = look.same_whole;
    same_setup = look.same_setup;
    same_slot_room = look.same_slot_room;
    any_moment = look.any_moment;
  }
    where
      found_so : (result : Result RecordView StoreFault) → IfOk result (IsRecordOf (slots.whole old))
          → IfOk result (λ kept. Spells kept (slots.whole old))
      found_so (Ok kept) is = read_is_spelled (slots.whole old) kept is
      found_so (Err fault) is = tt

  -- what a store keeps then
  pub load_kept : (known : Known) → IsLook words slots old new (Ok known) → SpellsAt known.slot known.kept (slots.whole old)
      → (IsTrue (words.is_ready old) → Only (slots.whole old) (slots.may_leave_whole old))
      → ((left : Whole) → words.moment old ≤ words.moment new → slots.may_leave_whole new left
      → slots.left_since_whole new (words.moment old) left)
      → IsKept words.is_ready slots.whole slots.may_leave_whole new (Some known)
  load_kept known look spelled settled includes_now = record {
    leaves =
        λ left might. (let same =
        settled (ready_before words slots old new known look) left
        (look.any_moment.each left (includes_now left look.any_moment.later might)) in
        ∣ (known.kept, (known.slot, subst (SpellsAt known.slot known.kept) (sym same) spelled)) ∣₁);
    ready = λ some. ready_behind words slots old new known look;
    holds = λ k is. (let same : known ≡ k = same_Some known k is in
        subst (λ (k : Known). SpellsAt k.slot k.kept (slots.whole new)) same
        (subst (SpellsAt known.slot known.kept) (sym look.same_whole) spelled));
  }

-- a call that adds nothing to what a crash leaves keeps what a store keeps
pub kept_untouched : {C : Type 0} (words : CellWords C) (slots : SlotWords C) (old new : C) (known : Option Known)
    → ((left : Whole) → words.moment old ≤ words.moment new → slots.may_leave_whole new left
    → slots.left_since_whole new (words.moment old) left)
    → IsKept words.is_ready slots.whole slots.may_leave_whole old known → slots.whole new ≡ slots.whole old
    → words.is_ready new ≡ words.is_ready old
    → LeavesOnly words.moment slots.left_since_whole old new (slots.may_leave_whole old)
    → IsKept words.is_ready slots.whole slots.may_leave_whole new known
kept_untouched words slots old new known includes_now was same_whole same_readiness moments = record {
  leaves = λ left might. was.leaves left (moments.each left (includes_now left moments.later might));
  ready = λ some. same_readiness ∙ was.ready some;
  holds = λ k is. subst (SpellsAt k.slot k.kept) (sym same_whole) (was.holds k is);
}

-- and where no record is known
pub kept_unknown : {C : Type 0} (words : CellWords C) (slots : SlotWords C) (old new : C) (known : Option Known)
    → ((left : Whole) → words.moment old ≤ words.moment new → slots.may_leave_whole new left
    → slots.left_since_whole new (words.moment old) left)
    → IsKept words.is_ready slots.whole slots.may_leave_whole old known
    → LeavesOnly words.moment slots.left_since_whole old new (slots.may_leave_whole old)
    → IsKept words.is_ready slots.whole slots.may_leave_whole new None
kept_unknown words slots old new known includes_now was moments = record {
  leaves = λ left might. was.leaves left (moments.each left (includes_now left moments.later might));
  ready = λ some. absurd (false≢true some);
  holds = λ k is. absurd (none-some k is);
}

-- ---- a record that was loaded again

one_proof : (fault : StoreFault) (x y : IsOfReopening fault) → x ≡ y
one_proof NoMemory x y = refl
one_proof Device x y = refl
one_proof TooLarge x y = absurd x
one_proof Reopen x y = absurd x
one_proof Truncated x y = absurd x
one_proof Version x y = absurd x
one_proof Malformed x y = absurd x
one_proof HoldsOther x y = absurd x
one_proof PastNumber x y = absurd x
one_proof NotHeld x y = absurd x
one_proof Unsettled x y = absurd x
one_proof Spent x y = absurd x

-- a refusal that tells nothing of what is held, and not that the cell isn't ready
of_reopening : (fault : StoreFault) → IsOfCell fault → ¬ (fault ≡ Reopen) → IsOfReopening fault
of_reopening NoMemory is other = tt
of_reopening Device is other = tt
of_reopening Reopen is other = other refl
of_reopening TooLarge is other = absurd is
of_reopening Truncated is other = absurd is
of_reopening Version is other = absurd is
of_reopening Malformed is other = absurd is
of_reopening HoldsOther is other = absurd is
of_reopening PastNumber is other = absurd is
of_reopening NotHeld is other = absurd is
of_reopening Unsettled is other = absurd is
of_reopening Spent is other = absurd is

module _ {C : Type 0} (words : CellWords C) (slots : SlotWords C) (old mid new : C)
    (includes_now : (left : Whole) → words.moment old ≤ words.moment mid → slots.may_leave_whole mid left
    → slots.left_since_whole mid (words.moment old) left)
    (ready : IsTrue (words.is_ready mid))
    (looks : OnlyLooks slots.whole slots.slot_capacity words.moment slots.left_since_whole slots.may_leave_whole old mid)
    (setup : LeavesSetup words.capacity words.armed words.call_count old mid)
    (failures : words.failure_count mid ≡ words.failure_count old) where
  moments_both : LeavesOnly words.moment slots.left_since_whole mid new (slots.may_leave_whole mid)
      → LeavesOnly words.moment slots.left_since_whole old new (slots.may_leave_whole old)
  moments_both second =
      joined words.moment slots.left_since_whole old mid new (slots.may_leave_whole old) (slots.may_leave_whole mid)
      looks.any_moment second (λ left now. looks.any_moment.each left (includes_now left looks.any_moment.later now))

  pub reload_refused : (fault : StoreFault)
      → ((left : Whole) → slots.may_leave_whole old left → SpellsSome left)
      → slots.may_leave_whole old (slots.whole old)
      → IsLoad words slots mid new (Err fault) → IsReload words slots old new None {T = Unit {0}} (Err fault)
  reload_refused fault leaves stays load = record {
    some = tt;
    only = λ kept is. tt;
    none = refl;
    refusals = ∥∥₁_elim (leaves (slots.whole old) stays) (one_proof fault)
        (λ e. of_reopening fault (load.only e.0 (subst (Spells e.0) (sym looks.same) e.1))
        (λ is. false≢true (sym (load.reopen.0 (ap Err is)) ∙ ready)));
    failures = record {
      device = λ e. subst (λ n. n < words.failure_count new) failures (load.failures.device (ap Err (same_fault e)));
      otherwise = λ other. load.failures.otherwise (λ e. other (ap Err (same_fault e))) ∙ failures;
    };
    same_whole = load.same_whole ∙ looks.same;
    same_setup = setup_then words.capacity words.armed words.call_count old mid new setup load.same_setup;
    same_slot_room = load.same_slot_room ∙ looks.same_slot_room;
    any_moment = moments_both load.any_moment;
  }

  pub reload_done : (known : Known) → IsLoad words slots mid new (Ok known.kept)
      → IsReload words slots old new (Some known.kept) {T = Unit {0}} (Ok tt)
  reload_done known load = record {
    some = refl;
    only = λ kept is. ap Some (load.only kept (subst (Spells kept) (sym looks.same) is));
    none = tt;
    refusals = tt;
    failures = record {
      device = λ e. absurd cc;
      otherwise = λ other. load.failures.otherwise (λ e. absurd cc) ∙ failures;
    };
    same_whole = load.same_whole ∙ looks.same;
    same_setup = setup_then words.capacity words.armed words.call_count old mid new setup load.same_setup;
    same_slot_room = load.same_slot_room ∙ looks.same_slot_room;
    any_moment = moments_both load.any_moment;
  }

-- the device failed as the cell was reopened
pub reopen_failed : {C : Type 0} (words : CellWords C) (slots : SlotWords C) (old new : C)
    → words.failure_count old < words.failure_count new
    → OnlyLooks slots.whole slots.slot_capacity words.moment slots.left_since_whole slots.may_leave_whole old new
    → LeavesSetup words.capacity words.armed words.call_count old new
    → IsReload words slots old new None {T = Unit {0}} (Err Device)
reopen_failed words slots old new failed looks setup = record {
  some = tt;
  only = λ kept is. tt;
  none = refl;
  refusals = tt;
  failures = record { device = λ e. failed; otherwise = λ other. absurd (other refl) };
  same_whole = looks.same;
  same_setup = setup;
  same_slot_room = looks.same_slot_room;
  any_moment = looks.any_moment;
}

-- ---- an image in a slot

-- bytes stand there, so no length does that doesn't fit
pub image_read : (like : Option ImageView) (found : Option (List ℕ)) (bytes : List ℕ) → found ≡ Some bytes
    → (result : Result ImageView StoreFault)
    → IsRead (IsImageOf like found) (λ fault. (b : List ℕ) × (found ≡ Some b) × IsTextFault (IsImageFault like b) fault)
    result
    → IsRead (IsImageOf like found) (IsImageWrong like found) result
image_read like found bytes there result read = record {
  found = read.found;
  only = read.only;
  cause = or_text result read.cause;
  each = λ fault at. ⊎_elim (λ none. absurd (none-some bytes (sym none.0 ∙ there))) (λ text. read.each fault text) at;
}
  where
    or_text : (result : Result ImageView StoreFault)
        → IfErr result (λ fault. IsOfCell fault
        ⊎ ((b : List ℕ) × (found ≡ Some b) × IsTextFault (IsImageFault like b) fault))
        → IfErr result (λ fault. IsOfCell fault ⊎ IsImageWrong like found fault)
    or_text (Ok image) cause = tt
    or_text (Err fault) cause = ⊎_elim (λ cell. inl cell) (λ text. inr (inr text)) cause

-- ---- a whole record, part by part

image_at : {X : Type 0} (Is : Option (List ℕ) → X → Type 0) (Wrong : Option (List ℕ) → StoreFault → Type 0)
    (result : Result X StoreFault) (found there : Option (List ℕ)) → found ≡ there
    → IsRead (Is found) (Wrong found) result → IsRead (Is there) (Wrong there) result
image_at Is Wrong result found there same read = subst (λ o. IsRead (Is o) (Wrong o) result) same read

module _ {C : Type 0} (words : CellWords C) (slots : SlotWords C)
    (includes : (one : C) (t : ℕ) (left : Whole) → t ≤ words.moment one → slots.may_leave_whole one left
    → slots.left_since_whole one t left) where
  pub header_refused : (old new : C) (fault : StoreFault) → IsLook words slots old new {X = HeaderView} (Err fault)
      → IsRead {X = HeaderView} (IsHeaderOf (slots.whole old)) (IsHeaderWrong (slots.whole old)) (Err fault)
      → IsLoad words slots old new (Err fault)
  header_refused old new fault look read =
      is_load words slots old new (Err fault) (look_err words slots old new fault look)
      (then_refused (IsHeaderOf (slots.whole old)) (IsHeaderWrong (slots.whole old)) (IsImageThen (slots.whole old))
      (IsImageWrongThen (slots.whole old)) fault read)

  module _ (old mid : C) (h : HeaderView) (look : IsLook words slots old mid (Ok h))
      (read : IsRead (IsHeaderOf (slots.whole old)) (IsHeaderWrong (slots.whole old)) (Ok h)) where
    behind_header : (new : C) (result : Result RecordView StoreFault) → IsLook words slots mid new result
        → IsRead (IsImageThen (slots.whole old) h) (IsImageWrongThen (slots.whole old) h) result
        → IsLoad words slots old new result
    behind_header new result second found =
        is_load words slots old new result
        (look_then words slots old mid new h result (λ left le might. includes mid (words.moment old) left le might) look
        second)
        (then_found (IsHeaderOf (slots.whole old)) (IsHeaderWrong (slots.whole old)) (IsImageThen (slots.whole old))
        (IsImageWrongThen (slots.whole old)) h result read found)

    slot_there : (slot : ℕ) → slot ≡ h.slot → slot_in slot (slots.whole mid) ≡ slot_in h.slot (slots.whole old)
    slot_there slot at =
        ap (λ k. slot_in k (slots.whole mid)) at ∙ ap (λ w. slot_in h.slot w) look.same_whole

    pub image_refused : (new : C) (slot : ℕ) (fault : StoreFault) → slot ≡ h.slot
        → IsLook words slots mid new {X = ImageView} (Err fault)
        → IsRead {X = ImageView} (IsImageOf None (slot_in slot (slots.whole mid)))
        (IsImageWrong None (slot_in slot (slots.whole mid))) (Err fault)
        → IsLoad words slots old new (Err fault)
    image_refused new slot fault at second found =
        behind_header new (Err fault) (look_err words slots mid new fault second)
        (then_refused (IsImageOf None (slot_in h.slot (slots.whole old)))
        (IsImageWrong None (slot_in h.slot (slots.whole old))) (IsHeldThen (slots.whole old) h)
        (IsHeldWrongThen (slots.whole old) h) fault
        (image_at (IsImageOf None) (IsImageWrong None) (Err fault) (slot_in slot (slots.whole mid))
        (slot_in h.slot (slots.whole old)) (slot_there slot at) found))

    module _ (last : C) (permanent : ImageView) (slot : ℕ) (at : slot ≡ h.slot)
        (second : IsLook words slots mid last (Ok permanent))
        (image : IsRead (IsImageOf None (slot_in slot (slots.whole mid)))
        (IsImageWrong None (slot_in slot (slots.whole mid))) (Ok permanent)) where
      behind_image : (new : C) (result : Result RecordView StoreFault) → IsLook words slots last new result
          → IsRead (IsHeldThen (slots.whole old) h permanent) (IsHeldWrongThen (slots.whole old) h permanent) result
          → IsLoad words slots old new result
      behind_image new result third found =
          behind_header new result
          (look_then words slots mid last new permanent result
          (λ left le might. includes last (words.moment mid) left le might) second third)
          (then_found (IsImageOf None (slot_in h.slot (slots.whole old)))
          (IsImageWrong None (slot_in h.slot (slots.whole old))) (IsHeldThen (slots.whole old) h)
          (IsHeldWrongThen (slots.whole old) h) permanent result (permanent_read image) found)
        where
          permanent_read : IsRead (IsImageOf None (slot_in slot (slots.whole mid)))
              (IsImageWrong None (slot_in slot (slots.whole mid))) (Ok permanent)
              → IsRead (IsImageOf None (slot_in h.slot (slots.whole old)))
              (IsImageWrong None (slot_in h.slot (slots.whole old))) (Ok permanent)
          permanent_read image =
              image_at (IsImageOf None) (IsImageWrong None) (Ok permanent) (slot_in slot (slots.whole mid))
              (slot_in h.slot (slots.whole old)) (slot_there slot at) image

      other_there : slot_in (1 - h.slot) (slots.whole last) ≡ slot_in (1 - h.slot) (slots.whole old)
      other_there = ap (λ w. slot_in (1 - h.slot) w) (second.same_whole ∙ look.same_whole)

      held_at : (result : Result (Option ImageView) StoreFault)
          → IsRead (IsHeldOf permanent h.tentative (slot_in (1 - h.slot) (slots.whole last)))
          (IsHeldWrong permanent h.tentative (slot_in (1 - h.slot) (slots.whole last))) result
          → IsRead (IsHeldOf permanent h.tentative (slot_in (1 - h.slot) (slots.whole old)))
          (IsHeldWrong permanent h.tentative (slot_in (1 - h.slot) (slots.whole old))) result
      held_at result found =
          image_at (IsHeldOf permanent h.tentative) (IsHeldWrong permanent h.tentative) result
          (slot_in (1 - h.slot) (slots.whole last)) (slot_in (1 - h.slot) (slots.whole old)) other_there found

      pub held_refused : (new : C) (fault : StoreFault) → IsLook words slots last new {X = Option ImageView} (Err fault)
          → IsRead {X = Option ImageView} (IsHeldOf permanent h.tentative (slot_in (1 - h.slot) (slots.whole last)))
          (IsHeldWrong permanent h.tentative (slot_in (1 - h.slot) (slots.whole last))) (Err fault)
          → IsLoad words slots old new (Err fault)
      held_refused new fault third found =
          behind_image new (Err fault) (look_err words slots last new fault third)
          (then_refused (IsHeldOf permanent h.tentative (slot_in (1 - h.slot) (slots.whole old)))
          (IsHeldWrong permanent h.tentative (slot_in (1 - h.slot) (slots.whole old)))
          (λ held. IsShort (record_with h permanent held)) (λ held. IsLong (record_with h permanent held)) fault
          (held_at (Err fault) found))

      module _ (new : C) (held : Option ImageView) (third : IsLook words slots last new (Ok held))
          (beside : IsRead (IsHeldOf permanent h.tentative (slot_in (1 - h.slot) (slots.whole last)))
          (IsHeldWrong permanent h.tentative (slot_in (1 - h.slot) (slots.whole last))) (Ok held)) where
        behind_held : (result : Result RecordView StoreFault) → ¬ (IsErrOf result Device) → ¬ (IsErrOf result Reopen)
            → IsRead (IsShort (record_with h permanent held)) (IsLong (record_with h permanent held)) result
            → IsLoad words slots old new result
        behind_held result no_device no_reopen found =
            behind_image new result (look_as words slots last new held result no_device no_reopen third)
            (then_found (IsHeldOf permanent h.tentative (slot_in (1 - h.slot) (slots.whole old)))
            (IsHeldWrong permanent h.tentative (slot_in (1 - h.slot) (slots.whole old)))
            (λ held. IsShort (record_with h permanent held)) (λ held. IsLong (record_with h permanent held)) held result
            (held_at (Ok held) beside) found)

        pub too_long : is_short (spelled_length (record_with h permanent held)) ≡ false
            → IsLoad words slots old new (Err TooLarge)
        too_long long =
            behind_held (Err TooLarge) (λ e. absurd cc) (λ e. absurd cc)
            (long_refused (record_with h permanent held) long)

        pub loaded : is_short (spelled_length (record_with h permanent held)) ≡ true
            → IsLoad words slots old new (Ok (record_with h permanent held))
        loaded short =
            behind_held (Ok (record_with h permanent held)) (λ e. absurd cc) (λ e. absurd cc)
            (short_found (record_with h permanent held) short)

        look_all : (known : Known) → IsLook words slots old new (Ok known)
        look_all known =
            look_then words slots old mid new h (Ok known)
            (λ left le might. includes mid (words.moment old) left le might) look
            (look_then words slots mid last new permanent (Ok known)
            (λ left le might. includes last (words.moment mid) left le might) second
            (look_as words slots last new held (Ok known) (λ e. absurd cc) (λ e. absurd cc) third))

        pub loaded_kept : is_short (spelled_length (record_with h permanent held)) ≡ true
            → (IsTrue (words.is_ready old) → Only (slots.whole old) (slots.may_leave_whole old))
            → IsKept words.is_ready slots.whole slots.may_leave_whole new
            (Some (known_as (record_with h permanent held) slot))
        loaded_kept short settled =
            load_kept words slots old new (known_as (record_with h permanent held) slot)
            (look_all (known_as (record_with h permanent held) slot))
            (subst (λ k. SpellsAt k (record_with h permanent held) (slots.whole old)) (sym at)
            (record_is_spelled (slots.whole old) h permanent held read.found
            (subst (λ o. IsImageOf None o permanent) (slot_there slot at) image.found)
            (subst (λ o. IsHeldOf permanent h.tentative o held) other_there beside.found)
            (leb-true (spelled_length (record_with h permanent held)) MAX_RECORD_BYTES short))) settled
            (λ left le might. includes new (words.moment old) left le might)

-- a tentative image that the header names
pub held_found : (permanent : ImageView) (i : Option Instance) (found : Option (List ℕ)) (image : ImageView)
    → ¬ (i ≡ None)
    → IsRead (IsImageOf (Some permanent) found) (IsImageWrong (Some permanent) found) (Ok image)
    → IsRead (IsHeldOf permanent i found) (IsHeldWrong permanent i found) (Ok (Some image))
held_found permanent None found image some read = absurd (some refl)
held_found permanent (Some i) found image some read = record {
  found = (image, refl, read.found);
  only = λ held at. ap Some (read.only at.0 at.2) ∙ sym at.1;
  cause = tt;
  each = λ fault wrong. read.each fault wrong;
}

pub held_not_found : (permanent : ImageView) (i : Option Instance) (found : Option (List ℕ)) (fault : StoreFault)
    → ¬ (i ≡ None)
    → IsRead {X = ImageView} (IsImageOf (Some permanent) found) (IsImageWrong (Some permanent) found) (Err fault)
    → IsRead {X = Option ImageView} (IsHeldOf permanent i found) (IsHeldWrong permanent i found) (Err fault)
held_not_found permanent None found fault some read = absurd (some refl)
held_not_found permanent (Some i) found fault some read = record {
  found = tt;
  only = λ held at. read.only at.0 at.2;
  cause = read.cause;
  each = λ other wrong. read.each other wrong;
}
