-- How a put of the cell is a put of a record.
use Rattle.std.proofs.Common.{◌≡◌, ◌⊎◌, inl, inr, ⊎_elim, ℕ, ◌-◌, ◌<◌, ◌≤◌, true, false, List, ◌∷◌, length, Option, Some, None, Result, Ok}
use Rattle.std.proofs.Common.{Err, refl, sym, ◌∙◌, ap, subst, arith}
use Rattle.std.specs.Prelude.{◌↔◌, nat_le, IsTrue, IsErrOf, OnOk}
use Rattle.std.specs.Option.{ForSome}
use Rattle.std.proofs.lemmas.Bool.{and_parts, leb-true, true≢false}
use Rattle.std.proofs.lemmas.Option.{same_Some}
use Rattle.std.proofs.lemmas.List.Elements.{All-tail}
use Rattle.sector_disk.specs.Clock.{Only, LeavesOnly}
use Rattle.sector_disk.proofs.Moments.{joined, weakened}
use Rattle.gate_cell.specs.declared.TheConstants.{MAX_VALUE_BYTES}
use Rattle.gate_cell.specs.declared.cell.StableCell.{Ghosts as CellWords}
use Rattle.gate_cell.specs.Setup.{LeavesSetup, setup_then}
use Rattle.gate_cell.specs.declared.fault.CellFault.{CellFault}
use Rattle.gate_cell.specs.declared.fault.CellFault.TheVariants as cell
use Rattle.gate_cell.specs.CellFault.{HasCause}
use Rattle.slot_cell.specs.declared.TheConstants.{MIN_HEADER_BYTES}
use Rattle.slot_cell.specs.declared.slot_cell.SlotCell.{Ghosts as SlotWords}
use Rattle.slot_cell.specs.Whole.{Whole, with_header, LeftByFill, OnlyPuts}
use Rattle.slot_cell.proofs.Slots.{after_fill, after_put}
use Rattle.slot_cell.proofs.Slots.{put_done as cell_put}
use Rattle.ckpt_codec.specs.Common.{ImageView, RecordView, Tentative, Field, IsAllowed, AreAllowed, IsRecord}
use Rattle.ckpt_codec.specs.Common.{image_fields, tentative_fields, IsImageSpelled, spelled_length, image_length}
use Rattle.ckpt_codec.specs.RecordText.{flag}
use Rattle.ckpt_codec.specs.HeaderText.{initiator_field, held_number_field}
use Rattle.ckpt_codec.specs.declared.lengths.TheConstants.{MAX_HEADER_BYTES, MAX_RECORD_BYTES}
use Rattle.ckpt_store.specs.declared.known.Known.{Known}
use Rattle.ckpt_store.specs.declared.fault.StoreFault.{StoreFault}
use Rattle.ckpt_store.specs.declared.fault.StoreFault.TheVariants.{NoMemory, Device, TooLarge, Reopen, Truncated}
use Rattle.ckpt_store.specs.declared.fault.StoreFault.TheVariants.{Version, Malformed, HoldsOther, PastNumber, NotHeld}
use Rattle.ckpt_store.specs.declared.fault.StoreFault.TheVariants.{Unsettled, Spent}
use Rattle.ckpt_store.specs.StoreFault.{of_cell, is_failure}
use Rattle.ckpt_store.specs.Refusals.{no_refusal}
use Rattle.ckpt_store.specs.Spelling.{SpellsAt, Spells, SpellsSome, fits_in, held_fits, images_fit, is_short}
use Rattle.ckpt_store.specs.Spelling.{IsKept, kept_in, known_as}
use Rattle.ckpt_store.specs.Putting.{IsPut, IsHeldWritten, known_after, IsChange}
use Rattle.ckpt_store.proofs.Parts.{parts_of}
use Rattle.ckpt_store.proofs.Spelled.{still_spelled, AllowedBeside}

-- ---- what may be written

held_allowed_in : (highest : List ℕ) (permanent : ImageView) (t : Option Tentative)
    → AreAllowed (tentative_fields highest permanent t) → AllowedBeside permanent t
held_allowed_in highest permanent None all = tt
held_allowed_in highest permanent (Some t) all =
    let image : List Field = image_fields (Some permanent) t.image in
    let number : Field = held_number_field highest t.initiator t.number in
    let initiator : Field = initiator_field highest t.initiator in
    All-tail IsAllowed number image
    (All-tail IsAllowed initiator (number ∷ image) (All-tail IsAllowed (flag 1) (initiator ∷ number ∷ image) all))

-- the tentative image of a record stands beside the permanent one
pub held_allowed : (kept : RecordView) → IsRecord kept → AllowedBeside kept.permanent kept.tentative
held_allowed kept all = held_allowed_in kept.highest kept.permanent kept.tentative (parts_of kept all).tentative

held_spelled_in : (permanent : ImageView) (t : Option Tentative) → AllowedBeside permanent t
    → ForSome t (λ (t : Tentative). IsImageSpelled t.image)
held_spelled_in permanent None all = λ t is. absurd cc
held_spelled_in permanent (Some t) all = λ u is. (let same : t ≡ u = same_Some t u is in
    subst (λ (t : Tentative). IsImageSpelled t.image) same (Some permanent, all))

-- so each image of a record may be written
pub held_spelled : (kept : RecordView) → IsRecord kept → ForSome kept.tentative (λ (t : Tentative). IsImageSpelled t.image)
held_spelled kept all = held_spelled_in kept.permanent kept.tentative (held_allowed kept all)

pub permanent_spelled : (kept : RecordView) → IsRecord kept → IsImageSpelled kept.permanent
permanent_spelled kept all = (None, (parts_of kept all).permanent)

-- ---- what fits

pub fits_short : (room : ℕ) (kept : RecordView) → fits_in room kept ≡ true → spelled_length kept ≤ MAX_RECORD_BYTES
fits_short room kept fits =
    leb-true (spelled_length kept) MAX_RECORD_BYTES
    (and_parts (is_short (spelled_length kept)) (images_fit room kept) fits).0

held_short_in : (room : ℕ) (t : Option Tentative) (bytes : List ℕ) → IsHeldWritten t bytes → held_fits room t ≡ true
    → ¬ (room < length bytes)
held_short_in room None bytes written fits =
    λ more. (let none : length bytes ≡ 0 = ap (length {A = ℕ}) written in omega (arith, none, more))
held_short_in room (Some t) bytes written fits =
    λ more. (let le = leb-true (image_length t.image) room fits in
    let long = written.1 in
    omega (arith, le, long, more))

-- the bytes of the tentative image fit a slot
pub held_short : (room : ℕ) (kept : RecordView) (bytes : List ℕ) → IsHeldWritten kept.tentative bytes
    → fits_in room kept ≡ true → ¬ (room < length bytes)
held_short room kept bytes written fits =
    let images = (and_parts (is_short (spelled_length kept)) (images_fit room kept) fits).1 in
    let held = (and_parts (nat_le (image_length kept.permanent) room) (held_fits room kept.tentative) images).1 in
    held_short_in room kept.tentative bytes written held

held_within_in : (room : ℕ) (t : Option Tentative) → room ≤ MAX_VALUE_BYTES → held_fits room t ≡ true
    → ForSome t (λ (t : Tentative). image_length t.image ≤ MAX_VALUE_BYTES)
held_within_in room None most fits = λ u is. absurd cc
held_within_in room (Some t) most fits = λ u is. (let same : t ≡ u = same_Some t u is in
    let le = leb-true (image_length t.image) room fits in
    subst (λ (t : Tentative). image_length t.image ≤ MAX_VALUE_BYTES) same (omega (arith, le, most)))

-- so the tentative image isn't longer than a value may be
pub held_within : (room : ℕ) (kept : RecordView) → room ≤ MAX_VALUE_BYTES → fits_in room kept ≡ true
    → ForSome kept.tentative (λ (t : Tentative). image_length t.image ≤ MAX_VALUE_BYTES)
held_within room kept most fits =
    let images = (and_parts (is_short (spelled_length kept)) (images_fit room kept) fits).1 in
    let held = (and_parts (nat_le (image_length kept.permanent) room) (held_fits room kept.tentative) images).1 in
    held_within_in room kept.tentative most held

-- the bytes of the header fit the cell
pub header_short : (capacity : ℕ) (bytes : List ℕ) → length bytes ≤ MAX_HEADER_BYTES → MIN_HEADER_BYTES ≤ capacity
    → ¬ (capacity < length bytes)
header_short capacity bytes few room = λ more. omega (arith, few, room, more)

-- ---- a put

-- without a call of the cell a crash leaves what it might have left
pub no_call : {C : Type 0} (moment : C → ℕ) (left_since : C → ℕ → Whole → Type 0) (one : C) (P : Whole → Type 0)
    → ((left : Whole) → left_since one (moment one) left → P left) → LeavesOnly moment left_since one one P
no_call moment left_since one P holds =
    record { later = omega arith; each = holds; before = λ t left le had. inl had; keeps = λ t left le had. had }

-- the cell's answer as the store's
abbrev pub as_store : Result (Unit {0}) CellFault → Result (Unit {0}) StoreFault
as_store (Ok x) = Ok x
as_store (Err fault) = Err (of_cell fault)

module _ {C : Type 0} (words : CellWords C) (slots : SlotWords C) (kept next : RecordView) (slot : ℕ) where
  abbrev One : Whole → Type 0
  One left = Spells kept left ⊎ Spells next left

  -- before the first call a crash leaves the record that is held
  pub still : (one : C) → Only (slots.whole one) (slots.may_leave_whole one) → Spells kept (slots.whole one)
      → ((left : Whole) → slots.left_since_whole one (words.moment one) left → slots.may_leave_whole one left)
      → LeavesOnly words.moment slots.left_since_whole one one (λ left. Spells kept left ⊎ Spells next left)
  still one only spelled only_now =
      no_call words.moment slots.left_since_whole one One
      (λ left now. inl (subst (Spells kept) (sym (only left (only_now left now))) spelled))

  -- the fill was refused
  pub fill_refused : (old new : C) (bytes : List ℕ) (fault : CellFault) → IsTrue (words.is_ready old)
      → fits_in (slots.slot_capacity old) next ≡ true → ¬ (slots.slot_capacity old < length bytes)
      → (IsErrOf {T = Unit {0}} (Err fault) cell.TooLarge
      ↔ (IsTrue (words.is_ready old) × (slots.slot_capacity old < length bytes)))
      → ¬ (IsErrOf {T = Unit {0}} (Err fault) cell.NoMemory)
      → HasCause {T = Unit {0}} (words.failure_count old) (words.failure_count new) (words.is_ready old)
      (words.is_ready new) (Err fault)
      → LeavesOnly words.moment slots.left_since_whole old new (λ left. Spells kept left ⊎ Spells next left)
      → LeavesSetup words.capacity words.armed words.call_count old new
      → slots.slot_capacity new ≡ slots.slot_capacity old
      → IsPut words slots kept next slot old new {T = Unit {0}} (Err (of_cell fault))
  fill_refused old new bytes cell.NoMemory ready fits room too_large memory cause run setup slot_room =
      absurd (memory refl)
  fill_refused old new bytes cell.Device ready fits room too_large memory cause run setup slot_room = record {
    ready = tt;
    spelled = tt;
    refusals = tt;
    fits = fits;
    failures = record { device = λ e. cause.device refl; otherwise = λ other. absurd (other refl) };
    unchanged = λ other. absurd (other refl);
    any_moment = run;
    same_setup = setup;
    same_slot_room = slot_room;
  }
  fill_refused old new bytes cell.TooLarge ready fits room too_large memory cause run setup slot_room =
      absurd (room (too_large.0 refl).1)
  fill_refused old new bytes cell.Reopen ready fits room too_large memory cause run setup slot_room =
      absurd (true≢false (sym ready ∙ cause.reopen.0 refl))

  -- whatever a fill leaves of the slot without a role, the record is held
  pub by_fill : (old new : C) → Only (slots.whole old) (slots.may_leave_whole old)
      → SpellsAt slot kept (slots.whole old) → kept.tentative ≡ None
      → LeavesOnly words.moment slots.left_since_whole old new (LeftByFill (slots.may_leave_whole old) (1 - slot))
      → LeavesOnly words.moment slots.left_since_whole old new (λ left. Spells kept left ⊎ Spells next left)
  by_fill old new only spelled none run =
      after_fill slots.whole words.moment slots.left_since_whole slots.may_leave_whole old new only (1 - slot) One
      (λ x. inl (slot, still_spelled slot kept (slots.whole old) x spelled none)) run

  -- The put of a header that makes the next record of what stands in the slots. What went before it left the one or the
  -- other. It asks for no memory and fits, so the device alone can fail.
  module _ (old mid new : C) (value : List ℕ)
      (ready : IsTrue (words.is_ready mid)) (only : Only (slots.whole mid) (slots.may_leave_whole mid))
      (held : Spells kept (slots.whole mid))
      (becomes : SpellsAt slot next (with_header (Some value) (slots.whole mid)))
      (first : LeavesOnly words.moment slots.left_since_whole old mid (λ left. Spells kept left ⊎ Spells next left))
      (run : OnlyPuts slots.whole slots.slot_capacity words.moment slots.left_since_whole slots.may_leave_whole mid new
      value)
      (stays : slots.may_leave_whole new (slots.whole new))
      (includes : (t : ℕ) (left : Whole) → t ≤ words.moment new → slots.may_leave_whole new left
      → slots.left_since_whole new t left)
      (shows : (slots.whole new).header ≡ Some (words.value new))
      (no_memory : words.asks_memory mid ≡ false) (room : ¬ (words.capacity mid < length value))
      (fits : fits_in (slots.slot_capacity old) next ≡ true)
      (same_failures : words.failure_count mid ≡ words.failure_count old)
      (setup : LeavesSetup words.capacity words.armed words.call_count old mid)
      (setup_behind : LeavesSetup words.capacity words.armed words.call_count mid new)
      (slot_room : slots.slot_capacity mid ≡ slots.slot_capacity old) where
    moments : LeavesOnly words.moment slots.left_since_whole old new (λ left. Spells kept left ⊎ Spells next left)
    moments =
        joined words.moment slots.left_since_whole old mid new One One first
        (after_put slots.whole words.moment slots.left_since_whole slots.may_leave_whole mid new only value
        slots.slot_capacity run One (inl held) (inr (slot, becomes))) (λ left is. is)

    setup_all : LeavesSetup words.capacity words.armed words.call_count old new
    setup_all = setup_then words.capacity words.armed words.call_count old mid new setup setup_behind

    pub header_was_put : (result : Result (Unit {0}) CellFault) → OnOk result (words.value new ≡ value)
        → (IsErrOf result cell.NoMemory → IsTrue (words.asks_memory mid))
        → (IsErrOf result cell.TooLarge ↔ (IsTrue (words.is_ready mid) × (words.capacity mid < length value)))
        → HasCause (words.failure_count mid) (words.failure_count new) (words.is_ready mid) (words.is_ready new) result
        → IsPut words slots kept next slot old new (as_store result)
    header_was_put (Ok x) ok memory too_large cause = record {
      ready = cause.stays_ready ∙ ready;
      spelled = subst (SpellsAt slot next)
          (sym (cell_put slots.whole words.moment slots.left_since_whole slots.may_leave_whole mid new only value
          slots.slot_capacity run stays includes (shows ∙ ap (λ v. Some v) ok))) becomes;
      refusals = tt;
      fits = fits;
      failures = record { device = λ e. cc; otherwise = λ other. cause.otherwise (λ e. cc) ∙ same_failures };
      unchanged = tt;
      any_moment = moments;
      same_setup = setup_all;
      same_slot_room = run.same_slot_room ∙ slot_room;
    }
    header_was_put (Err cell.NoMemory) ok memory too_large cause =
        absurd (true≢false (sym (memory refl) ∙ no_memory))
    header_was_put (Err cell.Device) ok memory too_large cause = record {
      ready = tt;
      spelled = tt;
      refusals = tt;
      fits = fits;
      failures = record {
        device = λ e. subst (λ n. n < words.failure_count new) same_failures (cause.device refl);
        otherwise = λ other. absurd (other refl);
      };
      unchanged = λ other. absurd (other refl);
      any_moment = moments;
      same_setup = setup_all;
      same_slot_room = run.same_slot_room ∙ slot_room;
    }
    header_was_put (Err cell.TooLarge) ok memory too_large cause = absurd (room (too_large.0 refl).1)
    header_was_put (Err cell.Reopen) ok memory too_large cause = absurd (true≢false (sym ready ∙ cause.reopen.0 refl))

-- ---- what is known after it

device_or_not : (fault : StoreFault) → (fault ≡ Device) ⊎ ((is_failure fault ≡ false) × ¬ (fault ≡ Device))
device_or_not NoMemory = inr (refl, λ e. cc)
device_or_not Device = inl refl
device_or_not TooLarge = inr (refl, λ e. cc)
device_or_not Reopen = inr (refl, λ e. cc)
device_or_not Truncated = inr (refl, λ e. cc)
device_or_not Version = inr (refl, λ e. cc)
device_or_not Malformed = inr (refl, λ e. cc)
device_or_not HoldsOther = inr (refl, λ e. cc)
device_or_not PastNumber = inr (refl, λ e. cc)
device_or_not NotHeld = inr (refl, λ e. cc)
device_or_not Unsettled = inr (refl, λ e. cc)
device_or_not Spent = inr (refl, λ e. cc)

same_err : {a b : StoreFault} → ◌≡◌ {A = Result (Unit {0}) StoreFault} (Err a) (Err b) → a ≡ b
same_err e = cc

known_refused : (fault : StoreFault) (before next : Known) → is_failure fault ≡ false
    → known_after {T = Unit {0}} (Err fault) before next ≡ Some before
known_refused fault before next other = rw other refl

module _ {C : Type 0} (words : CellWords C) (slots : SlotWords C) (kept next : RecordView) (was slot : ℕ)
    (old new : C) (stays : slots.may_leave_whole new (slots.whole new))
    (includes : (t : ℕ) (left : Whole) → t ≤ words.moment new → slots.may_leave_whole new left
    → slots.left_since_whole new t left)
    (before : IsKept words.is_ready slots.whole slots.may_leave_whole old (Some (known_as kept was))) where
  some_is : (left : Whole) → Spells kept left ⊎ Spells next left → SpellsSome left
  some_is left one = ⊎_elim (λ is. ∣ (kept, is) ∣₁) (λ is. ∣ (next, is) ∣₁) one

  leaves_some : (result : Result (Unit {0}) StoreFault) → IsPut words slots kept next slot old new result
      → (left : Whole) → slots.may_leave_whole new left → SpellsSome left
  leaves_some result put left might =
      some_is left
      (put.any_moment.each left (includes (words.moment old) left put.any_moment.later might))

  kept_refused : (fault : StoreFault) → IsPut words slots kept next slot old new {T = Unit {0}} (Err fault)
      → (fault ≡ Device) ⊎ ((is_failure fault ≡ false) × ¬ (fault ≡ Device))
      → IsKept words.is_ready slots.whole slots.may_leave_whole new
      (known_after {T = Unit {0}} (Err fault) (known_as kept was) (known_as next slot))
  kept_refused fault put which =
      ⊎_elim (λ is. subst (λ f. IsKept words.is_ready slots.whole slots.may_leave_whole new
      (known_after {T = Unit {0}} (Err f) (known_as kept was) (known_as next slot))) (sym is)
      (record { leaves = leaves_some (Err fault) put; ready = λ some. cc; holds = λ k none. absurd cc }))
      (λ other. subst (λ k. IsKept words.is_ready slots.whole slots.may_leave_whole new k)
      (sym (known_refused fault (known_as kept was) (known_as next slot) other.0))
      (subst (λ cell. IsKept words.is_ready slots.whole slots.may_leave_whole cell (Some (known_as kept was)))
      (sym (put.unchanged (λ e. other.1 (same_err e)))) before)) which

  pub kept_after : (result : Result (Unit {0}) StoreFault) → IsPut words slots kept next slot old new result
      → IsKept words.is_ready slots.whole slots.may_leave_whole new
      (known_after result (known_as kept was) (known_as next slot))
  kept_after (Ok x) put = record {
    leaves = leaves_some (Ok x) put;
    ready = λ some. put.ready;
    holds = λ k is. (let same : known_as next slot ≡ k = same_Some (known_as next slot) k is in
        subst (λ (k : Known). SpellsAt k.slot k.kept (slots.whole new)) same put.spelled);
  }
  kept_after (Err fault) put = kept_refused fault put (device_or_not fault)

  one_left : (result : Result (Unit {0}) StoreFault) → IsPut words slots kept next slot old new result
      → Spells kept (slots.whole new) ⊎ Spells next (slots.whole new)
  one_left result put =
      put.any_moment.each (slots.whole new)
      (includes (words.moment old) (slots.whole new) put.any_moment.later stays)

  moments_after : (result : Result (Unit {0}) StoreFault) → IsPut words slots kept next slot old new result
      → LeavesOnly words.moment slots.left_since_whole old new
      (λ left. slots.may_leave_whole old left ⊎ (Spells kept left ⊎ Spells next left))
  moments_after result put =
      weakened words.moment slots.left_since_whole old new
      (λ left. slots.may_leave_whole old left ⊎ (Spells kept left ⊎ Spells next left))
      (λ left. Spells kept left ⊎ Spells next left) put.any_moment (λ left one. inr one)

  known_record : (fault : StoreFault) → (fault ≡ Device) ⊎ ((is_failure fault ≡ false) × ¬ (fault ≡ Device))
      → ¬ (IsErrOf {T = Unit {0}} (Err fault) Device)
      → kept_in (known_after {T = Unit {0}} (Err fault) (known_as kept was) (known_as next slot)) ≡ Some kept
  known_record fault which other =
      ⊎_elim (λ is. absurd (other (ap (λ f. Err f) is)))
      (λ is. ap kept_in (known_refused fault (known_as kept was) (known_as next slot) is.0)) which

  pub changed_after : (result : Result (Unit {0}) StoreFault) → IsPut words slots kept next slot old new result
      → IsChange words slots no_refusal (λ before. next) old new (Some kept)
      (kept_in (known_after result (known_as kept was) (known_as next slot))) result
  changed_after (Ok x) put = record {
    changed = refl;
    refusals = tt;
    fits = put.fits;
    failures = put.failures;
    same_record = tt;
    same_cell = tt;
    unknown = λ e. absurd cc;
    one_of_both = λ e. one_left (Ok x) put;
    any_moment = moments_after (Ok x) put;
    same_setup = put.same_setup;
    same_slot_room = put.same_slot_room;
  }
  changed_after (Err fault) put = record {
    changed = tt;
    refusals = put.refusals;
    fits = put.fits;
    failures = put.failures;
    same_record = known_record fault (device_or_not fault);
    same_cell = put.unchanged;
    unknown = λ e. ap (λ f. kept_in (known_after {T = Unit {0}} (Err f) (known_as kept was) (known_as next slot)))
        (same_err e);
    one_of_both = λ e. one_left (Err fault) put;
    any_moment = moments_after (Err fault) put;
    same_setup = put.same_setup;
    same_slot_room = put.same_slot_room;
  }
