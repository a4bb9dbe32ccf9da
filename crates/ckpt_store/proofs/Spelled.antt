-- What a cell holds spells a record; and how it becomes the next one.
use Rattle.std.proofs.Common.{◌≡◌, ℕ, zero, suc, ◌-◌, ◌≤◌, List, [], ◌∷◌, ◌++◌, length, map, Option, Some, None, refl, sym, ◌∙◌}
use Rattle.std.proofs.Common.{ap, subst, arith}
use Rattle.std.specs.Prelude.{slice_index, is_some}
use Rattle.std.specs.Option.{ForSome}
use Rattle.std.proofs.lemmas.Bool.{leb-true, false≢true}
use Rattle.std.proofs.lemmas.Option.{same_Some, none-some}
use Rattle.std.proofs.lemmas.List.Elements.{All-head}
use Rattle.slot_cell.specs.Whole.{Whole, slot_in, with_slot, with_header}
use Rattle.ckpt_codec.specs.Common.{ImageView, RecordView, Tentative, IsAllowed, AreAllowed, count, image_fields}
use Rattle.ckpt_codec.specs.Common.{IsRecord, HeaderView, header_of, IsHeaderText, IsImageText, spelled_length}
use Rattle.ckpt_codec.specs.RecordText.{first_fields, decisions_fields, most_decisions, version_of}
use Rattle.ckpt_codec.specs.HeaderText.{slot_field, held_fields, IsHeaderTextIn}
use Rattle.ckpt_codec.specs.HeaderText.{IsTentativeText, IsApart}
use Rattle.ckpt_codec.specs.declared.lengths.TheConstants.{MAX_RECORD_BYTES}
use Rattle.ckpt_codec.specs.declared.version.TheConstants.{VERSION}
use Rattle.ckpt_codec.proofs.Headers.{written_is_header}
use Rattle.ckpt_codec.proofs.Joined.{apart_is_record, image_text_beside}
use Rattle.ckpt_store.specs.Spelling.{Lies, SpellsAt, StandIn}
use Rattle.ckpt_store.specs.Putting.{IsHeldWritten}
use Rattle.ckpt_store.proofs.Parts.{all_back}

-- ---- the bytes

-- where there is a tentative image, a slot holds these bytes; else it may hold anything
abbrev pub HoldsFor : Option Tentative → Option (List ℕ) → List ℕ → Type 0
HoldsFor None found bytes = Unit {0}
HoldsFor (Some t) found bytes = found ≡ Some bytes

pub record Parts (slot : ℕ) (kept : RecordView) (left : Whole) : Type 0 where
  pub header : List ℕ
  pub first : List ℕ
  pub second : List ℕ
  pub says : left.header ≡ Some header
  pub shows : slot_in slot left ≡ Some first
  pub holds : HoldsFor kept.tentative (slot_in (1 - slot) left) second
  pub apart : IsApart slot kept header first second

pub lies_in : (Is : List ℕ → Type 0) (found : Option (List ℕ)) → Lies Is found
    → (bytes : List ℕ) × (found ≡ Some bytes) × Is bytes
lies_in Is None lies = absurd (false≢true lies.there)
lies_in Is (Some bytes) lies = (bytes, refl, lies.is bytes refl)

pub lies_of : (Is : List ℕ → Type 0) (found : Option (List ℕ)) (bytes : List ℕ) → found ≡ Some bytes → Is bytes
    → Lies Is found
lies_of Is found bytes there is = record {
  there = ap is_some there;
  is = λ other at. subst Is (same_Some bytes other (sym there ∙ at)) is;
}

abbrev pub HeldLies : ImageView → Option Tentative → Option (List ℕ) → Type 0
HeldLies permanent tentative found =
    ForSome tentative (λ (t : Tentative). Lies (IsImageText (Some permanent) t.image) found)

pub held_in : (permanent : ImageView) (t : Option Tentative) (found : Option (List ℕ)) → HeldLies permanent t found
    → (bytes : List ℕ) × HoldsFor t found bytes × IsTentativeText permanent t bytes
held_in permanent None found held = ([], tt, tt)
held_in permanent (Some t) found held = lies_in (IsImageText (Some permanent) t.image) found (held t refl)

pub held_of : (permanent : ImageView) (t : Option Tentative) (found : Option (List ℕ)) (bytes : List ℕ)
    → HoldsFor t found bytes → IsTentativeText permanent t bytes → HeldLies permanent t found
held_of permanent None found bytes there text = λ t is. absurd (none-some t is)
held_of permanent (Some t) found bytes there text = λ u is.
    subst (λ (u : Tentative). Lies (IsImageText (Some permanent) u.image) found) (same_Some t u is)
    (lies_of (IsImageText (Some permanent) t.image) found bytes there text)

pub parts_in : (kept : RecordView) (slot : ℕ) (w : Whole) → SpellsAt slot kept w → Parts slot kept w
parts_in kept slot w s =
    let header = lies_in (IsHeaderText (header_of slot kept)) w.header s.says in
    let first = lies_in (IsImageText None kept.permanent) (slot_in slot w) s.shows in
    let second = held_in kept.permanent kept.tentative (slot_in (1 - slot) w) s.holds in
    record {
      header = header.0;
      first = first.0;
      second = second.0;
      says = header.1;
      shows = first.1;
      holds = second.1;
      apart = record { says = header.2; shows = first.2; holds = second.2 };
    }

pub spelled_of : (kept : RecordView) (slot : ℕ) (w : Whole) → slot ≤ 1 → spelled_length kept ≤ MAX_RECORD_BYTES
    → Parts slot kept w → SpellsAt slot kept w
spelled_of kept slot w one short parts = record {
  one = one;
  says = lies_of (IsHeaderText (header_of slot kept)) w.header parts.header parts.says parts.apart.says;
  shows = lies_of (IsImageText None kept.permanent) (slot_in slot w) parts.first parts.shows parts.apart.shows;
  holds = held_of kept.permanent kept.tentative (slot_in (1 - slot) w) parts.second parts.holds parts.apart.holds;
  short = short;
}

-- ---- one record

-- a record that is held may be written
pub spelled_is_record : (kept : RecordView) (slot : ℕ) (w : Whole) → SpellsAt slot kept w → IsRecord kept
spelled_is_record kept slot w s =
    let parts = parts_in kept slot w s in
    apart_is_record kept slot parts.header parts.first parts.second parts.apart

-- its images stand in the slots
pub images_stand : (kept : RecordView) (slot : ℕ) (w : Whole) → SpellsAt slot kept w
    → StandIn slot kept.permanent kept.tentative w
images_stand kept slot w s = record { one = s.one; shows = s.shows; holds = s.holds }

-- a header names one of two slots
pub slot_is_one : (h : HeaderView) (bytes : List ℕ) → IsHeaderText h bytes → h.slot ≤ 1
slot_is_one h bytes text =
    let version = version_of bytes in
    let held = held_fields h.highest h.tentative in
    let decisions =
    decisions_fields (most_decisions version) h.node (length h.highest) (slice_index h.highest h.node) h.decisions in
    let entries = map count h.highest in
    let first = first_fields version h.node h.epoch (length h.highest) in
    let a =
    all_back IsAllowed first (entries ++ (decisions ++ (slot_field h.slot ∷ held))) text.text.allowed in
    let b = all_back IsAllowed entries (decisions ++ (slot_field h.slot ∷ held)) a in
    let c = all_back IsAllowed decisions (slot_field h.slot ∷ held) b in
    leb-true h.slot 1 (All-head IsAllowed (slot_field h.slot) held c).1

-- ---- the next one

-- a header that says so makes a record of the images
pub named_by : (slot : ℕ) (kept : RecordView) (w : Whole) (header : List ℕ)
    → StandIn slot kept.permanent kept.tentative w → IsHeaderTextIn VERSION (header_of slot kept) header
    → spelled_length kept ≤ MAX_RECORD_BYTES → SpellsAt slot kept (with_header (Some header) w)
named_by zero kept w header stand text short = record {
  one = stand.one;
  says = lies_of (IsHeaderText (header_of 0 kept)) (Some header) header refl
      (written_is_header (header_of 0 kept) header text);
  shows = stand.shows;
  holds = stand.holds;
  short = short;
}
named_by (suc zero) kept w header stand text short = record {
  one = stand.one;
  says = lies_of (IsHeaderText (header_of 1 kept)) (Some header) header refl
      (written_is_header (header_of 1 kept) header text);
  shows = stand.shows;
  holds = stand.holds;
  short = short;
}
named_by (suc (suc k)) kept w header stand text short = absurd (omega (arith, stand.one))

-- the slot without a role may hold anything
held_none : (permanent : ImageView) (t : Option Tentative) (found : Option (List ℕ)) → t ≡ None
    → HeldLies permanent t found
held_none permanent t found none = λ u is. absurd (none-some u (sym none ∙ is))

pub still_spelled : (slot : ℕ) (kept : RecordView) (w : Whole) (x : Option (List ℕ)) → SpellsAt slot kept w
    → kept.tentative ≡ None → SpellsAt slot kept (with_slot (1 - slot) x w)
still_spelled zero kept w x s none = record {
  one = s.one;
  says = s.says;
  shows = s.shows;
  holds = held_none kept.permanent kept.tentative x none;
  short = s.short;
}
still_spelled (suc zero) kept w x s none = record {
  one = s.one;
  says = s.says;
  shows = s.shows;
  holds = held_none kept.permanent kept.tentative x none;
  short = s.short;
}
still_spelled (suc (suc k)) kept w x s none = absurd (omega (arith, s.one))

-- and once it holds a tentative image, both stand
abbrev pub AllowedBeside : ImageView → Option Tentative → Type 0
AllowedBeside permanent None = Unit {0}
AllowedBeside permanent (Some t) = AreAllowed (image_fields (Some permanent) t.image)

held_now : (permanent : ImageView) (t : Option Tentative) (bytes : List ℕ) → AllowedBeside permanent t
    → IsHeldWritten t bytes → HeldLies permanent t (Some bytes)
held_now permanent None bytes allowed written = λ t is. absurd (none-some t is)
held_now permanent (Some t) bytes allowed written =
    held_of permanent (Some t) (Some bytes) bytes refl (written.0 (Some permanent) allowed)

pub stand_filled : (slot : ℕ) (kept next : RecordView) (w : Whole) (bytes : List ℕ) → SpellsAt slot kept w
    → next.permanent ≡ kept.permanent → AllowedBeside next.permanent next.tentative
    → IsHeldWritten next.tentative bytes
    → StandIn slot next.permanent next.tentative (with_slot (1 - slot) (Some bytes) w)
stand_filled zero kept next w bytes s same allowed written = record {
  one = s.one;
  shows = subst (λ (i : ImageView). Lies (IsImageText None i) w.first) (sym same) s.shows;
  holds = held_now next.permanent next.tentative bytes allowed written;
}
stand_filled (suc zero) kept next w bytes s same allowed written = record {
  one = s.one;
  shows = subst (λ (i : ImageView). Lies (IsImageText None i) w.second) (sym same) s.shows;
  holds = held_now next.permanent next.tentative bytes allowed written;
}
stand_filled (suc (suc k)) kept next w bytes s same allowed written = absurd (omega (arith, s.one))

-- the tentative image, which stands in the other slot, becomes the permanent one
pub stand_promoted : (slot : ℕ) (kept : RecordView) (t : Tentative) (w : Whole) → SpellsAt slot kept w
    → kept.tentative ≡ Some t → AreAllowed (image_fields None t.image) → StandIn (1 - slot) t.image None w
stand_promoted slot kept t w s held allowed =
    let lies = lies_in (IsImageText (Some kept.permanent) t.image) (slot_in (1 - slot) w) (s.holds t held) in
    let le = s.one in
    record {
      one = omega (arith, le);
      shows = lies_of (IsImageText None t.image) (slot_in (1 - slot) w) lies.0 lies.1
          (image_text_beside (Some kept.permanent) None t.image lies.0 lies.2 allowed);
      holds = λ u is. absurd (none-some u is);
    }

-- an image less
pub stand_without : (slot : ℕ) (kept : RecordView) (w : Whole) → SpellsAt slot kept w
    → StandIn slot kept.permanent None w
stand_without slot kept w s = record { one = s.one; shows = s.shows; holds = λ u is. absurd (none-some u is) }
