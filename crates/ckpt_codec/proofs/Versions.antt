-- What may be spelled in the first version may be in that in which records are written, and a header that has few decisions
-- the other way round.
use Rattle.std.proofs.Common.{◌≡◌, ℕ, suc, ◌≤◌, Bool, true, false, ◌&&◌, nat_le, nat_lt, List, ◌∷◌, ◌++◌, length}
use Rattle.std.proofs.Common.{None, Result, Ok, Err, cond, refl, sym, ◌∙◌, arith}
use Rattle.std.specs.Prelude.{◌==◌, IfOk}
use Rattle.std.proofs.lemmas.Bool.{leb-true, le-leb, lt-ltb}
use Rattle.record.specs.Common.{RecordView}
use Rattle.record.specs.declared.record.TheConstants.{MAX_DECISIONS}
use Rattle.ckpt_codec.specs.Fields.{IsAllowed, AreAllowed}
use Rattle.ckpt_codec.specs.RecordText.{at_most, image_fields, version_field}
use Rattle.ckpt_codec.specs.RecordText.{most_decisions, record_fields, tentative_fields, version_of, IsRecord, IsRecordText}
use Rattle.ckpt_codec.specs.HeaderText.{header_of, instance_of, slot_field, held_fields, header_fields, IsHeaderTextIn}
use Rattle.ckpt_codec.specs.declared.fault.CodecFault.{CodecFault}
use Rattle.ckpt_codec.specs.declared.version.TheConstants.{FIRST_VERSION, VERSION}
use Rattle.ckpt_codec.specs.Spelling.{AreShortDecisions, header_spelling}
use Rattle.ckpt_codec.proofs.Spelled.{record_short, front_parts, front_joined, header_allowed, header-spelled}

pub few_in : (version : ℕ) → most_decisions version ≤ MAX_DECISIONS
few_in version = at (version == FIRST_VERSION)
  where
    at : (b : Bool) → cond b 1 MAX_DECISIONS ≤ MAX_DECISIONS
    at true = omega arith
    at false = omega arith

more_allowed : (version n : ℕ) → IsAllowed (at_most 1 (most_decisions version) n) → IsAllowed (at_most 1 MAX_DECISIONS n)
more_allowed version n is =
    let few : n ≤ most_decisions version = leb-true n (most_decisions version) is.1 in
    let most = few_in version in
    (is.0, le-leb n MAX_DECISIONS (omega (arith, few, most)))

pub later_allowed : (version : ℕ) (kept : RecordView) → AreAllowed (record_fields version kept) → IsRecord kept
later_allowed version kept is =
    let images = image_fields None kept.permanent ++ tentative_fields kept.highest kept.permanent kept.tentative in
    let parts = front_parts version kept images is in
    front_joined VERSION kept images (record {
      head = ((omega arith, refl), parts.head.1);
      entries = parts.entries;
      decisions = (more_allowed version (length kept.decisions) parts.decisions.0, parts.decisions.1);
      behind = parts.behind;
    })

-- so what is spelled may be written
pub text_is_record : (kept : RecordView) (bytes : List ℕ) → IsRecordText kept bytes → IsRecord kept
text_is_record kept bytes text = later_allowed (version_of bytes) kept text.text.allowed

-- and what was read may
pub may_be_written : (bytes : List ℕ) (r : Result RecordView CodecFault) → IfOk r (λ kept. IsRecordText kept bytes)
    → IfOk r (λ kept. IsRecord kept)
may_be_written bytes (Ok kept) text = text_is_record kept bytes text
may_be_written bytes (Err fault) text = tt

-- the decisions of a record can be written in their bytes
pub decisions_are_short : (kept : RecordView) → IsRecord kept → AreShortDecisions kept.decisions
decisions_are_short kept is = (record_short kept is).decisions

-- ---- headers, in either version

both_true : (a b : Bool) → a ≡ true → b ≡ true → (a && b) ≡ true
both_true a b one two = cc

version_allowed : (version : ℕ) → FIRST_VERSION ≤ version → version ≤ VERSION → IsAllowed (version_field version)
version_allowed version least most = (
  omega (arith, least, most),
  both_true (nat_le FIRST_VERSION version) (nat_lt version (suc VERSION)) (le-leb FIRST_VERSION version least)
      (lt-ltb version (suc VERSION) (omega (arith, most))),
)

-- what may be written of a header in the version of today may be in each version that has room for its decisions
pub header_allowed_in : (version slot : ℕ) (kept : RecordView) → FIRST_VERSION ≤ version → version ≤ VERSION
    → length kept.decisions ≤ most_decisions version → slot ≤ 1 → IsRecord kept
    → AreAllowed (header_fields version (header_of slot kept))
header_allowed_in version slot kept least most few le is =
    let slots = slot_field slot ∷ held_fields kept.highest (instance_of kept.tentative) in
    let parts = front_parts VERSION kept slots (header_allowed slot kept le is) in
    front_joined version kept slots (record {
      head = (version_allowed version least most, parts.head.1);
      entries = parts.entries;
      decisions = ((parts.decisions.0.0, le-leb (length kept.decisions) (most_decisions version) few), parts.decisions.1);
      behind = parts.behind;
    })

-- its parts spell it there
pub is_header_in : (version slot : ℕ) (kept : RecordView) (bytes : List ℕ) → FIRST_VERSION ≤ version → version ≤ VERSION
    → length kept.decisions ≤ most_decisions version → slot ≤ 1 → IsRecord kept
    → bytes ≡ header_spelling version slot kept → IsHeaderTextIn version (header_of slot kept) bytes
is_header_in version slot kept bytes least most few le is e =
    record {
      allowed = header_allowed_in version slot kept least most few le is;
      spelled = e ∙ sym (header-spelled version slot kept);
    }

-- the version of today has room for them
pub few_today : (kept : RecordView) → IsRecord kept → length kept.decisions ≤ most_decisions VERSION
few_today kept is =
    let images = image_fields None kept.permanent ++ tentative_fields kept.highest kept.permanent kept.tentative in
    leb-true (length kept.decisions) (most_decisions VERSION) (front_parts VERSION kept images is).decisions.0.1
