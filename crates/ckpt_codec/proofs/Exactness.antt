-- Records are read as they are spelled, what is spelled is read, and the first offence decides.
use Rattle.std.proofs.Common.{◌≡◌, ℕ, ◌++◌, List, [], None, Result, Ok, Err, refl, subst}
use Rattle.std.specs.Prelude.{IfOk, IfErr}
use Rattle.record.specs.Common.{RecordView}
use Rattle.ckpt_codec.specs.RecordText.{record_fields, version_of, IsRecordText, IsTextIn}
use Rattle.ckpt_codec.specs.Faults.{IsCodecFault, IsVersionedFault, IsReadUnlessMemory, IsRefusedUnlessMemory}
use Rattle.ckpt_codec.specs.declared.fault.CodecFault.{CodecFault}
use Rattle.ckpt_codec.specs.declared.fault.CodecFault.TheVariants.{NoMemory, Truncated, Version, Malformed}
use Rattle.ckpt_codec.specs.Reading.{body_at, versioned, whole_at, Reads}
use Rattle.ckpt_codec.proofs.Scan.{AreBytes}
use Rattle.ckpt_codec.proofs.Records.{IsKept, body_fields, body_lawful}
use Rattle.ckpt_codec.proofs.Items.{kept_items, is_kept}
use Rattle.ckpt_codec.proofs.Fitting.{fit_record, record_is, body_alike}
use Rattle.ckpt_codec.proofs.Wholes.{Spelt}
use Rattle.ckpt_codec.proofs.Versioned as versions

-- a record
abbrev some_kept : RecordView
some_kept =
    record {
      node = 0;
      epoch = 0;
      highest = [];
      decisions = [];
      permanent =
          record { processes = []; ends = [] };
      tentative = None;
    }

spelt : (version : ℕ) (kept : RecordView) (bytes : List ℕ) → IsTextIn version kept bytes
    → Spelt IsKept (record_fields version) kept bytes
spelt version kept bytes text =
    record { is = is_kept kept text.items; allowed = text.allowed; spelled = text.spelled }

text_in : (version : ℕ) (kept : RecordView) (bytes : List ℕ) → Spelt IsKept (record_fields version) kept bytes
    → IsTextIn version kept bytes
text_in version kept bytes s =
    record { allowed = s.allowed; items = kept_items kept s.is; spelled = s.spelled }

records : versions.Versions IsKept record_fields body_fields body_at IsRecordText
records = record {
  format = λ v. record { lawful = body_lawful v; fit = fit_record; fit_is = record_is; alike = body_alike v };
  shape = λ v kept. refl;
  some = some_kept;
  spelt = λ kept bytes text. spelt (version_of bytes) kept bytes text.text;
  spells = λ kept bytes s. record { text = text_in (version_of bytes) kept bytes s };
}

whole_is : (bytes : List ℕ) → whole_at bytes ≡ versioned body_at bytes
unfolding whole_at
whole_is bytes = refl

reads_so : (bytes : List ℕ) (r : Result RecordView CodecFault) → Reads (λ (kept : RecordView). kept) r (whole_at bytes)
    → Reads (λ (kept : RecordView). kept) r (versioned body_at bytes)
reads_so bytes r read = subst (Reads (λ (kept : RecordView). kept) r) (whole_is bytes) read

-- no spelling begins another
pub begins_none : (kept other : RecordView) (spelling rest : List ℕ) → IsRecordText kept spelling
    → IsRecordText other (spelling ++ rest)
    → (rest ≡ []) × (other ≡ kept)
begins_none kept other spelling rest one two = versions.begins_none records kept other spelling rest one two

-- the same faults, said of records
same_fault : (bytes : List ℕ) (fault : CodecFault) → IsCodecFault bytes fault
    → IsVersionedFault record_fields IsRecordText bytes fault
same_fault bytes NoMemory cause = cause
same_fault bytes Truncated cause = cause
same_fault bytes Version cause = cause
same_fault bytes Malformed cause = cause

record_fault : (bytes : List ℕ) (r : Result RecordView CodecFault)
    → IfErr r (IsVersionedFault record_fields IsRecordText bytes) → IfErr r (IsCodecFault bytes)
record_fault bytes (Ok kept) cause = cause
record_fault bytes (Err NoMemory) cause = cause
record_fault bytes (Err Truncated) cause = cause
record_fault bytes (Err Version) cause = cause
record_fault bytes (Err Malformed) cause = cause

pub is_caused : (bytes : List ℕ) (r : Result RecordView CodecFault) → AreBytes bytes
    → Reads (λ (kept : RecordView). kept) r (whole_at bytes) → IfErr r (IsCodecFault bytes)
is_caused bytes r are read =
    record_fault bytes r (versions.is_caused records bytes r are (reads_so bytes r read))

pub is_refused : (bytes : List ℕ) (r : Result RecordView CodecFault) (fault : CodecFault) → AreBytes bytes
    → Reads (λ (kept : RecordView). kept) r (whole_at bytes) → IsCodecFault bytes fault
    → IsRefusedUnlessMemory fault r
is_refused bytes r fault are read cause =
    versions.is_refused records bytes r fault are (reads_so bytes r read) (same_fault bytes fault cause)

pub is_spelled : (bytes : List ℕ) (r : Result RecordView CodecFault) → AreBytes bytes
    → Reads (λ (kept : RecordView). kept) r (whole_at bytes) → IfOk r (λ kept. IsRecordText kept bytes)
is_spelled bytes r are read = versions.is_spelled records bytes r are (reads_so bytes r read)

pub is_read : (bytes : List ℕ) (r : Result RecordView CodecFault) (kept : RecordView)
    → Reads (λ (kept : RecordView). kept) r (whole_at bytes) → IsRecordText kept bytes → IsReadUnlessMemory kept r
is_read bytes r kept read text = versions.is_read records bytes r kept (reads_so bytes r read) text
