-- The reader of a header is lawful, and headers and images by themselves are read as they are spelled.
use Rattle.std.proofs.Common.{◌≡◌, ◌≢◌, ℕ, ◌⊎◌, nat_le, List, [], ◌∷◌, ◌++◌, Option, Some, None}
use Rattle.std.proofs.Common.{Result, Ok, Err, refl, ap, subst, ◌∙◌, inl, inr}
use Rattle.std.specs.Prelude.{IfOk, IfErr}
use Rattle.record.specs.Common.{ImageView}
use Rattle.ckpt_codec.specs.Fields.{Field, text_of}
use Rattle.ckpt_codec.specs.RecordText.{image_fields, most_decisions, version_of}
use Rattle.ckpt_codec.specs.HeaderView.{HeaderView}
use Rattle.ckpt_codec.specs.HeaderText.{slot_field, instance_fields, held_fields, header_fields, IsHeaderTextIn}
use Rattle.ckpt_codec.specs.HeaderText.{IsHeaderText, IsImageText}
use Rattle.ckpt_codec.specs.declared.header.Instance.{Instance}
use Rattle.ckpt_codec.specs.declared.version.TheConstants.{VERSION}
use Rattle.ckpt_codec.specs.Faults.{EndsEarly, HasRuledOut, GoesOn, IsHeaderFault, IsImageFault, IsReadUnlessMemory}
use Rattle.ckpt_codec.specs.Faults.{IsRefusedUnlessMemory}
use Rattle.ckpt_codec.specs.declared.fault.CodecFault.{CodecFault}
use Rattle.ckpt_codec.specs.declared.fault.CodecFault.TheVariants.{NoMemory, Truncated, Version, Malformed}
use Rattle.ckpt_codec.specs.Reading.{Front, held_at, slots_at, header_with, header_body_at, if_all, versioned, header_at}
use Rattle.ckpt_codec.specs.Reading.{image_at, whole_image_at, Reads}
use Rattle.ckpt_codec.proofs.Scan.{AreBytes, Lawful, Each}
use Rattle.ckpt_codec.proofs.Combining.{same_fields, same_values, built}
use Rattle.ckpt_codec.proofs.Parts.{plain, IfThere, is_there, behind_flag, flag_of, optional_lawful, IsImage, image_lawful}
use Rattle.ckpt_codec.proofs.Records.{instance_lawful, front_lawful, behind_front, front_then}
use Rattle.ckpt_codec.proofs.Items.{image_items, items_image}
use Rattle.ckpt_codec.proofs.Fitting.{all_same, fit_image, image_is, image_alike}
use Rattle.ckpt_codec.proofs.Wholes.{Spelt, Format, whole_again, alone, front_taken, whole_taken, Why, why, none_left}
use Rattle.ckpt_codec.proofs.Wholes.{front_again, ends_early, no_version, rules_out, ends_so, out_so, read_so, refused_so}
use Rattle.ckpt_codec.proofs.Versioned as versions

-- ---- the slots

each_there : {A : Type 0} (o : Option A) → IfThere Each o
each_there None = tt
each_there (Some a) = tt

held_lawful : (highest : List ℕ) → Lawful Each (held_fields highest) (held_at highest)
unfolding held_at
held_lawful highest =
    same_values Each
    (same_fields (held_fields highest)
    (optional_lawful (instance_lawful highest) (record { initiator = 0; number = 0 }) tt) same)
    (λ o is. each_there o) (λ o is. tt)
  where
    same : (o : Option Instance) → IfThere Each o
        → held_fields highest o ≡ flag_of (is_there o) ∷ behind_flag (instance_fields highest) o
    same None is = refl
    same (Some i) is = refl

slots_lawful : (highest : List ℕ)
    → Lawful Each (λ (x : ℕ × Option Instance). slot_field x.0 ∷ held_fields highest x.1) (slots_at highest)
unfolding slots_at
slots_lawful highest =
    same_values Each
    (built (λ slot held. (slot, held)) (λ x. x.0) (λ x. x.1)
    (λ (x : ℕ × Option Instance). slot_field x.0 ∷ held_fields highest x.1)
    (plain slot_field 1 (λ v. nat_le v 1) (λ n. refl)) (λ slot is. held_lawful highest) (λ slot is. (None, tt))
    (λ x. (refl, refl)) (λ slot held. (refl, refl)))
    (λ x is. (tt, tt)) (λ x is. tt)

-- ---- the whole header

abbrev front_in : HeaderView → Front
front_in h = record { node = h.node; epoch = h.epoch; highest = h.highest; decisions = h.decisions }

abbrev header_body : ℕ → HeaderView → List Field
header_body version h =
    behind_front (most_decisions version) (front_in h) (slot_field h.slot ∷ held_fields h.highest h.tentative)

header_lawful : (version : ℕ) → Lawful Each (header_body version) (header_body_at version)
unfolding header_body_at
header_lawful version =
    same_values Each
    (built header_with front_in (λ (h : HeaderView). (h.slot, h.tentative)) (header_body version)
    (front_lawful (most_decisions version)) (λ front is. slots_lawful front.highest) (λ front is. ((0, None), tt))
    (λ h. (
      refl,
      front_then (most_decisions version) (front_in h) (slot_field h.slot ∷ held_fields h.highest h.tentative),
    ))
    (λ front slots. (refl, refl)))
    (λ h is. (tt, tt)) (λ h is. tt)

abbrev some_header : HeaderView
some_header = record { node = 0; epoch = 0; highest = []; decisions = []; slot = 0; tentative = None }

spelt : (version : ℕ) (h : HeaderView) (bytes : List ℕ) → IsHeaderTextIn version h bytes
    → Spelt Each (header_fields version) h bytes
spelt version h bytes text = record { is = tt; allowed = text.allowed; spelled = text.spelled }

text_in : (version : ℕ) (h : HeaderView) (bytes : List ℕ) → Spelt Each (header_fields version) h bytes
    → IsHeaderTextIn version h bytes
text_in version h bytes s = record { allowed = s.allowed; spelled = s.spelled }

headers : versions.Versions Each header_fields header_body header_body_at IsHeaderText
headers = record {
  format = λ v. record {
    lawful = header_lawful v;
    fit = λ h. h;
    fit_is = λ h. tt;
    alike = λ h. all_same (header_body v h);
  };
  shape = λ v h. refl;
  some = some_header;
  spelt = λ h bytes text. spelt (version_of bytes) h bytes text.text;
  spells = λ h bytes s. record { text = text_in (version_of bytes) h bytes s };
}

header_is : (bytes : List ℕ) → header_at bytes ≡ versioned header_body_at bytes
unfolding header_at
header_is bytes = refl

reads_so : (bytes : List ℕ) (r : Result HeaderView CodecFault) → Reads (λ (h : HeaderView). h) r (header_at bytes)
    → Reads (λ (h : HeaderView). h) r (versioned header_body_at bytes)
reads_so bytes r read = subst (Reads (λ (h : HeaderView). h) r) (header_is bytes) read

-- what spells a header is read as it
pub header_again : (h : HeaderView) (bytes : List ℕ) → IsHeaderText h bytes → header_at bytes ≡ Ok h
header_again h bytes text = header_is bytes ∙ versions.again headers h bytes text

-- no header's spelling begins another
pub header_alone : (h other : HeaderView) (bytes rest : List ℕ) → IsHeaderText h bytes
    → IsHeaderText other (bytes ++ rest) → (rest ≡ []) × (other ≡ h)
header_alone h other bytes rest one two = versions.begins_none headers h other bytes rest one two

-- what spells a header in a version tells that version
pub told_is_header : (version : ℕ) (h : HeaderView) (bytes : List ℕ) → IsHeaderTextIn version h bytes
    → IsHeaderText h bytes
told_is_header version h bytes text = versions.told headers version h bytes (spelt version h bytes text)

-- so what is written spells the header
pub written_is_header : (h : HeaderView) (bytes : List ℕ) → IsHeaderTextIn VERSION h bytes → IsHeaderText h bytes
written_is_header h bytes text = told_is_header VERSION h bytes text

pub header_caused : (bytes : List ℕ) (r : Result HeaderView CodecFault) → AreBytes bytes
    → Reads (λ (h : HeaderView). h) r (header_at bytes) → IfErr r (IsHeaderFault bytes)
header_caused bytes r are read = versions.is_caused headers bytes r are (reads_so bytes r read)

pub header_refused : (bytes : List ℕ) (r : Result HeaderView CodecFault) (fault : CodecFault) → AreBytes bytes
    → Reads (λ (h : HeaderView). h) r (header_at bytes) → IsHeaderFault bytes fault → IsRefusedUnlessMemory fault r
header_refused bytes r fault are read cause =
    versions.is_refused headers bytes r fault are (reads_so bytes r read) cause

pub header_spelled : (bytes : List ℕ) (r : Result HeaderView CodecFault) → AreBytes bytes
    → Reads (λ (h : HeaderView). h) r (header_at bytes) → IfOk r (λ h. IsHeaderText h bytes)
header_spelled bytes r are read = versions.is_spelled headers bytes r are (reads_so bytes r read)

pub header_read : (bytes : List ℕ) (r : Result HeaderView CodecFault) (h : HeaderView)
    → Reads (λ (h : HeaderView). h) r (header_at bytes) → IsHeaderText h bytes → IsReadUnlessMemory h r
header_read bytes r h read text = versions.is_read headers bytes r h (reads_so bytes r read) text

-- ---- an image

module _ (like : Option ImageView) where
  format : Format IsImage (image_fields like) (image_at like)
  format = record { lawful = image_lawful like; fit = fit_image; fit_is = image_is; alike = image_alike like }

  image_spelt : (image : ImageView) (bytes : List ℕ) → IsImageText like image bytes
      → Spelt IsImage (image_fields like) image bytes
  image_spelt image bytes text =
      record { is = items_image image text.items; allowed = text.allowed; spelled = text.spelled }

  image_text_in : (image : ImageView) (bytes : List ℕ) → Spelt IsImage (image_fields like) image bytes
      → IsImageText like image bytes
  image_text_in image bytes s =
      record { allowed = s.allowed; items = image_items image s.is; spelled = s.spelled }

  whole_is : (bytes : List ℕ) → whole_image_at like bytes ≡ if_all (image_at like bytes)
  unfolding whole_image_at
  whole_is bytes = refl

  image_reads_so : (bytes : List ℕ) (r : Result ImageView CodecFault)
      → Reads (λ (i : ImageView). i) r (whole_image_at like bytes)
      → Reads (λ (i : ImageView). i) r (if_all (image_at like bytes))
  image_reads_so bytes r read = subst (Reads (λ (i : ImageView). i) r) (whole_is bytes) read

  -- what spells an image is read as it
  pub image_again : (image : ImageView) (bytes : List ℕ) → IsImageText like image bytes
      → if_all (image_at like bytes) ≡ Ok image
  image_again image bytes text = whole_again format image bytes (image_spelt image bytes text)

  -- no image's spelling begins another
  pub image_alone : (image other : ImageView) (bytes rest : List ℕ) → IsImageText like image bytes
      → IsImageText like other (bytes ++ rest) → (rest ≡ []) × (other ≡ image)
  image_alone image other bytes rest one two =
      alone format image other bytes rest (image_spelt image bytes one) (image_spelt other (bytes ++ rest) two)

  truncated_of : (bytes : List ℕ) → AreBytes bytes → Why (image_at like bytes) Truncated
      → EndsEarly (image_fields like) bytes
  truncated_of bytes are (Why.Behind image left was more is) = absurd cc
  truncated_of bytes are (Why.Inside was) = ends_early format bytes are was

  version_of_none : (bytes : List ℕ) → AreBytes bytes → Why (image_at like bytes) Version → ⊥
  version_of_none bytes are (Why.Behind image left was more is) = absurd cc
  version_of_none bytes are (Why.Inside was) = no_version format bytes are was

  malformed_of : (bytes : List ℕ) → AreBytes bytes → Why (image_at like bytes) Malformed
      → HasRuledOut (image_fields like) bytes ⊎ GoesOn (IsImageText like) bytes
  malformed_of bytes are (Why.Inside was) = inl (rules_out format bytes are was)
  malformed_of bytes are (Why.Behind image left was more is) =
      let t = front_taken format bytes left image are was in
      inr (record {
        kept = image;
        front = text_of (image_fields like image);
        rest = left;
        is = image_text_in image (text_of (image_fields like image)) t.0;
        parts = t.1;
        more = more;
      })

  pub image_caused : (bytes : List ℕ) (r : Result ImageView CodecFault) → AreBytes bytes
      → Reads (λ (i : ImageView). i) r (whole_image_at like bytes) → IfErr r (IsImageFault like bytes)
  image_caused bytes r are read = by_result r (image_reads_so bytes r read)
    where
      by_result : (r : Result ImageView CodecFault) → Reads (λ (i : ImageView). i) r (if_all (image_at like bytes))
          → IfErr r (IsImageFault like bytes)
      by_result (Ok image) e = tt
      by_result (Err NoMemory) e = tt
      by_result (Err Truncated) e = truncated_of bytes are (why (image_at like bytes) Truncated e)
      by_result (Err Version) e = version_of_none bytes are (why (image_at like bytes) Version e)
      by_result (Err Malformed) e = malformed_of bytes are (why (image_at like bytes) Malformed e)

  too_much : (image : ImageView) (bytes front rest : List ℕ) → IsImageText like image front → bytes ≡ front ++ rest
      → rest ≢ [] → if_all (image_at like bytes) ≡ Err Malformed
  too_much image bytes front rest text parts more =
      ap (λ (b : List ℕ). if_all (image_at like b)) parts
      ∙ (ap if_all (front_again format image front rest (image_spelt image front text)) ∙ none_left image rest more)

  refusal_of : (bytes : List ℕ) (fault : CodecFault) → AreBytes bytes → IsImageFault like bytes fault
      → (fault ≡ NoMemory) ⊎ (if_all (image_at like bytes) ≡ Err fault)
  refusal_of bytes NoMemory are cause = inl refl
  refusal_of bytes Truncated are cause = inr (ap if_all (ends_so format bytes are cause))
  refusal_of bytes Version are cause = absurd cause
  refusal_of bytes Malformed are (inl cause) = inr (ap if_all (out_so format bytes are cause))
  refusal_of bytes Malformed are (inr cause) =
      inr (too_much cause.kept bytes cause.front cause.rest cause.is cause.parts cause.more)

  pub image_refused : (bytes : List ℕ) (r : Result ImageView CodecFault) (fault : CodecFault) → AreBytes bytes
      → Reads (λ (i : ImageView). i) r (whole_image_at like bytes) → IsImageFault like bytes fault
      → IsRefusedUnlessMemory fault r
  image_refused bytes r fault are read cause =
      refused_so r (if_all (image_at like bytes)) fault (image_reads_so bytes r read)
      (refusal_of bytes fault are cause)

  pub image_spelled : (bytes : List ℕ) (r : Result ImageView CodecFault) → AreBytes bytes
      → Reads (λ (i : ImageView). i) r (whole_image_at like bytes) → IfOk r (λ image. IsImageText like image bytes)
  image_spelled bytes r are read = by_result r (image_reads_so bytes r read)
    where
      by_result : (r : Result ImageView CodecFault) → Reads (λ (i : ImageView). i) r (if_all (image_at like bytes))
          → IfOk r (λ image. IsImageText like image bytes)
      by_result (Ok image) e = image_text_in image bytes (whole_taken format bytes image are e)
      by_result (Err fault) e = tt

  pub image_read : (bytes : List ℕ) (r : Result ImageView CodecFault) (image : ImageView)
      → Reads (λ (i : ImageView). i) r (whole_image_at like bytes) → IsImageText like image bytes
      → IsReadUnlessMemory image r
  image_read bytes r image read text =
      read_so r (if_all (image_at like bytes)) image (image_reads_so bytes r read) (image_again image bytes text)
