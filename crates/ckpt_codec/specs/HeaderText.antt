-- A record apart: its header, which names the slots of its images, and each image by itself.
use Rattle.std.specs.Prelude.{◌≡◌, ℕ, List, ◌∷◌, [], ◌++◌, length, map, Option, Some, None, slice_index, All, FitsSigned}
use Rattle.std.specs.Prelude.{nat_lt, nat_le, ◌&&◌, ◌==◌}
use Rattle.std.specs.Int.{w64}
use Rattle.record.specs.Common.{ImageView, RecordView}
use Rattle.record.specs.declared.record.Tentative.{Tentative}
use Rattle.ckpt_codec.specs.HeaderView.{HeaderView}
use Rattle.ckpt_codec.specs.declared.header.Instance.{Instance}
use Rattle.ckpt_codec.specs.Fields.{Field, AreAllowed, text_of}
use Rattle.ckpt_codec.specs.RecordText.{at_most, count, flag, first_fields, decisions_fields, most_decisions}
use Rattle.ckpt_codec.specs.RecordText.{image_fields, items_of_image, version_of}
use Rattle.ckpt_codec.specs.Lengths.{image_length}

-- ---- the header

-- the initiator of an instance, and its number, which is the highest seen
abbrev pub initiator_field : List ℕ → ℕ → Field
initiator_field highest initiator = record { width = 1; allows = λ v. nat_lt v (length highest); value = initiator }

abbrev pub held_number_field : List ℕ → ℕ → ℕ → Field
held_number_field highest initiator number =
    record { width = 8; allows = λ v. nat_le 1 v && (v == slice_index highest initiator); value = number }

-- whose image a tentative one is
abbrev pub instance_of : Option Tentative → Option Instance
instance_of None = None
instance_of (Some t) = Some (record { initiator = t.initiator; number = t.number })

-- the header of a record whose permanent image is in this slot
abbrev pub header_of : ℕ → RecordView → HeaderView
header_of slot kept =
    record {
      node = kept.node;
      epoch = kept.epoch;
      highest = kept.highest;
      decisions = kept.decisions;
      slot = slot;
      tentative = instance_of kept.tentative;
    }

-- one of two slots
abbrev pub slot_field : ℕ → Field
slot_field slot = at_most 1 1 slot

-- the initiator of a tentative image, and the number of its checkpoint, which is the initiator's entry
abbrev pub instance_fields : List ℕ → Instance → List Field
instance_fields highest i = initiator_field highest i.initiator ∷ held_number_field highest i.initiator i.number ∷ []

-- whose tentative image is in the other slot, if there is one there
abbrev pub held_fields : List ℕ → Option Instance → List Field
held_fields highest None = flag 0 ∷ []
held_fields highest (Some i) = flag 1 ∷ instance_fields highest i

-- as a record's up to its decisions, and then the permanent image's slot
abbrev pub header_fields : ℕ → HeaderView → List Field
header_fields version h =
    first_fields version h.node h.epoch (length h.highest) ++ (map count h.highest
    ++ (decisions_fields (most_decisions version) h.node (length h.highest) (slice_index h.highest h.node) h.decisions
    ++ (slot_field h.slot ∷ held_fields h.highest h.tentative)))

-- the one spelling of a header in this version
abbrev pub header_text : ℕ → HeaderView → List ℕ
header_text version h = text_of (header_fields version h)

-- the bytes spell this header in this version
pub record IsHeaderTextIn (version : ℕ) (h : HeaderView) (bytes : List ℕ) : Type 0 where
  pub allowed : AreAllowed (header_fields version h)
  pub spelled : bytes ≡ header_text version h

-- the bytes spell this header, in the version that they tell
pub record IsHeaderText (h : HeaderView) (bytes : List ℕ) : Type 0 where
  pub text : IsHeaderTextIn (version_of bytes) h bytes

-- ---- images

-- the bytes spell this image beside that one, where there is one, and else by itself
pub record IsImageText (like : Option ImageView) (image : ImageView) (bytes : List ℕ) : Type 0 where
  pub allowed : AreAllowed (image_fields like image)
  pub items : All (FitsSigned w64) (items_of_image image)
  pub spelled : bytes ≡ text_of (image_fields like image)

-- an image that may be written, by itself or beside another
abbrev pub IsImageSpelled : ImageView → Type 0
IsImageSpelled image = (like : Option ImageView) × AreAllowed (image_fields like image)

-- the bytes of an image were put behind those from before: they spell it, by itself or beside another
pub record IsImageAdded (image : ImageView) (before after : List ℕ) : Type 0 where
  pub bytes : List ℕ
  pub behind : after ≡ before ++ bytes
  pub text : (like : Option ImageView) → AreAllowed (image_fields like image) → IsImageText like image bytes
  pub long : length bytes ≡ image_length image

-- ---- both

-- the bytes spell a record's tentative image; where it has none, they may be any
abbrev pub IsTentativeText : ImageView → Option Tentative → List ℕ → Type 0
IsTentativeText permanent None bytes = Unit {0}
IsTentativeText permanent (Some t) bytes = IsImageText (Some permanent) t.image bytes

-- a record apart: the bytes of its header, which says that the permanent image is in this slot, those of this slot, and
-- those of the other
pub record IsApart (slot : ℕ) (kept : RecordView) (header permanent other : List ℕ) : Type 0 where
  pub says : IsHeaderText (header_of slot kept) header
  pub shows : IsImageText None kept.permanent permanent
  pub holds : IsTentativeText kept.permanent kept.tentative other

-- the tentative image of this instance, where there are both
abbrev pub tentative_with : Option Instance → Option ImageView → Option Tentative
tentative_with None held = None
tentative_with (Some i) None = None
tentative_with (Some i) (Some image) = Some (record { initiator = i.initiator; number = i.number; image = image })

-- the record of a header and its images
abbrev pub record_with : HeaderView → ImageView → Option ImageView → RecordView
record_with h permanent held =
    record {
      node = h.node;
      epoch = h.epoch;
      highest = h.highest;
      decisions = h.decisions;
      permanent = permanent;
      tentative = tentative_with h.tentative held;
    }

-- where a header names a tentative image, there is one, and the bytes spell it beside the permanent one
abbrev pub IsHeldText : ImageView → Option Instance → Option ImageView → List ℕ → Type 0
IsHeldText permanent None held bytes = Unit {0}
IsHeldText permanent (Some i) None bytes = ⊥
IsHeldText permanent (Some i) (Some image) bytes = IsImageText (Some permanent) image bytes
