-- A record apart: its header and its images tell it, and each record that may be written has them.
use Rattle.std.proofs.Common.{◌≡◌, ℕ, ◌≤◌, ◌++◌, List, length, [], ◌∷◌, Option, Some, None, refl, sym, ap, subst, ◌∙◌}
use Rattle.std.specs.Prelude.{All, FitsSigned}
use Rattle.std.specs.Int.{w64}
use Rattle.std.proofs.lemmas.List.Elements.{All-from_recursion, recursion_from_All}
use Rattle.record.specs.Common.{ImageView, RecordView}
use Rattle.record.specs.declared.record.Tentative.{Tentative}
use Rattle.ckpt_codec.specs.Fields.{IsAllowed, AreAllowed, text_of}
use Rattle.ckpt_codec.specs.RecordText.{image_fields, tentative_fields, items_of_record, version_of, IsRecord}
use Rattle.ckpt_codec.specs.HeaderView.{HeaderView}
use Rattle.ckpt_codec.specs.HeaderText.{instance_of, header_of, slot_field, held_fields, header_text, IsHeaderText}
use Rattle.ckpt_codec.specs.HeaderText.{IsImageText, IsTentativeText, IsApart, tentative_with, record_with, IsHeldText}
use Rattle.ckpt_codec.specs.declared.header.Instance.{Instance}
use Rattle.ckpt_codec.specs.declared.version.TheConstants.{VERSION}
use Rattle.ckpt_codec.proofs.Scan.{is_found}
use Rattle.ckpt_codec.proofs.Text.{AllAllowed}
use Rattle.ckpt_codec.proofs.Items.{image_items, is_kept}
use Rattle.ckpt_codec.proofs.Records.{IsTentative}
use Rattle.ckpt_codec.proofs.Headers.{header_again, written_is_header, image_again}
use Rattle.ckpt_codec.proofs.Spelled.{allowed-split, allowed-append, front_parts, front_joined, header_allowed}
use Rattle.ckpt_codec.proofs.Spelled.{image-spelled}
use Rattle.ckpt_codec.proofs.Sizes.{length-image}
use Rattle.ckpt_codec.specs.Lengths.{image_length}
use Rattle.ckpt_codec.proofs.Versions.{later_allowed}

-- bytes of an image are the same beside any other
pub image_text_beside : (like second : Option ImageView) (image : ImageView) (bytes : List ℕ)
    → IsImageText like image bytes → AreAllowed (image_fields second image) → IsImageText second image bytes
image_text_beside like second image bytes text allowed = record {
  allowed = allowed;
  items = text.items;
  spelled = text.spelled ∙ (image-spelled like image ∙ sym (image-spelled second image));
}

-- and as many as are told
pub image_text_long : (like : Option ImageView) (image : ImageView) (bytes : List ℕ) → IsImageText like image bytes
    → length bytes ≡ image_length image
image_text_long like image bytes text =
    ap (length {A = ℕ}) text.spelled ∙ (ap (length {A = ℕ}) (image-spelled like image) ∙ length-image image)

-- ---- one record

one_header : (h other : HeaderView) (bytes : List ℕ) → IsHeaderText h bytes → IsHeaderText other bytes → other ≡ h
one_header h other bytes one two =
    is_found {A = HeaderView} other h (sym (header_again other bytes two) ∙ header_again h bytes one)

one_image : (like : Option ImageView) (image other : ImageView) (bytes : List ℕ) → IsImageText like image bytes
    → IsImageText like other bytes → other ≡ image
one_image like image other bytes one two =
    is_found {A = ImageView} other image (sym (image_again like other bytes two) ∙ image_again like image bytes one)

abbrev instance_or : Instance → Option Instance → Instance
instance_or default None = default
instance_or default (Some i) = i

one_tentative : (permanent : ImageView) (t u : Option Tentative) (bytes : List ℕ) → instance_of u ≡ instance_of t
    → IsTentativeText permanent t bytes → IsTentativeText permanent u bytes → u ≡ t
one_tentative permanent None None bytes same one two = refl
one_tentative permanent None (Some u) bytes same one two = absurd cc
one_tentative permanent (Some t) None bytes same one two = absurd cc
one_tentative permanent (Some t) (Some u) bytes same one two =
    let image : u.image ≡ t.image = one_image (Some permanent) t.image u.image bytes one two in
    let default : Instance = record { initiator = 0; number = 0 } in
    let whose : record { initiator = u.initiator; number = u.number }
    ≡ record { initiator = t.initiator; number = t.number } = ap (instance_or default) same in
    ap (λ (i : Instance). Some (record { initiator = i.initiator; number = i.number; image = u.image })) whose
    ∙ ap (λ (i : ImageView). Some (record { initiator = t.initiator; number = t.number; image = i })) image

one_record : (a b : RecordView) (slot place : ℕ) → header_of slot a ≡ header_of place b → a.permanent ≡ b.permanent
    → a.tentative ≡ b.tentative → a ≡ b
one_record a b slot place header permanent tentative =
    ap (λ (h : HeaderView). record {
      node = h.node;
      epoch = h.epoch;
      highest = h.highest;
      decisions = h.decisions;
      permanent = a.permanent;
      tentative = a.tentative;
    }) header
    ∙ (ap (λ (i : ImageView). record b { permanent = i; tentative = a.tentative }) permanent
    ∙ ap (λ (t : Option Tentative). record b { tentative = t }) tentative)

pub apart_is_one : (kept other : RecordView) (slot place : ℕ) (header first second : List ℕ)
    → IsApart slot kept header first second → IsApart place other header first second
    → (place ≡ slot) × (other ≡ kept)
apart_is_one kept other slot place header first second one two =
    let same : header_of place other ≡ header_of slot kept =
    one_header (header_of slot kept) (header_of place other) header one.says two.says in
    let permanent : other.permanent ≡ kept.permanent =
    one_image None kept.permanent other.permanent first one.shows two.shows in
    let holds : IsTentativeText kept.permanent other.tentative second =
    subst (λ (i : ImageView). IsTentativeText i other.tentative second) permanent two.holds in
    let tentative : other.tentative ≡ kept.tentative =
    one_tentative kept.permanent kept.tentative other.tentative second (ap (λ (h : HeaderView). h.tentative) same)
    one.holds holds in
    (ap (λ (h : HeaderView). h.slot) same, one_record other kept place slot same permanent tentative)

-- ---- it may be written

tentative_allowed : (highest : List ℕ) (permanent : ImageView) (t : Option Tentative) (bytes : List ℕ)
    → AllAllowed (held_fields highest (instance_of t)) → IsTentativeText permanent t bytes
    → AllAllowed (tentative_fields highest permanent t)
tentative_allowed highest permanent None bytes all text = all
tentative_allowed highest permanent (Some t) bytes all text =
    (all.0, (all.1.0, (all.1.1.0, recursion_from_All IsAllowed (image_fields (Some permanent) t.image) text.allowed)))

pub apart_is_record : (kept : RecordView) (slot : ℕ) (header first second : List ℕ)
    → IsApart slot kept header first second → IsRecord kept
apart_is_record kept slot header first second apart =
    let v = version_of header in
    let slots = slot_field slot ∷ held_fields kept.highest (instance_of kept.tentative) in
    let parts = front_parts v kept slots apart.says.text.allowed in
    let permanent = image_fields None kept.permanent in
    let tentative = tentative_fields kept.highest kept.permanent kept.tentative in
    later_allowed v kept
    (front_joined v kept (permanent ++ tentative) (record {
      head = parts.head;
      entries = parts.entries;
      decisions = parts.decisions;
      behind = allowed-append permanent tentative (recursion_from_All IsAllowed permanent apart.shows.allowed)
          (tentative_allowed kept.highest kept.permanent kept.tentative second parts.behind.1 apart.holds);
    }))

-- ---- each has such bytes

abbrev tentative_bytes : ImageView → Option Tentative → List ℕ
tentative_bytes permanent None = []
tentative_bytes permanent (Some t) = text_of (image_fields (Some permanent) t.image)

tentative_spelt : (highest : List ℕ) (permanent : ImageView) (t : Option Tentative)
    → AllAllowed (tentative_fields highest permanent t) → IsTentative t
    → IsTentativeText permanent t (tentative_bytes permanent t)
tentative_spelt highest permanent None all is = tt
tentative_spelt highest permanent (Some t) all is = record {
  allowed = All-from_recursion IsAllowed (image_fields (Some permanent) t.image) all.1.1.1;
  items = image_items t.image is;
  spelled = refl;
}

pub apart_is_there : (kept : RecordView) (slot : ℕ) → slot ≤ 1 → IsRecord kept
    → All (FitsSigned w64) (items_of_record kept)
    → (header : List ℕ) × (first : List ℕ) × (second : List ℕ) × IsApart slot kept header first second
apart_is_there kept slot le is items =
    let permanent = image_fields None kept.permanent in
    let tentative = tentative_fields kept.highest kept.permanent kept.tentative in
    let parts = front_parts VERSION kept (permanent ++ tentative) is in
    let images = allowed-split permanent tentative parts.behind in
    let fit = is_kept kept items in (
      header_text VERSION (header_of slot kept),
      text_of permanent,
      tentative_bytes kept.permanent kept.tentative,
      record {
        says = written_is_header (header_of slot kept) (header_text VERSION (header_of slot kept))
            (record { allowed = header_allowed slot kept le is; spelled = refl });
        shows = record {
          allowed = All-from_recursion IsAllowed permanent images.0;
          items = image_items kept.permanent fit.permanent;
          spelled = refl;
        };
        holds = tentative_spelt kept.highest kept.permanent kept.tentative images.1 fit.tentative;
      },
    )

-- ---- what is read is it

held_is : (permanent : ImageView) (i : Option Instance) (held : Option ImageView) (bytes : List ℕ)
    → IsHeldText permanent i held bytes → instance_of (tentative_with i held) ≡ i
held_is permanent None held bytes text = refl
held_is permanent (Some i) None bytes text = absurd text
held_is permanent (Some i) (Some image) bytes text = refl

held_text : (permanent : ImageView) (i : Option Instance) (held : Option ImageView) (bytes : List ℕ)
    → IsHeldText permanent i held bytes → IsTentativeText permanent (tentative_with i held) bytes
held_text permanent None held bytes text = tt
held_text permanent (Some i) None bytes text = absurd text
held_text permanent (Some i) (Some image) bytes text = text

pub joined_is_apart : (h : HeaderView) (permanent : ImageView) (held : Option ImageView)
    (header first second : List ℕ) → IsHeaderText h header → IsImageText None permanent first
    → IsHeldText permanent h.tentative held second
    → IsApart h.slot (record_with h permanent held) header first second
joined_is_apart h permanent held header first second says shows holds = record {
  says = subst (λ (g : HeaderView). IsHeaderText g header)
      (sym (ap (λ (i : Option Instance). record h { tentative = i })
      (held_is permanent h.tentative held second holds))) says;
  shows = shows;
  holds = held_text permanent h.tentative held second holds;
}
