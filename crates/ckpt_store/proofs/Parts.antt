-- The fields of a record, part by part.
use Rattle.std.proofs.Common.{List, [], ◌∷◌, ◌++◌, length, map}
use Rattle.std.specs.Prelude.{All, None, slice_index}
use Rattle.std.proofs.lemmas.List.Elements.{All-nil, All-cons, All-head, All-tail, All-append}
use Rattle.ckpt_codec.specs.Common.{RecordView, Field, IsAllowed, AreAllowed, IsRecord, count, image_fields}
use Rattle.ckpt_codec.specs.Common.{tentative_fields, MAX_DECISIONS}
use Rattle.ckpt_codec.specs.RecordText.{head_fields, decisions_fields}
use Rattle.ckpt_codec.specs.declared.version.TheConstants.{VERSION}

-- what holds of each of two lists' elements holds of the first one's, and of the second one's
pub all_front : {X : Type 0} (P : X → Type 0) (xs ys : List X) → All P (xs ++ ys) → All P xs
all_front P [] ys all = All-nil P
all_front P (x ∷ xs) ys all =
    All-cons P x xs (All-head P x (xs ++ ys) all) (all_front P xs ys (All-tail P x (xs ++ ys) all))

pub all_back : {X : Type 0} (P : X → Type 0) (xs ys : List X) → All P (xs ++ ys) → All P ys
all_back P [] ys all = all
all_back P (x ∷ xs) ys all = all_back P xs ys (All-tail P x (xs ++ ys) all)

-- the parts of a record may stand where they do
pub record AreParts (kept : RecordView) : Type 0 where
  pub head : AreAllowed (head_fields VERSION kept)
  pub entries : AreAllowed (map count kept.highest)
  pub decisions : AreAllowed
      (decisions_fields MAX_DECISIONS kept.node (length kept.highest) (slice_index kept.highest kept.node)
      kept.decisions)
  pub permanent : AreAllowed (image_fields None kept.permanent)
  pub tentative : AreAllowed (tentative_fields kept.highest kept.permanent kept.tentative)

module _ (kept : RecordView) where
  pub parts_of : IsRecord kept → AreParts kept
  parts_of all =
      let tentative : List Field = tentative_fields kept.highest kept.permanent kept.tentative in
      let permanent : List Field = image_fields None kept.permanent in
      let decisions : List Field =
      decisions_fields MAX_DECISIONS kept.node (length kept.highest) (slice_index kept.highest kept.node)
      kept.decisions in
      let entries : List Field = map count kept.highest in
      let behind = all_back IsAllowed (head_fields VERSION kept) (entries ++ (decisions ++ (permanent ++ tentative))) all in
      let behind2 = all_back IsAllowed entries (decisions ++ (permanent ++ tentative)) behind in
      let behind3 = all_back IsAllowed decisions (permanent ++ tentative) behind2 in
      record {
        head = all_front IsAllowed (head_fields VERSION kept) (entries ++ (decisions ++ (permanent ++ tentative))) all;
        entries = all_front IsAllowed entries (decisions ++ (permanent ++ tentative)) behind;
        decisions = all_front IsAllowed decisions (permanent ++ tentative) behind2;
        permanent = all_front IsAllowed permanent tentative behind3;
        tentative = all_back IsAllowed permanent tentative behind3;
      }

  pub whole : AreParts kept → IsRecord kept
  whole parts =
      let tentative : List Field = tentative_fields kept.highest kept.permanent kept.tentative in
      let permanent : List Field = image_fields None kept.permanent in
      let decisions : List Field =
      decisions_fields MAX_DECISIONS kept.node (length kept.highest) (slice_index kept.highest kept.node)
      kept.decisions in
      let entries : List Field = map count kept.highest in
      All-append IsAllowed (head_fields VERSION kept) (entries ++ (decisions ++ (permanent ++ tentative))) parts.head
      (All-append IsAllowed entries (decisions ++ (permanent ++ tentative)) parts.entries
      (All-append IsAllowed decisions (permanent ++ tentative) parts.decisions
      (All-append IsAllowed permanent tentative parts.permanent parts.tentative)))
