-- The reader of a whole record is lawful.
use Rattle.std.proofs.Common.{◌≡◌, ℕ, ◌&&◌, nat_eq, nat_lt, nat_le, List, [], ◌∷◌, ◌++◌, length, map, slice_index}
use Rattle.std.proofs.Common.{Option, Some, None, refl, sym, ap, append_assoc}
use Rattle.record.specs.Common.{ImageView, RecordView}
use Rattle.record.specs.declared.record.Tentative.{Tentative}
use Rattle.ckpt_codec.specs.Fields.{Field}
use Rattle.ckpt_codec.specs.RecordText.{any, count, decisions_fields, image_fields, most_decisions, tentative_fields}
use Rattle.ckpt_codec.specs.HeaderText.{instance_fields}
use Rattle.ckpt_codec.specs.declared.header.Instance.{Instance}
use Rattle.ckpt_codec.specs.Reading.{instance_at, pending_at, tentative_at, Head, numbers_at, head_at, Front, front_at}
use Rattle.ckpt_codec.specs.Reading.{images_at, record_of, body_at}
use Rattle.ckpt_codec.proofs.Scan.{Lawful, Each}
use Rattle.ckpt_codec.proofs.Combining.{same_fields, same_values, built}
use Rattle.ckpt_codec.proofs.Parts.{plain, count_lawful, any_lawful, nodes_field, highest_lawful, decisions_lawful}
use Rattle.ckpt_codec.proofs.Parts.{IfThere, is_there, behind_flag, flag_of, optional_lawful, IsImage, image_lawful}

-- ---- the tentative image

abbrev pub initiator_field : List ℕ → ℕ → Field
initiator_field highest n = record { width = 1; allows = λ v. nat_lt v (length highest); value = n }

abbrev pub tentative_number : ℕ → ℕ → Field
tentative_number entry n = record { width = 8; allows = λ v. nat_le 1 v && nat_eq v entry; value = n }

pub instance_lawful : (highest : List ℕ)
    → Lawful Each (instance_fields highest) (instance_at highest)
unfolding instance_at
instance_lawful highest =
    same_values Each
    (built (λ i n. record { initiator = i; number = n }) (λ (x : Instance). x.initiator) (λ (x : Instance). x.number)
    (instance_fields highest)
    (plain (initiator_field highest) 1 (λ v. nat_lt v (length highest)) (λ n. refl))
    (λ i is. plain (tentative_number (slice_index highest i)) 8 (λ v. nat_le 1 v && nat_eq v (slice_index highest i))
    (λ n. refl)) (λ i is. (0, tt))
    (λ x. (refl, refl)) (λ i n. (refl, refl)))
    (λ x is. (tt, tt)) (λ x is. tt)

abbrev pub IsPending : Tentative → Type 0
IsPending t = IsImage t.image

no_image : IsImage (record { processes = []; ends = [] })
no_image = record { processes = tt; ends = tt }

abbrev pending_fields : List ℕ → ImageView → Tentative → List Field
pending_fields highest permanent t =
    initiator_field highest t.initiator ∷ tentative_number (slice_index highest t.initiator) t.number
    ∷ image_fields (Some permanent) t.image

pending_lawful : (highest : List ℕ) (permanent : ImageView)
    → Lawful IsPending (pending_fields highest permanent) (pending_at highest permanent)
unfolding pending_at
pending_lawful highest permanent =
    same_values IsPending
    (built (λ x image. record { initiator = x.initiator; number = x.number; image = image })
    (λ (t : Tentative). record { initiator = t.initiator; number = t.number }) (λ (t : Tentative). t.image)
    (pending_fields highest permanent)
    (instance_lawful highest) (λ x is. image_lawful (Some permanent))
    (λ x is. (record { processes = []; ends = [] }, no_image))
    (λ t. (refl, refl)) (λ x image. (refl, refl)))
    (λ t is. (tt, is)) (λ t is. is.1)

abbrev pub IsTentative : Option Tentative → Type 0
IsTentative t = IfThere IsPending t

tentative_lawful : (highest : List ℕ) (permanent : ImageView)
    → Lawful IsTentative (tentative_fields highest permanent) (tentative_at highest permanent)
unfolding tentative_at
tentative_lawful highest permanent =
    same_fields (tentative_fields highest permanent)
    (optional_lawful (pending_lawful highest permanent)
    (record { initiator = 0; number = 0; image = record { processes = []; ends = [] } }) no_image) same
  where
    same : (t : Option Tentative) → IsTentative t
        → tentative_fields highest permanent t ≡ flag_of (is_there t) ∷ behind_flag (pending_fields highest permanent) t
    same None is = refl
    same (Some t) is = refl

-- ---- the head

numbers_lawful : (node : ℕ)
    → Lawful Each (λ (x : ℕ × List ℕ). count x.0 ∷ nodes_field node (length x.1) ∷ map count x.1) (numbers_at node)
unfolding numbers_at
numbers_lawful node =
    same_values Each
    (built (λ epoch highest. (epoch, highest)) (λ x. x.0) (λ x. x.1)
    (λ (x : ℕ × List ℕ). count x.0 ∷ nodes_field node (length x.1) ∷ map count x.1)
    count_lawful (λ epoch is. highest_lawful node) (λ epoch is. ([], tt)) (λ x. (refl, refl))
    (λ epoch highest. (refl, refl)))
    (λ x is. (tt, tt)) (λ x is. tt)

abbrev head_text : Head → List Field
head_text head =
    any 1 head.node ∷ count head.epoch ∷ nodes_field head.node (length head.highest) ∷ map count head.highest

head_lawful : Lawful Each head_text head_at
unfolding head_at
head_lawful =
    same_values Each
    (built (λ node x. record { node = node; epoch = x.0; highest = x.1 }) (λ (h : Head). h.node)
    (λ (h : Head). (h.epoch, h.highest)) head_text
    (any_lawful 1) (λ node is. numbers_lawful node) (λ node is. ((0, []), tt)) (λ h. (refl, refl))
    (λ node x. (refl, refl)))
    (λ h is. (tt, tt)) (λ h is. tt)

-- ---- the front: what a record and its header have both

-- with at most so many decisions
abbrev pub front_fields : ℕ → Front → List Field
front_fields most front =
    any 1 front.node ∷ count front.epoch ∷ nodes_field front.node (length front.highest)
    ∷ (map count front.highest
    ++ decisions_fields most front.node (length front.highest) (slice_index front.highest front.node) front.decisions)

pub front_lawful : (most : ℕ) → Lawful Each (front_fields most) (front_at most)
unfolding front_at
front_lawful most =
    same_values Each
    (built
    (λ head ds. record { node = head.node; epoch = head.epoch; highest = head.highest; decisions = ds })
    (λ (f : Front). record { node = f.node; epoch = f.epoch; highest = f.highest }) (λ (f : Front). f.decisions)
    (front_fields most)
    head_lawful
    (λ head is. decisions_lawful most head.node (length head.highest) (slice_index head.highest head.node))
    (λ head is. ([], tt)) (λ f. (refl, refl)) (λ head ds. (refl, refl)))
    (λ f is. (tt, tt)) (λ f is. tt)

-- the front's fields, and others behind them
abbrev pub behind_front : ℕ → Front → List Field → List Field
behind_front most front others =
    any 1 front.node ∷ count front.epoch ∷ nodes_field front.node (length front.highest)
    ∷ (map count front.highest
    ++ (decisions_fields most front.node (length front.highest) (slice_index front.highest front.node) front.decisions
    ++ others))

pub front_then : (most : ℕ) (front : Front) (others : List Field)
    → behind_front most front others ≡ front_fields most front ++ others
front_then most front others =
    ap (λ (fs : List Field). any 1 front.node ∷ count front.epoch ∷ nodes_field front.node (length front.highest) ∷ fs)
    (sym (append_assoc (map count front.highest)
    (decisions_fields most front.node (length front.highest) (slice_index front.highest front.node) front.decisions)
    others))

-- ---- what follows it

abbrev IsImages : ImageView × Option Tentative → Type 0
IsImages x = IsImage x.0 × IsTentative x.1

images_lawful : (highest : List ℕ)
    → Lawful IsImages (λ x. image_fields None x.0 ++ tentative_fields highest x.0 x.1) (images_at highest)
unfolding images_at
images_lawful highest =
    built (λ permanent tentative. (permanent, tentative)) (λ x. x.0) (λ x. x.1)
    (λ x. image_fields None x.0 ++ tentative_fields highest x.0 x.1)
    (image_lawful None) (λ permanent is. tentative_lawful highest permanent) (λ permanent is. (None, tt))
    (λ x. (refl, refl)) (λ permanent tentative. (refl, refl))

-- ---- the whole

-- the items of the images are of 64 bits
pub record IsKept (kept : RecordView) : Type 0 where
  pub permanent : IsImage kept.permanent
  pub tentative : IsTentative kept.tentative

abbrev front_in : RecordView → Front
front_in r = record { node = r.node; epoch = r.epoch; highest = r.highest; decisions = r.decisions }

abbrev pub body_fields : ℕ → RecordView → List Field
body_fields version kept =
    behind_front (most_decisions version) (front_in kept)
    (image_fields None kept.permanent ++ tentative_fields kept.highest kept.permanent kept.tentative)

pub body_lawful : (version : ℕ) → Lawful IsKept (body_fields version) (body_at version)
unfolding body_at
body_lawful version =
    same_values IsKept
    (built record_of front_in (λ (r : RecordView). (r.permanent, r.tentative)) (body_fields version)
    (front_lawful (most_decisions version)) (λ front is. images_lawful front.highest)
    (λ front is. ((record { processes = []; ends = [] }, None), (no_image, tt)))
    (λ r. (
      refl,
      front_then (most_decisions version) (front_in r)
          (image_fields None r.permanent ++ tentative_fields r.highest r.permanent r.tentative),
    ))
    (λ front images. (refl, refl)))
    (λ r is. (tt, (is.permanent, is.tentative))) (λ r is. record { permanent = is.1.0; tentative = is.1.1 })
