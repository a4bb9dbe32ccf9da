-- That a store has no cause to refuse a decision, a verdict or a confirmation, and what becomes of the node by one.
use Rattle.std.proofs.Common.{◌≡◌, ℕ, zero, suc, ◌+◌, ◌<◌, ◌≤◌, Bool, true, false, ◌&&◌, ◌||◌, not, List, [], ◌∷◌, length}
use Rattle.std.proofs.Common.{Option, Some, None, refl, sym, ◌∙◌, ap, subst, arith, eqb, All}
use Rattle.std.specs.Prelude.{◌==◌, cond, nat_le, nat_lt}
use Rattle.std.specs.List.{list_any}
use Rattle.std.proofs.lemmas.Bool.{le-leb, lt-ltb, eqb-true}
use Rattle.std.proofs.lemmas.List.{length-append}
use Rattle.std.proofs.lemmas.List.Elements.{All-cons, All-nil}
use Rattle.ckpt_codec.specs.Common.{AreAllowed, IsAllowed, spelled_length, decided_below, decided_by, decision_by}
use Rattle.ckpt_codec.specs.Common.{last_image}
use Rattle.protocol.specs.Node.Common.{image_length, MAX_RETAINED_ITEMS, fits_in, numbers_where}
use Rattle.protocol.specs.Node.Common.{participants_of, MAX_NODES, DecisionView, ImageView, with_confirmed}
use Rattle.protocol.specs.Node.Common.{with_decision, without_tentative, RecordView, Tentative, MAX_DECISIONS}
use Rattle.protocol.specs.Node.Common.{StoreFault, holds}
use Rattle.ckpt_codec.specs.RecordText.{participants}
use Rattle.ckpt_codec.specs.SizeLaws.{IsRecordWithin, within_confirmed, within_without_tentative}
use Rattle.ckpt_codec.specs.declared.lengths.TheConstants.{MAX_RECORD_BYTES}
use Rattle.ckpt_store.proofs.Room.{decision_fits}
use Rattle.ckpt_store.specs.Spelling.{AreOthers, held_fits, images_fit, is_short}
use Rattle.protocol_laws.specs.Node.SizeLaws.{decided_within}
use Rattle.protocol_laws.specs.World.RoomLaws.{bounded_is_short}
use Rattle.protocol.specs.World.Common.{has_node, names}
use Rattle.ckpt_store.specs.Refusals.{is_held, is_named_by, refusal_to_decide, refusal_unless_held}
use Rattle.ckpt_store.specs.declared.fault.StoreFault.TheVariants as fault
use Rattle.node.specs.Said.{held_image}

pub both_of : (a b : Bool) → (a && b) ≡ true → (a ≡ true) × (b ≡ true)
both_of true b is = (refl, is)
both_of false b is = absurd (cc)

-- what is held is said in the same words
pub held_same : (initiator number : ℕ) (o : Option Tentative) → holds initiator number o ≡ is_held initiator number o
held_same initiator number None = refl
held_same initiator number (Some held) = refl

pub fine_unless_held : (initiator number : ℕ) (kept : RecordView) → holds initiator number kept.tentative ≡ true
    → refusal_unless_held initiator number kept ≡ None
fine_unless_held initiator number kept held =
    ap (λ (b : Bool). cond b None (Some fault.NotHeld)) (sym (held_same initiator number kept.tentative) ∙ held)

-- ---- a decision

below_few : (number : ℕ) (ds : List DecisionView) → length (decided_below number ds) ≤ length ds
below_few number [] = omega arith
below_few number (d ∷ ds) = at (nat_lt d.number number) (below_few number ds)
  where
    at : (b : Bool) → length (decided_below number ds) ≤ length ds
        → length (cond b (d ∷ decided_below number ds) (decided_below number ds)) ≤ suc (length ds)
    at true few = omega (arith, few)
    at false few = omega (arith, few)

-- there is room for a decision where there is room for one more
decided_room : (number : ℕ) (nodes : List ℕ) (ds : List DecisionView) → length ds < MAX_DECISIONS
    → length (decided_by number nodes ds) ≤ MAX_DECISIONS
decided_room number [] ds room = omega (arith, room)
decided_room number (p ∷ ps) ds room =
    let few = below_few number ds in
    let one : length (decision_by number (p ∷ ps)) ≡ 1 = refl in
    let sum = length-append (decided_below number ds) (decision_by number (p ∷ ps)) in
    omega (arith, few, one, sum, room)

pub decide_fine : (home number : ℕ) (nodes : List ℕ) (kept : RecordView) → kept.node ≡ home
    → holds home number kept.tentative ≡ true → length kept.decisions < MAX_DECISIONS
    → refusal_to_decide number nodes kept ≡ None
decide_fine home number nodes kept named held room =
    ap (λ (n : ℕ). cond (is_held n number kept.tentative) place (Some fault.NotHeld)) named
    ∙ (ap (λ (b : Bool). cond b place (Some fault.NotHeld)) (sym (held_same home number kept.tentative) ∙ held)
    ∙ ap (λ (b : Bool). cond b None (Some fault.Unsettled))
    (le-leb (length (decided_by number nodes kept.decisions)) MAX_DECISIONS
    (decided_room number nodes kept.decisions room)))
  where
    place : Option StoreFault
    place = cond (nat_le (length (decided_by number nodes kept.decisions)) MAX_DECISIONS) None
        (Some fault.Unsettled)

pub true_both : (a b : Bool) → a ≡ true → b ≡ true → (a && b) ≡ true
true_both true b p q = q
true_both false b p q = absurd (cc)

-- those who took part are other nodes, ascending
module _ (home nodes : ℕ) (takers : List ℕ) (others : has_node home takers ≡ false) where
  apart : (p : ℕ) → has_node p takers ≡ true → eqb p home ≡ false
  apart p has = at (eqb p home) refl
    where
      at : (b : Bool) → eqb p home ≡ b → b ≡ false
      at false is = refl
      at true is =
          let same : p ≡ home = eqb-true p home is in
          let here : has_node home takers ≡ true = subst (λ (n : ℕ). has_node n takers ≡ true) same has in cc

  pub takers_allowed : (least first count : ℕ) → least ≤ first → first + count ≤ nodes → nodes ≤ MAX_NODES
      → AreAllowed (participants home nodes least (numbers_where (λ p. has_node p takers) first count))
  takers_allowed least first zero low high few = All-nil IsAllowed
  takers_allowed least first (suc count) low high few =
      at (has_node first takers) refl (λ l low. takers_allowed l (suc first) count low (omega (arith, high)) few)
    where
      at : (b : Bool) → has_node first takers ≡ b
          → ((l : ℕ) → l ≤ suc first → AreAllowed
          (participants home nodes l (numbers_where (λ p. has_node p takers) (suc first) count)))
          → AreAllowed (participants home nodes least
          (cond b (first ∷ numbers_where (λ p. has_node p takers) (suc first) count)
          (numbers_where (λ p. has_node p takers) (suc first) count)))
      at false is rest = rest least (omega (arith, low))
      at true is rest = All-cons IsAllowed _
          (participants home nodes (suc first) (numbers_where (λ p. has_node p takers) (suc first) count)) (
            omega (arith, high, few),
            true_both (nat_le least first) (nat_lt first nodes && not (eqb first home)) (le-leb least first low)
                (true_both (nat_lt first nodes) (not (eqb first home)) (lt-ltb first nodes (omega (arith, high)))
                (ap not (apart first is))),
          )
          (rest (suc first) (omega arith))

-- ---- a verdict

pub held_image_is : (initiator number : ℕ) (o : Option Tentative) (image : ImageView)
    → held_image initiator number o ≡ Some image
    → (holds initiator number o ≡ true) × ((permanent : ImageView) → last_image permanent o ≡ image)
held_image_is initiator number None image is = absurd (cc)
held_image_is initiator number (Some held) image is =
    at (eqb held.initiator initiator && eqb held.number number) refl is
  where
    at : (b : Bool) → (eqb held.initiator initiator && eqb held.number number) ≡ b
        → cond b (Some held.image) None ≡ Some image
        → ((eqb held.initiator initiator && eqb held.number number) ≡ true)
        × ((permanent : ImageView) → last_image permanent (Some held) ≡ image)
    at true same e = (same, λ permanent. (let is : held.image ≡ image = cc in is))
    at false same e = absurd (cc)

-- ---- what fits

-- a record within its bounds fits where its images do
fits_bounded : (room : ℕ) (kept : RecordView) → IsRecordWithin MAX_RETAINED_ITEMS kept → images_fit room kept ≡ true
    → fits_in room kept ≡ true
fits_bounded room kept within images =
    true_both (is_short (spelled_length kept)) (images_fit room kept)
    (le-leb (spelled_length kept) MAX_RECORD_BYTES (bounded_is_short kept within)) images

module _ (room : ℕ) (kept : RecordView) (within : IsRecordWithin MAX_RETAINED_ITEMS kept)
    (fits : fits_in room kept ≡ true) where
  images : images_fit room kept ≡ true
  images = (both_of (is_short (spelled_length kept)) (images_fit room kept) fits).1

  pub dropped_fits : fits_in room (without_tentative kept) ≡ true
  dropped_fits =
      fits_bounded room (without_tentative kept) (within_without_tentative MAX_RETAINED_ITEMS kept within)
      (true_both (nat_le (image_length kept.permanent) room) true
      (both_of (nat_le (image_length kept.permanent) room) (held_fits room kept.tentative) images).0 refl)

  pub confirmed_fits : (number node : ℕ) → fits_in room (with_confirmed number node kept) ≡ true
  confirmed_fits number node =
      fits_bounded room (with_confirmed number node kept) (within_confirmed MAX_RETAINED_ITEMS kept within number node)
      images

  pub decided_fits : (number : ℕ) (nodes : List ℕ) → length nodes ≤ MAX_NODES → length kept.decisions < MAX_DECISIONS
      → fits_in room (with_decision number nodes kept) ≡ true
  decided_fits number nodes few less =
      fits_bounded room (with_decision number nodes kept) (decided_within number nodes kept few less within)
      (both_of (is_short (spelled_length (with_decision number [] kept))) (images_fit room (with_decision number [] kept))
      (decision_fits room kept fits number)).1

-- whom a decision names are other nodes of the record's
pub are_others : (home : ℕ) (kept : RecordView) (takers items : List ℕ) (nodes : ℕ) → kept.node ≡ home
    → nodes ≡ length kept.highest → length kept.highest ≤ MAX_NODES → has_node home takers ≡ false
    → items ≡ participants_of nodes takers → AreOthers kept items
are_others home kept takers items nodes named count few others is = record {
  allowed = subst (λ (ps : List ℕ). AreAllowed (participants kept.node (length kept.highest) 0 ps)) (sym is)
      (subst (λ (n : ℕ). AreAllowed (participants n (length kept.highest) 0 (participants_of nodes takers))) (sym named)
      (subst (λ (n : ℕ). AreAllowed (participants home (length kept.highest) 0 (participants_of n takers))) (sym count)
      (takers_allowed home (length kept.highest) takers others 0 0 (length kept.highest) (omega arith) (omega arith)
      few)));
}

where_short : (test : ℕ → Bool) (first count : ℕ) → length (numbers_where test first count) ≤ count
where_short test first zero = omega arith
where_short test first (suc count) = at (test first) (where_short test (suc first) count)
  where
    at : (b : Bool) → length (numbers_where test (suc first) count) ≤ count
        → length (cond b (first ∷ numbers_where test (suc first) count) (numbers_where test (suc first) count))
        ≤ suc count
    at true few = omega (arith, few)
    at false few = omega (arith, few)

pub participants_few : (nodes : ℕ) (takers : List ℕ) → length (participants_of nodes takers) ≤ nodes
participants_few nodes takers = where_short (λ p. has_node p takers) 0 nodes

-- ---- a confirmation

node_same : (node : ℕ) (nodes : List ℕ) → has_node node nodes ≡ list_any (λ p. p == node) nodes
node_same node [] = refl
node_same node (p ∷ ps) = ap (λ (b : Bool). eqb p node || b) (node_same node ps)

-- what a decision names is said in the same words
pub names_same : (number node : ℕ) (ds : List DecisionView) → names ds number node ≡ is_named_by number node ds
names_same number node [] = refl
names_same number node (d ∷ ds) =
    ap (λ (b : Bool). (eqb d.number number && b) || names ds number node) (node_same node d.participants)
    ∙ ap (λ (b : Bool). (eqb d.number number && list_any (λ p. p == node) d.participants) || b)
    (names_same number node ds)
