-- Laws of how long a record gets: one whose images are within bounds fits, and a move that lets an image go makes none
-- longer.
use Rattle.std.proofs.Common.{◌≡◌, ℕ, zero, suc, ◌+◌, ◌*◌, ◌≤◌, Bool, true, false, cond, List, [], ◌∷◌, ◌++◌, length}
use Rattle.std.proofs.Common.{Option, Some, None, refl, subst, sym, ap, ◌∙◌, arith, length-append}
use Rattle.std.specs.Prelude.{slice_get, sum_by, ◌==◌, nat_lt, not}
use Rattle.std.specs.List.{AllByRecursion}
use Rattle.std.proofs.lemmas.List.{length-set}
use Rattle.std.proofs.lemmas.List.Concat.{flat_map-cons}
use Rattle.std.proofs.lemmas.List.Sums.{sum_by-cons, length-filter, count_by-le-length}
use Rattle.record.specs.Common.{Standing, NotBegun, At, Done, MAX_NODES, MAX_PROCESSES, MAX_CHANNELS, MAX_VARIABLES}
use Rattle.record.specs.Common.{MAX_REPEATS, DecisionView, SavedProcessView, ImageView, RecordView, with_tentative}
use Rattle.record.specs.Common.{last_image, with_permanent, without_tentative, decision_by, decided_by, decided_below}
use Rattle.record.specs.Common.{confirmed_one, with_decision, without_node, confirmed, with_confirmed, without_own}
use Rattle.record.specs.Common.{with_epoch}
use Rattle.record.specs.declared.record.TheConstants.{MAX_DECISIONS}
use Rattle.record.specs.declared.image.SavedEnd.{SavedEnd}
use Rattle.record.specs.declared.image.End.{End}
use Rattle.record.specs.declared.image.End.TheVariants.{Receives, Sends, Both}
use Rattle.record.specs.declared.record.Tentative.{Tentative}
use Rattle.ckpt_codec.specs.RecordText.{variables_of, items_of_end}
use Rattle.ckpt_codec.specs.Lengths.{mode_length, process_length, end_length, saved_end_length, image_length}
use Rattle.ckpt_codec.specs.Lengths.{decision_length, decisions_length, tentative_length, record_length}
use Rattle.ckpt_codec.specs.declared.lengths.TheConstants.{MAX_RECORD_BYTES, MAX_RETAINED_ITEMS}

-- Bounds

-- how many items an end of a channel retains, and all the ends of an image
abbrev pub items_at : SavedEnd → ℕ
items_at saved = length (items_of_end saved.end)

abbrev pub items_in : ImageView → ℕ
items_in image = sum_by items_at image.ends

-- the passes that remain where a process stands
abbrev pub left_of : Standing → List ℕ
left_of (NotBegun vars) = []
left_of (At point vars) = point.left
left_of (Done vars) = []

-- an image of no more processes, variables and repetitions of each, and channels than a network has, and with at most so
-- many items in all its logs
pub record IsImageWithin (most : ℕ) (image : ImageView) : Type 0 where
  pub processes : length image.processes ≤ MAX_PROCESSES
  pub variables : (k : ℕ) (saved : SavedProcessView) → slice_get image.processes k ≡ Some saved
      → length (variables_of saved.standing) ≤ MAX_VARIABLES
  pub passes : (k : ℕ) (saved : SavedProcessView) → slice_get image.processes k ≡ Some saved
      → length (left_of saved.standing) ≤ MAX_REPEATS
  pub ends : length image.ends ≤ MAX_CHANNELS
  pub items : items_in image ≤ most

-- a record of no more nodes than there are, both of whose images are within those bounds
pub record IsRecordWithin (most : ℕ) (kept : RecordView) : Type 0 where
  pub nodes : length kept.highest ≤ MAX_NODES
  pub decided : length kept.decisions ≤ MAX_DECISIONS
  pub decisions : (k : ℕ) (d : DecisionView) → slice_get kept.decisions k ≡ Some d → length d.participants ≤ MAX_NODES
  pub permanent : IsImageWithin most kept.permanent
  pub tentative : (t : Tentative) → kept.tentative ≡ Some t → IsImageWithin most t.image

-- Sums

-- a sum of numbers none of which is above this one
pub sum_by_at_most : {X : Type 0} (f : X → ℕ) (m : ℕ) (xs : List X)
    → ((k : ℕ) (x : X) → slice_get xs k ≡ Some x → f x ≤ m) → sum_by f xs ≤ length xs * m
sum_by_at_most f m [] few = omega arith
sum_by_at_most f m (x ∷ xs) few =
    let one : f x ≤ m = few zero x refl in
    let rest : sum_by f xs ≤ length xs * m = sum_by_at_most f m xs (λ k y is. few (suc k) y is) in
    subst (λ (n : ℕ). n ≤ suc (length xs) * m) (sym (sum_by-cons f x xs)) (omega (arith, one, rest))

-- Lengths

process_fits : (saved : SavedProcessView) → length (variables_of saved.standing) ≤ MAX_VARIABLES
    → length (left_of saved.standing) ≤ MAX_REPEATS → process_length saved ≤ 648
process_fits saved few shallow = at saved.standing few shallow
  where
    at : (standing : Standing) → length (variables_of standing) ≤ MAX_VARIABLES
        → length (left_of standing) ≤ MAX_REPEATS
        → 2 + mode_length standing + 8 * length (variables_of standing) ≤ 648
    at (NotBegun vars) few shallow = omega (arith, few)
    at (At point vars) few shallow = omega (arith, few, shallow)
    at (Done vars) few shallow = omega (arith, few)

end_fits : (end : End) → end_length end ≤ 20 + 8 * length (items_of_end end)
end_fits (Receives received) = omega arith
end_fits (Sends log) = omega arith
end_fits (Both received log) = omega arith

ends_fit : (ends : List SavedEnd) → sum_by saved_end_length ends ≤ 23 * length ends + 8 * sum_by items_at ends
ends_fit [] = omega arith
ends_fit (saved ∷ ends) =
    let one : end_length saved.end ≤ 20 + 8 * length (items_of_end saved.end) = end_fits saved.end in
    let rest : sum_by saved_end_length ends ≤ 23 * length ends + 8 * sum_by items_at ends = ends_fit ends in
    let long : sum_by saved_end_length (saved ∷ ends) ≡ 3 + end_length saved.end + sum_by saved_end_length ends =
    sum_by-cons saved_end_length saved ends in
    let many : sum_by items_at (saved ∷ ends) ≡ length (items_of_end saved.end) + sum_by items_at ends =
    sum_by-cons items_at saved ends in
    omega (arith, one, rest, long, many)

-- an image without items is at most 47,363 bytes long, and each item is 8
pub image_fits : (most : ℕ) (image : ImageView) → IsImageWithin most image → image_length image ≤ 47363 + 8 * most
image_fits most image within =
    let all : sum_by process_length image.processes ≤ length image.processes * 648 =
    sum_by_at_most process_length 648 image.processes
    (λ k saved is. process_fits saved (within.variables k saved is) (within.passes k saved is)) in
    let ends : sum_by saved_end_length image.ends ≤ 23 * length image.ends + 8 * sum_by items_at image.ends =
    ends_fit image.ends in
    let processes = within.processes in
    let channels = within.ends in
    let retained : sum_by items_at image.ends ≤ most = within.items in
    omega (arith, all, ends, processes, channels, retained)

decisions_fit : (ds : List DecisionView) → length ds ≤ MAX_DECISIONS
    → ((k : ℕ) (d : DecisionView) → slice_get ds k ≡ Some d → length d.participants ≤ MAX_NODES)
    → decisions_length ds ≤ 201
decisions_fit ds few nodes =
    let all : sum_by decision_length ds ≤ length ds * 25 =
    sum_by_at_most decision_length 25 ds (λ k d is. (let some = nodes k d is in omega (arith, some))) in
    omega (arith, all, few)

tentative_fits : (most : ℕ) (tentative : Option Tentative)
    → ((t : Tentative) → tentative ≡ Some t → IsImageWithin most t.image)
    → tentative_length tentative ≤ 47373 + 8 * most
tentative_fits most None within = omega arith
tentative_fits most (Some t) within = let image = image_fits most t.image (within t refl) in omega (arith, image)

-- a record of two images within bounds is at most as long as a record may be
pub record_fits : (kept : RecordView) → IsRecordWithin MAX_RETAINED_ITEMS kept → record_length kept ≤ MAX_RECORD_BYTES
record_fits kept within =
    let nodes = within.nodes in
    let decisions = decisions_fit kept.decisions within.decided within.decisions in
    let permanent = image_fits MAX_RETAINED_ITEMS kept.permanent within.permanent in
    let tentative = tentative_fits MAX_RETAINED_ITEMS kept.tentative within.tentative in
    omega (arith, nodes, decisions, permanent, tentative)

-- Moves

-- an image is as long as the one that is held, which has its own head
last_is_shorter : (permanent : ImageView) (tentative : Option Tentative)
    → image_length (last_image permanent tentative) + 1 ≤ image_length permanent + tentative_length tentative
last_is_shorter permanent None = omega arith
last_is_shorter permanent (Some held) = omega arith

own_is_shorter : (node : ℕ) (tentative : Option Tentative)
    → tentative_length (without_own node tentative) ≤ tentative_length tentative
own_is_shorter node None = omega arith
own_is_shorter node (Some held) = at (held.initiator == node)
  where
    at : (b : Bool) → tentative_length (cond b None (Some held)) ≤ tentative_length (Some held)
    at true = omega arith
    at false = omega arith

none_is_shorter : (tentative : Option Tentative) → 1 ≤ tentative_length tentative
none_is_shorter None = omega arith
none_is_shorter (Some held) = omega arith

-- with its tentative image as the permanent one a record is no longer
pub permanent_is_shorter : (kept : RecordView) → record_length (with_permanent kept) ≤ record_length kept
permanent_is_shorter kept = let last = last_is_shorter kept.permanent kept.tentative in omega (arith, last)

pub tentative_is_shorter : (kept : RecordView) → record_length (without_tentative kept) ≤ record_length kept
tentative_is_shorter kept = let none = none_is_shorter kept.tentative in omega (arith, none)

-- nor with a decision that nobody has to confirm
pub decision_is_shorter : (n : ℕ) (kept : RecordView) → record_length (with_decision n [] kept) ≤ record_length kept
decision_is_shorter n kept = let last = last_is_shorter kept.permanent kept.tentative in omega (arith, last)

-- nor in its next epoch
pub epoch_is_shorter : (kept : RecordView) → record_length (with_epoch kept) ≤ record_length kept
epoch_is_shorter kept = let own = own_is_shorter kept.node kept.tentative in omega (arith, own)

-- decisions get no more by a confirmation
one_at_most : (number node : ℕ) (d : DecisionView) → length (confirmed_one number node d) ≤ 1
one_at_most number node d = at (d.number == number)
  where
    by : (ps : List ℕ) → length (decision_by number ps) ≤ 1
    by [] = omega arith
    by (p ∷ ps) = omega arith

    at : (b : Bool) → length (cond b (decision_by number (without_node node d.participants)) (d ∷ [])) ≤ 1
    at false = omega arith
    at true = by (without_node node d.participants)

pub confirmed_no_more : (number node : ℕ) (ds : List DecisionView) → length (confirmed number node ds) ≤ length ds
confirmed_no_more number node [] = omega arith
confirmed_no_more number node (d ∷ ds) =
    let one = one_at_most number node d in
    let rest = confirmed_no_more number node ds in
    let sum : length (confirmed number node (d ∷ ds))
    ≡ length (confirmed_one number node d) + length (confirmed number node ds) =
    ap (length {A = DecisionView}) (flat_map-cons (confirmed_one number node) d ds)
    ∙ length-append (confirmed_one number node d) (confirmed number node ds) in
    omega (arith, one, rest, sum)

-- and each move of a record within bounds gives one within bounds

module _ (most : ℕ) (kept : RecordView) (within : IsRecordWithin most kept) where
  last_within : (tentative : Option Tentative) → ((t : Tentative) → tentative ≡ Some t → IsImageWithin most t.image)
      → IsImageWithin most (last_image kept.permanent tentative)
  last_within None held = within.permanent
  last_within (Some t) held = held t refl

  -- a decision of some list names few nodes
  abbrev NameFew : List DecisionView → Type 0
  NameFew ds = (k : ℕ) (d : DecisionView) → slice_get ds k ≡ Some d → length d.participants ≤ MAX_NODES

  name_few : (ds : List DecisionView) → AllByRecursion (λ (d : DecisionView). length d.participants ≤ MAX_NODES) ds
      → NameFew ds
  name_few [] all k d is = absurd (cc)
  name_few (x ∷ ds) all zero d is =
      let same : x ≡ d = cc in subst (λ (e : DecisionView). length e.participants ≤ MAX_NODES) same all.0
  name_few (x ∷ ds) all (suc k) d is = name_few ds all.1 k d is

  all_few : (ds : List DecisionView) → NameFew ds
      → AllByRecursion (λ (d : DecisionView). length d.participants ≤ MAX_NODES) ds
  all_few [] few = tt
  all_few (x ∷ ds) few = (few 0 x refl, all_few ds (λ k d is. few (suc k) d is))

  by_few : (number : ℕ) (participants : List ℕ) → length participants ≤ MAX_NODES
      → AllByRecursion (λ (d : DecisionView). length d.participants ≤ MAX_NODES) (decision_by number participants)
  by_few number [] few = tt
  by_few number (p ∷ ps) few = (few, tt)

  below_few : (number : ℕ) (ds : List DecisionView)
      → AllByRecursion (λ (d : DecisionView). length d.participants ≤ MAX_NODES) ds
      → AllByRecursion (λ (d : DecisionView). length d.participants ≤ MAX_NODES) (decided_below number ds)
  below_few number [] all = tt
  below_few number (d ∷ ds) all = at (nat_lt d.number number) (below_few number ds all.1)
    where
      at : (b : Bool)
          → AllByRecursion (λ (d : DecisionView). length d.participants ≤ MAX_NODES) (decided_below number ds)
          → AllByRecursion (λ (d : DecisionView). length d.participants ≤ MAX_NODES)
          (cond b (d ∷ decided_below number ds) (decided_below number ds))
      at true rest = (all.0, rest)
      at false rest = rest

  few_append : (xs ys : List DecisionView)
      → AllByRecursion (λ (d : DecisionView). length d.participants ≤ MAX_NODES) xs
      → AllByRecursion (λ (d : DecisionView). length d.participants ≤ MAX_NODES) ys
      → AllByRecursion (λ (d : DecisionView). length d.participants ≤ MAX_NODES) (xs ++ ys)
  few_append [] ys one two = two
  few_append (x ∷ xs) ys one two = (one.0, few_append xs ys one.1 two)

  decided_few : (number : ℕ) (participants : List ℕ) → length participants ≤ MAX_NODES
      → NameFew (decided_by number participants kept.decisions)
  decided_few number [] few = within.decisions
  decided_few number (p ∷ ps) few =
      name_few (decided_by number (p ∷ ps) kept.decisions)
      (few_append (decided_below number kept.decisions) (decision_by number (p ∷ ps))
      (below_few number kept.decisions (all_few kept.decisions within.decisions)) (by_few number (p ∷ ps) few))

  one_few : (number node : ℕ) (d : DecisionView) → length d.participants ≤ MAX_NODES
      → AllByRecursion (λ (d : DecisionView). length d.participants ≤ MAX_NODES) (confirmed_one number node d)
  one_few number node d few = at (d.number == number)
    where
      at : (b : Bool) → AllByRecursion (λ (d : DecisionView). length d.participants ≤ MAX_NODES)
          (cond b (decision_by number (without_node node d.participants)) (d ∷ []))
      at false = (few, tt)
      at true =
          let some = length-filter (λ (p : ℕ). not (p == node)) d.participants in
          let all = count_by-le-length (λ (p : ℕ). not (p == node)) d.participants in
          by_few number (without_node node d.participants) (omega (arith, some, all, few))

  confirmed_few : (number node : ℕ) (ds : List DecisionView)
      → AllByRecursion (λ (d : DecisionView). length d.participants ≤ MAX_NODES) ds
      → AllByRecursion (λ (d : DecisionView). length d.participants ≤ MAX_NODES) (confirmed number node ds)
  confirmed_few number node [] all = tt
  confirmed_few number node (d ∷ ds) all =
      subst (AllByRecursion (λ (d : DecisionView). length d.participants ≤ MAX_NODES))
      (sym (flat_map-cons (confirmed_one number node) d ds))
      (few_append (confirmed_one number node d) (confirmed number node ds) (one_few number node d all.0)
      (confirmed_few number node ds all.1))

  own_within : (node : ℕ) (tentative : Option Tentative)
      → ((t : Tentative) → tentative ≡ Some t → IsImageWithin most t.image) → (t : Tentative)
      → without_own node tentative ≡ Some t → IsImageWithin most t.image
  own_within node None held t is = absurd (cc)
  own_within node (Some s) held t is = at (s.initiator == node) is
    where
      at : (b : Bool) → cond b None (Some s) ≡ Some t → IsImageWithin most t.image
      at true is = absurd (cc)
      at false is = held t is

  pub within_tentative : (initiator number : ℕ) (image : ImageView) → IsImageWithin most image
      → IsRecordWithin most (with_tentative initiator number image kept)
  within_tentative initiator number image here = record {
    nodes = (let same = length-set kept.highest initiator number in let few = within.nodes in omega (arith, same, few));
    decided = within.decided;
    decisions = within.decisions;
    permanent = within.permanent;
    tentative = λ t is. (let same : image ≡ t.image = cc in subst (IsImageWithin most) same here);
  }

  pub within_permanent : IsRecordWithin most (with_permanent kept)
  within_permanent =
      record {
        nodes = within.nodes;
        decided = within.decided;
        decisions = within.decisions;
        permanent =
            last_within kept.tentative within.tentative;
        tentative = λ t is. absurd (cc);
      }

  pub within_without_tentative : IsRecordWithin most (without_tentative kept)
  within_without_tentative =
      record {
        nodes = within.nodes;
        decided = within.decided;
        decisions = within.decisions;
        permanent = within.permanent;
        tentative =
            λ t is. absurd (cc);
      }

  pub within_decision : (number : ℕ) (participants : List ℕ) → length participants ≤ MAX_NODES
      → length (decided_by number participants kept.decisions) ≤ MAX_DECISIONS
      → IsRecordWithin most (with_decision number participants kept)
  within_decision number participants few room = record {
    nodes = within.nodes;
    decided = room;
    decisions = decided_few number participants few;
    permanent = last_within kept.tentative within.tentative;
    tentative = λ t is. absurd (cc);
  }

  pub within_confirmed : (number node : ℕ) → IsRecordWithin most (with_confirmed number node kept)
  within_confirmed number node =
      record {
        nodes = within.nodes;
        decided =
            (let less = confirmed_no_more number node kept.decisions in let before = within.decided in
            omega (arith, less, before));
        decisions =
            name_few (confirmed number node kept.decisions)
            (confirmed_few number node kept.decisions (all_few kept.decisions within.decisions));
        permanent =
            within.permanent;
        tentative = within.tentative;
      }

  pub within_epoch : IsRecordWithin most (with_epoch kept)
  within_epoch =
      record {
        nodes = within.nodes;
        decided = within.decided;
        decisions = within.decisions;
        permanent = within.permanent;
        tentative =
            own_within kept.node kept.tentative within.tentative;
      }
