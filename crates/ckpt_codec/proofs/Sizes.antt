-- The lengths of spellings.
use Rattle.std.proofs.Common.{◌≡◌, ℕ, ◌+◌, ◌*◌, ◌≤◌, ℤ, List, [], ◌∷◌, ◌++◌, length, Option, Some, None, refl, sym, ap}
use Rattle.std.proofs.Common.{◌∙◌, length-append, arith}
use Rattle.std.specs.Prelude.{sum_by}
use Rattle.std.specs.List.{flat_map}
use Rattle.std.proofs.lemmas.List.Concat.{flat_map-cons}
use Rattle.std.proofs.lemmas.List.Sums.{sum_by-cons}
use Rattle.byteorder.specs.Numbers.{length-bytes_high_first}
use Rattle.record.specs.Common.{Standing, NotBegun, At, Done, LogState, DecisionView, SavedProcessView, ImageView}
use Rattle.record.specs.Common.{RecordView, with_permanent, with_decision, with_epoch}
use Rattle.record.specs.declared.image.SavedEnd.{SavedEnd}
use Rattle.record.specs.declared.image.End.{End}
use Rattle.record.specs.declared.image.End.TheVariants.{Receives, Sends, Both}
use Rattle.record.specs.declared.record.Tentative.{Tentative}
use Rattle.ckpt_codec.specs.Fields.{number_text}
use Rattle.ckpt_codec.specs.RecordText.{variables_of, role_of, record_text}
use Rattle.ckpt_codec.specs.Spelling.{passes_text, item_text, items_text, mode_text, state_text, process_text, log_text, end_text}
use Rattle.ckpt_codec.specs.Spelling.{saved_end_text, process_list_text, end_list_text, image_text, participants_text}
use Rattle.ckpt_codec.specs.Spelling.{decision_text, decisions_text, tentative_text, highest_text, head_text}
use Rattle.ckpt_codec.specs.declared.version.TheConstants.{VERSION}
use Rattle.ckpt_codec.specs.Lengths.{mode_length, process_length, end_length, saved_end_length, image_length}
use Rattle.ckpt_codec.specs.Lengths.{decision_length, decisions_length, tentative_length, record_length, undecided_length}
use Rattle.ckpt_codec.specs.Lengths.{with_decided, spelled_length}
use Rattle.ckpt_codec.specs.SizeLaws.{permanent_is_shorter, decision_is_shorter, epoch_is_shorter}
use Rattle.ckpt_codec.proofs.Spelled.{record-spelled}

pub length-number : (width n : ℕ) → length (number_text width n) ≡ width
unfolding number_text
length-number width n = length-bytes_high_first width n

pub length-two : (xs ys : List ℕ) (m n : ℕ) → length xs ≡ m → length ys ≡ n → length (xs ++ ys) ≡ m + n
length-two xs ys m n e d = omega (arith, length-append xs ys)

-- each as long as it is said to be
length-flat : {X : Type 0} (f : X → List ℕ) (size : X → ℕ) → ((x : X) → length (f x) ≡ size x) → (xs : List X)
    → length (flat_map f xs) ≡ sum_by size xs
length-flat f size is [] = refl
length-flat f size is (x ∷ xs) =
    ap (λ (t : List ℕ). length t) (flat_map-cons f x xs)
    ∙ length-two (f x) (flat_map f xs) (size x) (sum_by size xs) (is x) (length-flat f size is xs)
    ∙ sym (sum_by-cons size x xs)

-- each as long as the others
length-even : {X : Type 0} (f : X → List ℕ) (size : ℕ) → ((x : X) → length (f x) ≡ size) → (xs : List X)
    → length (flat_map f xs) ≡ size * length xs
length-even f size is [] = omega arith
length-even f size is (x ∷ xs) =
    let rest : length (flat_map f xs) ≡ size * length xs = length-even f size is xs in
    let whole : length (f x ++ flat_map f xs) ≡ size + size * length xs =
    length-two (f x) (flat_map f xs) size (size * length xs) (is x) rest in
    ap (λ (t : List ℕ). length t) (flat_map-cons f x xs) ∙ (whole ∙ omega arith)

length-items : (zs : List ℤ) → length (items_text zs) ≡ 8 * length zs
unfolding item_text
length-items zs = length-even item_text 8 (λ z. length-number 8 _) zs

length-mode : (standing : Standing) → length (mode_text standing) ≡ mode_length standing
length-mode (NotBegun vars) = length-number 1 0
length-mode (At point vars) =
    let n = length point.left in
    length-two (number_text 1 1) _ 1 (4 + (1 + 2 * n)) (length-number 1 1)
    (length-two (number_text 4 point.site) _ 4 (1 + 2 * n) (length-number 4 point.site)
    (length-two (number_text 1 n) (passes_text point.left) 1 (2 * n) (length-number 1 n)
    (length-even (number_text 2) 2 (λ k. length-number 2 k) point.left)))
    ∙ (let same : 1 + (4 + (1 + 2 * n)) ≡ 6 + 2 * n = omega arith in same)
length-mode (Done vars) = length-number 1 2

length-process : (p : SavedProcessView) → length (process_text p) ≡ process_length p
length-process p =
    let vars = variables_of p.standing in
    let items : length (items_text vars) ≡ 8 * length vars = length-items vars in
    let mode : length (mode_text p.standing) ≡ mode_length p.standing = length-mode p.standing in
    let counted : length (number_text 1 (length vars) ++ items_text vars) ≡ 1 + 8 * length vars =
    length-two (number_text 1 (length vars)) (items_text vars) 1 (8 * length vars) (length-number 1 (length vars))
    items in
    let state : length (state_text p.standing) ≡ mode_length p.standing + (1 + 8 * length vars) =
    length-two (mode_text p.standing) (number_text 1 (length vars) ++ items_text vars) (mode_length p.standing)
    (1 + 8 * length vars) mode counted in
    let whole : length (process_text p) ≡ 1 + (mode_length p.standing + (1 + 8 * length vars)) =
    length-two (number_text 1 p.number) (state_text p.standing) 1 (mode_length p.standing + (1 + 8 * length vars))
    (length-number 1 p.number) state in
    whole ∙ regroup (mode_length p.standing) (8 * length vars)
  where
    regroup : (m v : ℕ) → 1 + (m + (1 + v)) ≡ 2 + m + v
    regroup m v = omega arith

length-log : (log : LogState) → length (log_text log) ≡ 12 + 8 * length log.items
length-log log =
    let counted : length (number_text 4 (length log.items) ++ items_text log.items) ≡ 4 + 8 * length log.items =
    length-two (number_text 4 (length log.items)) (items_text log.items) 4 (8 * length log.items)
    (length-number 4 (length log.items)) (length-items log.items) in
    let whole : length (log_text log) ≡ 8 + (4 + 8 * length log.items) =
    length-two (number_text 8 log.base) (number_text 4 (length log.items) ++ items_text log.items) 8
    (4 + 8 * length log.items) (length-number 8 log.base) counted in
    whole ∙ regroup (8 * length log.items)
  where
    regroup : (v : ℕ) → 8 + (4 + v) ≡ 12 + v
    regroup v = omega arith

length-end : (e : End) → length (end_text e) ≡ end_length e
length-end (Receives received) = length-number 8 received
length-end (Sends log) = length-log log
length-end (Both received log) =
    length-two (number_text 8 received) (log_text log) 8 (12 + 8 * length log.items) (length-number 8 received)
    (length-log log) ∙ regroup (8 * length log.items)
  where
    regroup : (v : ℕ) → 8 + (12 + v) ≡ 20 + v
    regroup v = omega arith

length-saved : (e : SavedEnd) → length (saved_end_text e) ≡ saved_end_length e
length-saved e =
    length-two (number_text 2 e.channel) (number_text 1 (role_of e.end) ++ end_text e.end) 2 (1 + end_length e.end)
    (length-number 2 e.channel)
    (length-two (number_text 1 (role_of e.end)) (end_text e.end) 1 (end_length e.end) (length-number 1 (role_of e.end))
    (length-end e.end))
    ∙ regroup (end_length e.end)
  where
    regroup : (v : ℕ) → 2 + (1 + v) ≡ 3 + v
    regroup v = omega arith

pub length-image : (i : ImageView) → length (image_text i) ≡ image_length i
length-image i =
    let p = sum_by process_length i.processes in
    let e = sum_by saved_end_length i.ends in
    length-two (process_list_text i.processes) (end_list_text i.ends) (1 + p) (2 + e)
    (length-two (number_text 1 (length i.processes)) (flat_map process_text i.processes) 1 p
    (length-number 1 (length i.processes)) (length-flat process_text process_length length-process i.processes))
    (length-two (number_text 2 (length i.ends)) (flat_map saved_end_text i.ends) 2 e (length-number 2 (length i.ends))
    (length-flat saved_end_text saved_end_length length-saved i.ends))
    ∙ regroup p e
  where
    regroup : (p e : ℕ) → (1 + p) + (2 + e) ≡ 3 + p + e
    regroup p e = omega arith

length-decision : (d : DecisionView) → length (decision_text d) ≡ decision_length d
length-decision d =
    let ps = length d.participants in
    let nodes : length (participants_text d.participants) ≡ 1 * ps =
    length-even (number_text 1) 1 (λ p. length-number 1 p) d.participants in
    length-two (number_text 8 d.number) (number_text 1 ps ++ participants_text d.participants) 8 (1 + 1 * ps)
    (length-number 8 d.number)
    (length-two (number_text 1 ps) (participants_text d.participants) 1 (1 * ps) (length-number 1 ps) nodes)
    ∙ regroup ps
  where
    regroup : (v : ℕ) → 8 + (1 + 1 * v) ≡ 9 + v
    regroup v = omega arith

pub length-decisions : (ds : List DecisionView) → length (decisions_text ds) ≡ decisions_length ds
length-decisions ds =
    length-two (number_text 1 (length ds)) (flat_map decision_text ds) 1 (sum_by decision_length ds)
    (length-number 1 (length ds)) (length-flat decision_text decision_length length-decision ds)

length-tentative : (t : Option Tentative) → length (tentative_text t) ≡ tentative_length t
length-tentative None = length-number 1 0
length-tentative (Some t) =
    length-two (number_text 1 1) (number_text 1 t.initiator ++ (number_text 8 t.number ++ image_text t.image)) 1
    (1 + (8 + image_length t.image)) (length-number 1 1)
    (length-two (number_text 1 t.initiator) (number_text 8 t.number ++ image_text t.image) 1 (8 + image_length t.image)
    (length-number 1 t.initiator)
    (length-two (number_text 8 t.number) (image_text t.image) 8 (image_length t.image) (length-number 8 t.number)
    (length-image t.image)))
    ∙ regroup (image_length t.image)
  where
    regroup : (v : ℕ) → 1 + (1 + (8 + v)) ≡ 10 + v
    regroup v = omega arith

pub length-head : (version : ℕ) (kept : RecordView) → length (head_text version kept) ≡ 11 + 8 * length kept.highest
length-head version kept =
    let n = length kept.highest in
    let entries : length (highest_text kept.highest) ≡ 8 * n =
    length-even (number_text 8) 8 (λ h. length-number 8 h) kept.highest in
    length-two (number_text 1 version)
    (number_text 1 kept.node ++ (number_text 8 kept.epoch ++ (number_text 1 n ++ highest_text kept.highest))) 1
    (1 + (8 + (1 + 8 * n))) (length-number 1 version)
    (length-two (number_text 1 kept.node) (number_text 8 kept.epoch ++ (number_text 1 n ++ highest_text kept.highest))
    1 (8 + (1 + 8 * n)) (length-number 1 kept.node)
    (length-two (number_text 8 kept.epoch) (number_text 1 n ++ highest_text kept.highest) 8 (1 + 8 * n)
    (length-number 8 kept.epoch)
    (length-two (number_text 1 n) (highest_text kept.highest) 1 (8 * n) (length-number 1 n) entries)))
    ∙ regroup (8 * n)
  where
    regroup : (v : ℕ) → 1 + (1 + (8 + (1 + v))) ≡ 11 + v
    regroup v = omega arith

-- as long in each version
pub length-record : (version : ℕ) (kept : RecordView) → length (record_text version kept) ≡ record_length kept
length-record version kept =
    let h = 11 + 8 * length kept.highest in
    let d = decisions_length kept.decisions in
    let p = image_length kept.permanent in
    let t = tentative_length kept.tentative in
    ap (λ (b : List ℕ). length b) (record-spelled version kept)
    ∙ (length-two (head_text version kept)
    (decisions_text kept.decisions ++ (image_text kept.permanent ++ tentative_text kept.tentative)) h (d + (p + t))
    (length-head version kept)
    (length-two (decisions_text kept.decisions) (image_text kept.permanent ++ tentative_text kept.tentative) d (p + t)
    (length-decisions kept.decisions)
    (length-two (image_text kept.permanent) (tentative_text kept.tentative) p t (length-image kept.permanent)
    (length-tentative kept.tentative)))
    ∙ regroup h d p t)
  where
    regroup : (h d p t : ℕ) → h + (d + (p + t)) ≡ h + p + t + d
    regroup h d p t = omega arith

pub length-spelled : (kept : RecordView) (n : ℕ) → n ≡ record_length kept → n ≡ spelled_length kept
unfolding spelled_length
length-spelled kept n is = is ∙ sym (length-record VERSION kept)

-- a move that lets an image go, or none, makes the spelling no longer
no_longer : (kept next : RecordView) → record_length next ≤ record_length kept
    → spelled_length next ≤ spelled_length kept
unfolding spelled_length
no_longer kept next shorter =
    let before = length-record VERSION kept in
    let after = length-record VERSION next in
    omega (arith, before, after, shorter)

pub permanent_is_no_longer : (kept : RecordView) → spelled_length (with_permanent kept) ≤ spelled_length kept
permanent_is_no_longer kept = no_longer kept (with_permanent kept) (permanent_is_shorter kept)

pub decision_is_no_longer : (number : ℕ) (kept : RecordView)
    → spelled_length (with_decision number [] kept) ≤ spelled_length kept
decision_is_no_longer number kept = no_longer kept (with_decision number [] kept) (decision_is_shorter number kept)

pub epoch_is_no_longer : (kept : RecordView) → spelled_length (with_epoch kept) ≤ spelled_length kept
epoch_is_no_longer kept = no_longer kept (with_epoch kept) (epoch_is_shorter kept)

-- the same with decisions of so many bytes
pub length-with : (kept : RecordView) (decided n : ℕ) → n ≡ undecided_length kept + decided
    → (decisions : List DecisionView) → decisions_length decisions ≡ decided
    → n ≡ spelled_length (with_decided decisions kept)
length-with kept decided n is decisions long =
    length-spelled (with_decided decisions kept) n (is ∙ ap (λ m. undecided_length kept + m) (sym long))
