-- Laws of shares: what keeps the logs of an image keeps their share, and logs that keep to it have no more items in all
-- than a record has room for.
use Rattle.std.proofs.Common.{◌≡◌, ℕ, zero, suc, ◌+◌, ◌*◌, ◌≤◌, Bool, cond, List, [], ◌∷◌, length, map, Some, refl, sym}
use Rattle.std.proofs.Common.{ap, subst, ◌∙◌, arith}
use Rattle.std.specs.Prelude.{◌/◌, slice_get, sum_by}
use Rattle.std.specs.List.{count_by}
use Rattle.std.proofs.Math.Nat.{div-le_self, mul-div-le}
use Rattle.std.proofs.lemmas.List.Sums.{sum_by-cons}
use Rattle.protocol.specs.Node.Common.{LogState, ImageView, log_at, log_share, SavedEnd, End, Receives, Sends, Both}
use Rattle.protocol.specs.Node.Common.{MAX_RETAINED_ITEMS}
use Rattle.protocol.specs.Node.Sharing.{has_log, log_count}
use Rattle.ckpt_codec.specs.RecordText.{items_of_end}
use Rattle.ckpt_codec.specs.SizeLaws.{items_at, items_in}

-- a share is within the whole
pub share_within : (image : ImageView) → log_share image ≤ MAX_RETAINED_ITEMS
share_within image = div-le_self MAX_RETAINED_ITEMS (log_count image)

count_kept : (f : SavedEnd → SavedEnd) (ends : List SavedEnd)
    → ((saved : SavedEnd) → has_log (f saved) ≡ has_log saved) → count_by has_log (map f ends) ≡ count_by has_log ends
count_kept f [] keeps = refl
count_kept f (saved ∷ ends) keeps =
    let now : count_by has_log (f saved ∷ map f ends) ≡ cond (has_log (f saved)) 1 0 + count_by has_log (map f ends) =
    sum_by-cons (λ (s : SavedEnd). cond (has_log s) 1 0) (f saved) (map f ends) in
    let before : count_by has_log (saved ∷ ends) ≡ cond (has_log saved) 1 0 + count_by has_log ends =
    sum_by-cons (λ (s : SavedEnd). cond (has_log s) 1 0) saved ends in
    let rest : count_by has_log (map f ends) ≡ count_by has_log ends = count_kept f ends keeps in
    let one : ◌≡◌ {A = ℕ} (cond (has_log (f saved)) 1 0) (cond (has_log saved) 1 0) =
    ap (λ (b : Bool). cond {A = ℕ} b 1 0) (keeps saved) in
    omega (arith, now, before, rest, one)

-- an image each of whose ends changed has the share of before, where each that had a log has one and no other has
pub share_kept : (image later : ImageView) (f : SavedEnd → SavedEnd)
    → ((saved : SavedEnd) → has_log (f saved) ≡ has_log saved) → later.ends ≡ map f image.ends
    → log_share later ≡ log_share image
share_kept image later f keeps is =
    ap (λ (ends : List SavedEnd). MAX_RETAINED_ITEMS / count_by has_log ends) is
    ∙ ap (λ (n : ℕ). MAX_RETAINED_ITEMS / n) (count_kept f image.ends keeps)

-- how many items an end retains: none without a log, and at most so many with one
end_items : (share : ℕ) (end : End) → ((log : LogState) → log_at (Some end) ≡ Some log → length log.items ≤ share)
    → (channel : ℕ)
    → length (items_of_end end) ≤ cond (has_log (record { channel = channel; end = end })) 1 0 * share
end_items share (Receives received) few channel = omega arith
end_items share (Sends log) few channel = let n : length log.items ≤ share = few log refl in omega (arith, n)
end_items share (Both received log) few channel = let n : length log.items ≤ share = few log refl in omega (arith, n)

pub items_share : (share : ℕ) (ends : List SavedEnd)
    → ((k : ℕ) (saved : SavedEnd) (log : LogState) → slice_get ends k ≡ Some saved
    → log_at (Some (saved.end)) ≡ Some log → length log.items ≤ share)
    → sum_by items_at ends ≤ count_by has_log ends * share
items_share share [] few = omega arith
items_share share (saved ∷ ends) few =
    let all : sum_by items_at (saved ∷ ends) ≡ length (items_of_end saved.end) + sum_by items_at ends =
    sum_by-cons items_at saved ends in
    let count : count_by has_log (saved ∷ ends) ≡ cond (has_log saved) 1 0 + count_by has_log ends =
    sum_by-cons (λ (s : SavedEnd). cond (has_log s) 1 0) saved ends in
    let one : length (items_of_end saved.end) ≤ cond (has_log saved) 1 0 * share =
    end_items share saved.end (λ log is. few zero saved log refl is) saved.channel in
    let rest : sum_by items_at ends ≤ count_by has_log ends * share =
    items_share share ends (λ k s log there is. few (suc k) s log there is) in
    at (sum_by items_at (saved ∷ ends)) (length (items_of_end saved.end)) (sum_by items_at ends)
    (count_by has_log (saved ∷ ends)) (cond (has_log saved) 1 0) (count_by has_log ends) all count one rest
  where
    at : (total first later logs one more : ℕ) → total ≡ first + later → logs ≡ one + more → first ≤ one * share
        → later ≤ more * share → total ≤ logs * share
    at total first later logs one more t l f m = subst (λ (n : ℕ). total ≤ n * share) (sym l) (omega (arith, t, f, m))

-- logs that keep to their share have no more items than a record has room for
pub items_fit : (image : ImageView)
    → ((k : ℕ) (saved : SavedEnd) (log : LogState) → slice_get image.ends k ≡ Some saved
    → log_at (Some (saved.end)) ≡ Some log → length log.items ≤ log_share image)
    → items_in image ≤ MAX_RETAINED_ITEMS
items_fit image few =
    let all : items_in image ≤ log_count image * log_share image = items_share (log_share image) image.ends few in
    let whole : log_count image * log_share image ≤ MAX_RETAINED_ITEMS =
    mul-div-le MAX_RETAINED_ITEMS (log_count image) in
    omega (arith, all, whole)
