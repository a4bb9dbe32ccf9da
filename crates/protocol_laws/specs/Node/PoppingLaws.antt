-- Laws of what comes out of an inbox's window: it fits, and comes next of the channel's history.
use Rattle.std.proofs.Common.{◌≡◌, ℕ, zero, suc, ◌+◌, ◌-◌, ◌≤◌, ℤ, List, [], ◌∷◌, ◌++◌, length, take, drop}
use Rattle.std.proofs.Common.{sym, ap, subst, ◌∙◌, append_assoc, arith}
use Rattle.std.proofs.Math.Nat.{min-le_left, min-le_right}
use Rattle.std.proofs.lemmas.List.{length-append, length-drop, drop-drop, take-append-drop}
use Rattle.protocol.specs.Node.Common.{history_of, IsPrefix, MAX_COUNT, log_end, ImageView, popped_times, ready_items}
use Rattle.protocol.specs.Node.Common.{InboxIsSound, InboxStands}
use Rattle.kahn_net.specs.Laws.Prefixes.{prefix_of, prefix_trans, prefix_length, followed}
use Rattle.window_link.specs.Laws.Holding.{holds_popped_times}
use Rattle.window_link.specs.Laws.Popping.{HasPopped, has_popped, ready_of}
use Rattle.protocol.specs.Node.Popping.{places_left, items_out, popping}
use Rattle.protocol.specs.declared.links.Inbox.{Inbox}
use Rattle.protocol.specs.declared.limits.TheConstants.{MAX_INBOX_ITEMS}

taken_few : (n : ℕ) (xs : List ℤ) → (length (take n xs) ≤ n) × (length (take n xs) ≤ length xs)
taken_few zero xs = (omega arith, omega arith)
taken_few (suc n) [] = (omega arith, omega arith)
taken_few (suc n) (x ∷ xs) = (let few = taken_few n xs in (omega (arith, few.0), omega (arith, few.1)))

-- how many come out: no more than there are places, and than lie ready
pub record OutFits (inbox : Inbox) : Type 0 where
  pub few : length inbox.log.items + length (items_out inbox.log inbox.window.held) ≤ MAX_INBOX_ITEMS
  pub last : log_end inbox.log + length (items_out inbox.log inbox.window.held) ≤ MAX_COUNT
  pub ready : length (items_out inbox.log inbox.window.held) ≤ length (ready_items inbox.window.held)

pub out_fits : (inbox : Inbox) → length inbox.log.items ≤ MAX_INBOX_ITEMS → log_end inbox.log ≤ MAX_COUNT
    → OutFits inbox
out_fits inbox few last =
    let out = taken_few (places_left inbox.log) (ready_items inbox.window.held) in
    let by_count = min-le_left (MAX_INBOX_ITEMS - length inbox.log.items) (MAX_COUNT - log_end inbox.log) in
    let by_end = min-le_right (MAX_INBOX_ITEMS - length inbox.log.items) (MAX_COUNT - log_end inbox.log) in
    record {
      few = omega (arith, few, out.0, by_count);
      last = omega (arith, last, out.0, by_end);
      ready = out.1;
    }

-- where the window stands then
window_out : (inbox : Inbox) → inbox.window.next ≡ log_end inbox.log → length inbox.log.items ≤ MAX_INBOX_ITEMS
    → log_end inbox.log ≤ MAX_COUNT
    → HasPopped (length (items_out inbox.log inbox.window.held)) inbox.window
    (popped_times (length (items_out inbox.log inbox.window.held)) inbox.window)
window_out inbox next few last =
    let fits = out_fits inbox few last in
    let end = fits.last in
    has_popped (length (items_out inbox.log inbox.window.held)) inbox.window fits.ready (omega (arith, end, next))

-- an inbox stays sound
pub popping_sound : (image : ImageView) (inbox : Inbox) → InboxIsSound image inbox
    → InboxIsSound image (popping inbox)
popping_sound image inbox sound =
    let fits = out_fits inbox sound.count sound.last in
    let window = window_out inbox sound.next sound.count sound.last in
    let sum = length-append inbox.log.items (items_out inbox.log inbox.window.held) in
    let few = fits.few in
    let end = fits.last in
    let next = window.next in
    let before = sound.next in
    let epoch = window.epoch in
    let epoch_before = sound.epoch in
    record {
      begins = sound.begins;
      next = omega (arith, next, before, sum);
      count = omega (arith, few, sum);
      last = omega (arith, end, sum);
      epoch = omega (arith, epoch, epoch_before);
    }

-- one beginning behind another is a beginning
joined : (front more whole : List ℤ) → IsPrefix front whole → IsPrefix more (drop (length front) whole)
    → IsPrefix (front ++ more) whole
joined front more whole first second =
    let rest = followed more (drop (length front) whole) second in
    let all : whole ≡ front ++ drop (length front) whole =
    sym (take-append-drop (length front) whole)
    ∙ ap (λ (xs : List ℤ). xs ++ drop (length front) whole) (sym first) in
    prefix_of
    (record {
      rest = rest.rest;
      is = all ∙ (ap (λ (xs : List ℤ). front ++ xs) rest.is ∙ sym (append_assoc front more rest.rest));
    })

-- what it holds still comes next of the channel's history
pub popping_stands : (histories : List (List ℤ)) (inbox : Inbox) → inbox.window.next ≡ log_end inbox.log
    → InboxStands histories inbox → InboxStands histories (popping inbox)
popping_stands histories inbox next stands =
    let whole : List ℤ = history_of histories inbox.channel in
    let out : List ℤ = items_out inbox.log inbox.window.held in
    let ready : IsPrefix (ready_items inbox.window.held) (drop inbox.window.next whole) =
    ready_of whole inbox.window stands.held in
    let front : IsPrefix out (ready_items inbox.window.held) =
    prefix_of
    (record {
      rest = drop (places_left inbox.log) (ready_items inbox.window.held);
      is = sym (take-append-drop (places_left inbox.log) (ready_items inbox.window.held));
    }) in
    let there : IsPrefix out (drop inbox.window.next whole) =
    prefix_trans out (ready_items inbox.window.held) (drop inbox.window.next whole) front ready in
    let behind : drop inbox.window.next whole ≡ drop (length inbox.log.items) (drop inbox.log.base whole) =
    ap (λ (k : ℕ). drop k whole) next ∙ sym (drop-drop (length inbox.log.items) inbox.log.base whole) in
    let few = prefix_length out (drop inbox.window.next whole) there in
    let left = length-drop inbox.window.next whole in
    let sum = length-append inbox.log.items out in
    let within = stands.within in
    record {
      within = omega (arith, few, left, sum, within, next);
      items = joined inbox.log.items out (drop inbox.log.base whole) stands.items (subst (IsPrefix out) behind there);
      held = holds_popped_times whole (length out) inbox.window stands.held;
    }
