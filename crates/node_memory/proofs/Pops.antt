-- What comes out of a window, item by item and all at once.
use Rattle.std.proofs.Common.{◌≡◌, ℕ, zero, suc, ◌+◌, ◌-◌, ◌<◌, Bool, true, false, ◌&&◌, cond, ℤ, List, [], ◌∷◌}
use Rattle.std.proofs.Common.{◌++◌, length, take, drop, map, get_or, Option, Some, None, option_map, refl, sym, ap, ◌∙◌, append-nil}
use Rattle.std.proofs.Common.{append_assoc, arith}
use Rattle.std.specs.Prelude.{slice_get, slice_set, nat_lt, MatchOption}
use Rattle.std.proofs.lemmas.Bool.{ltb-true}
use Rattle.std.proofs.lemmas.List.{length-append}
use Rattle.std.proofs.lemmas.Option.{slice_get_read}
use Rattle.protocol.specs.Node.Common.{MAX_COUNT, Channel, LogState, log_end, log_with, trimmed_log, popped_times}
use Rattle.protocol.specs.Node.Common.{ready_items, taking, taken_from, inbox_turned}
use Rattle.window_link.specs.Windows.{Receiver, advanced, arrival_at, window_after, received, held_in, held_at}
use Rattle.window_link.specs.Laws.Popping.{ready_padded}
use Rattle.window_link.specs.declared.receiving.Arrival.{Arrival}
use Rattle.window_link.specs.declared.receiving.Arrival.TheVariants.{Taken}
use Rattle.protocol.specs.Node.Popping.{has_place, places_left, items_out, popping}
use Rattle.protocol.specs.Node.Delivering.{with_arrival, after_arrival, put_at, changed_at}
use Rattle.protocol.specs.Node.Installing.{inbox_taken}
use Rattle.protocol.specs.declared.links.Inbox.{Inbox}
use Rattle.protocol.specs.declared.limits.TheConstants.{MAX_INBOX_ITEMS}

the_same : (x y : ℤ) → (let one : Option ℤ = Some x in let other : Option ℤ = Some y in one ≡ other) → x ≡ y
the_same x y e = cc

-- the item at a place is the first of what lies ready from there on
pub ready_at : (places : List (Option ℤ)) (place : ℕ) (item : ℤ) → held_in (slice_get places place) ≡ Some item
    → ready_items (drop place places) ≡ item ∷ ready_items (drop (suc place) places)
ready_at [] place item is = absurd (cc)
ready_at (None ∷ places) zero item is = absurd (cc)
ready_at (Some x ∷ places) zero item is = ap (λ (y : ℤ). y ∷ ready_items places) (the_same x item is)
ready_at (p ∷ places) (suc place) item is = ready_at places place item is

pub none_ready : (places : List (Option ℤ)) (place : ℕ) → held_in (slice_get places place) ≡ None
    → ready_items (drop place places) ≡ []
none_ready [] zero is = refl
none_ready [] (suc place) is = refl
none_ready (None ∷ places) zero is = refl
none_ready (Some x ∷ places) zero is = absurd (cc)
none_ready (p ∷ places) (suc place) is = none_ready places place is

-- one more item of those that lie ready
pub ready_next : (items whole : List ℤ) (left : ℕ) (places : List (Option ℤ)) (place : ℕ) (item : ℤ)
    → held_in (slice_get places place) ≡ Some item → 0 < left
    → items ++ take left (ready_items (drop place places)) ≡ whole
    → (items ++ item ∷ []) ++ take (left - 1) (ready_items (drop (place + 1) places)) ≡ whole
ready_next items whole zero places place item is some so_far = absurd (omega (arith, some))
ready_next items whole (suc left) places place item is some so_far =
    let first : suc left - 1 ≡ left = omega arith in
    let next : place + 1 ≡ suc place = omega arith in
    append_assoc items (item ∷ []) (take (suc left - 1) (ready_items (drop (place + 1) places)))
    ∙ (ap (λ (n : ℕ). items ++ item ∷ take n (ready_items (drop (place + 1) places))) first
    ∙ (ap (λ (n : ℕ). items ++ item ∷ take left (ready_items (drop n places))) next
    ∙ (ap (λ (xs : List ℤ). items ++ take (suc left) xs) (sym (ready_at places place item is)) ∙ so_far)))

take_none : (n : ℕ) → (let none : List ℤ = [] in take n none ≡ none)
take_none zero = refl
take_none (suc n) = refl

-- where nothing more comes, all is there
pub ready_all : (items whole : List ℤ) (left : ℕ) (ready : List ℤ) → ready ≡ [] → items ++ take left ready ≡ whole
    → items ≡ whole
ready_all items whole left ready none so_far =
    sym (append-nil items)
    ∙ (ap (λ (xs : List ℤ). items ++ xs) (sym (take_none left))
    ∙ (ap (λ (xs : List ℤ). items ++ take left xs) (sym none) ∙ so_far))

both_true : (a b : Bool) → (a && b) ≡ true → (a ≡ true) × (b ≡ true)
both_true true b is = (refl, is)
both_true false b is = absurd (cc)

pub has_places : (log : LogState) → has_place log ≡ true
    → (length log.items < MAX_INBOX_ITEMS) × (log_end log < MAX_COUNT)
has_places log has =
    let place = both_true (nat_lt (length log.items) MAX_INBOX_ITEMS) (nat_lt (log_end log) MAX_COUNT) has in (
      ltb-true (length log.items) MAX_INBOX_ITEMS place.0,
      ltb-true (log_end log) MAX_COUNT place.1,
    )

-- the item that was taken, and those that came out behind it, in one
pub taken_with : (position : ℕ) (item : ℤ) (inbox : Inbox) → has_place inbox.log ≡ true
    → arrival_at inbox.window position ≡ Taken
    → (let behind : List ℤ = take (places_left inbox.log - 1) (ready_items (drop 1 inbox.window.held)) in
    let one : Inbox = record {
      channel = inbox.channel;
      window = popped_times (length behind) ((received inbox.window position item).window);
      log = log_with (item ∷ behind) inbox.log;
      undone = inbox.undone;
    } in
    one ≡ taking position item inbox)
taken_with position item inbox has next =
    ap made is_advanced ∙ (pops ∙ sym (ap (λ (b : Bool). cond b (after_arrival (received inbox.window position item) item inbox)
    inbox) has ∙ ap (λ (a : Arrival). with_arrival a (window_after a inbox.window position item) item inbox) next))
  where
    log : LogState
    log = log_with (item ∷ []) inbox.log

    behind : List ℤ
    behind = take (places_left inbox.log - 1) (ready_items (drop 1 inbox.window.held))

    made : Receiver → Inbox
    made window =
        record {
          channel = inbox.channel;
          window = popped_times
              (length (take (places_left inbox.log - 1) (ready_items (drop 1 inbox.window.held)))) window;
          log = log_with (item ∷ take (places_left inbox.log - 1) (ready_items (drop 1 inbox.window.held))) inbox.log;
          undone = inbox.undone;
        }

    is_advanced : (received inbox.window position item).window ≡ advanced inbox.window
    is_advanced = ap (λ (a : Arrival). window_after a inbox.window position item) next

    one_fewer : places_left inbox.log - 1 ≡ places_left (log_with (item ∷ []) inbox.log)
    one_fewer =
        (let sum = length-append inbox.log.items (item ∷ []) in let few = has_places inbox.log has in
        omega (arith, sum, few.0, few.1))

    same_out : take (places_left inbox.log - 1) (ready_items (drop 1 inbox.window.held))
        ≡ items_out (log_with (item ∷ []) inbox.log) (advanced inbox.window).held
    same_out =
        ap (λ (n : ℕ). take n (ready_items (drop 1 inbox.window.held))) one_fewer
        ∙ ap (take (places_left (log_with (item ∷ []) inbox.log))) (sym (ready_padded (drop 1 inbox.window.held)))

    with_out : List ℤ → Inbox
    with_out out =
        record {
          channel = inbox.channel;
          window = popped_times (length out) (advanced inbox.window);
          log = log_with (item ∷ out) inbox.log;
          undone = inbox.undone;
        }

    both_logs : (out : List ℤ)
        → (let one : Inbox = record {
          channel = inbox.channel;
          window = popped_times (length out) (advanced inbox.window);
          log = log_with (item ∷ out) inbox.log;
          undone = inbox.undone;
        } in
        let other : Inbox = record {
          channel = inbox.channel;
          window = popped_times (length out) (advanced inbox.window);
          log = log_with out (log_with (item ∷ []) inbox.log);
          undone = inbox.undone;
        } in
        one ≡ other)
    both_logs out =
        ap (λ (xs : List ℤ). with_items out xs) (sym (append_assoc inbox.log.items (item ∷ []) out))
      where
        with_items : List ℤ → List ℤ → Inbox
        with_items out xs =
            record {
              channel = inbox.channel;
              window = popped_times (length out) (advanced inbox.window);
              log = record { base = inbox.log.base; items = xs };
              undone = inbox.undone;
            }

    pops : made (advanced inbox.window)
        ≡ popping (record { channel = inbox.channel; window = advanced inbox.window; log = log_with (item ∷ []) inbox.log; undone = inbox.undone })
    pops =
        ap with_out same_out
        ∙ both_logs (items_out (log_with (item ∷ []) inbox.log) (advanced inbox.window).held)

-- the same of what the calls left
pub taken_is : (position : ℕ) (item : ℤ) (inbox : Inbox) (items : List ℤ) (places times : ℕ) (log : LogState)
    (window : Receiver)
    → has_place inbox.log ≡ true → arrival_at inbox.window position ≡ Taken → places ≡ places_left inbox.log - 1
    → items ≡ item ∷ take places (ready_items (drop 1 inbox.window.held)) → times ≡ length items - 1
    → log ≡ log_with items inbox.log → window ≡ popped_times times ((received inbox.window position item).window)
    → (let one : Inbox = record { channel = inbox.channel; window = window; log = log; undone = inbox.undone } in
    one ≡ taking position item inbox)
taken_is position item inbox items places times log window has next few is count logged popped =
    let behind : List ℤ = take (places_left inbox.log - 1) (ready_items (drop 1 inbox.window.held)) in
    let all : items ≡ item ∷ behind =
    is ∙ ap (λ (n : ℕ). item ∷ take n (ready_items (drop 1 inbox.window.held))) few in
    let many : times ≡ length behind =
    (let sum = ap (length {A = ℤ}) all in omega (arith, count, sum)) in
    let log_is : log ≡ log_with (item ∷ behind) inbox.log =
    logged ∙ ap (λ (xs : List ℤ). log_with xs inbox.log) all in
    let window_is : window ≡ popped_times (length behind) ((received inbox.window position item).window) =
    popped ∙ ap (λ (n : ℕ). popped_times n ((received inbox.window position item).window)) many in
    ap (λ (w : Receiver). with_both w log) window_is
    ∙ (ap (with_both (popped_times (length behind) ((received inbox.window position item).window))) log_is
    ∙ taken_with position item inbox has next)
  where
    with_both : Receiver → LogState → Inbox
    with_both window log = record { channel = inbox.channel; window = window; log = log; undone = inbox.undone }

-- nothing comes out behind an item that is taken where the one right behind it isn't held
pub nothing_behind : (inbox : Inbox) (places : ℕ) → held_at inbox.window 1 ≡ None
    → take places (ready_items (drop 1 inbox.window.held)) ≡ []
nothing_behind inbox places none = ap (take places) (none_ready inbox.window.held 1 none) ∙ take_none places

-- nothing comes out where the next item isn't held
pub popping_none : (inbox : Inbox) → held_at inbox.window 0 ≡ None → popping inbox ≡ inbox
popping_none inbox none =
    let out : items_out inbox.log inbox.window.held ≡ [] =
    ap (take (places_left inbox.log)) (none_ready inbox.window.held 0 none) ∙ take_none (places_left inbox.log) in
    ap (λ (xs : List ℤ). with_out xs) out
    ∙ ap (λ (xs : List ℤ). with_items xs) (append-nil inbox.log.items)
  where
    with_out : List ℤ → Inbox
    with_out xs =
        record { channel = inbox.channel; window = popped_times (length xs) inbox.window; log = log_with xs inbox.log; undone = inbox.undone }

    with_items : List ℤ → Inbox
    with_items xs =
        record { channel = inbox.channel; window = inbox.window; log = record { base = inbox.log.base; items = xs }; undone = inbox.undone }

-- an element of the rest is changed once those behind it are
pub turned_here : {A : Type 0} (f : A → A) (items xs : List A) (k : ℕ) (x y : A)
    → slice_get xs k ≡ Some x → items ≡ take (k + 1) xs ++ map f (drop (k + 1) xs) → y ≡ f x
    → slice_set items k y ≡ take k xs ++ map f (drop k xs)
turned_here {A} f items xs k x y here is changed =
    let next : k + 1 ≡ suc k = omega arith in
    ap (λ (ys : List A). slice_set ys k y) (is ∙ ap (λ (n : ℕ). take n xs ++ map f (drop n xs)) next)
    ∙ (ap (slice_set (take (suc k) xs ++ map f (drop (suc k) xs)) k) changed ∙ at xs k here)
  where
    at : (xs : List A) (k : ℕ) → slice_get xs k ≡ Some x
        → slice_set (take (suc k) xs ++ map f (drop (suc k) xs)) k (f x) ≡ take k xs ++ map f (drop k xs)
    at [] k here = absurd (cc)
    at (z ∷ xs) zero here = (let same : x ≡ z = cc in ap (λ (w : A). f w ∷ map f xs) same)
    at (z ∷ xs) (suc k) here = ap (λ (ys : List A). z ∷ ys) (at xs k here)

-- an inbox without what was taken, and with nothing that comes out
pub trimmed_is : (channels : List Channel) (process : ℕ) (taken : List ℕ) (inbox : Inbox) (log : LogState) (count : ℕ)
    → count ≡ taken_from channels process taken inbox.channel → log ≡ trimmed_log (inbox.log.base + count) inbox.log
    → (prepared : Option LogState) → prepared ≡ None
    → MatchOption prepared (held_at inbox.window 0 ≡ None)
    (λ l. l ≡ (inbox_turned channels process taken inbox).log)
    → (let one : Inbox = record { channel = inbox.channel; window = inbox.window; log = log; undone = inbox.undone } in
    one ≡ inbox_turned channels process taken inbox)
trimmed_is channels process taken inbox log count counted is None none free =
    ap with_log (is ∙ ap (λ (n : ℕ). trimmed_log (inbox.log.base + n) inbox.log) counted)
    ∙ sym (popping_none (inbox_taken channels process taken inbox) free)
  where
    with_log : LogState → Inbox
    with_log log = record { channel = inbox.channel; window = inbox.window; log = log; undone = inbox.undone }
trimmed_is channels process taken inbox log count counted is (Some other) none free = absurd (cc)

-- an element that is read from a list whose front stands as it was
pub front_read : {A : Type 0} (items xs rest : List A) (k : ℕ) (y : A) → k < length xs
    → items ≡ take (k + 1) xs ++ rest → y ≡ get_or items k y → slice_get xs k ≡ Some y
front_read {A} items xs rest k y within is here =
    let next : k + 1 ≡ suc k = omega arith in
    at xs k within
    (here ∙ ap (λ (ys : List A). get_or ys k y) (is ∙ ap (λ (n : ℕ). take n xs ++ rest) next))
  where
    at : (xs : List A) (k : ℕ) → k < length xs → y ≡ get_or (take (suc k) xs ++ rest) k y → slice_get xs k ≡ Some y
    at [] k within here = absurd (omega (arith, within))
    at (x ∷ xs) zero within here = ap Some (sym here)
    at (x ∷ xs) (suc k) within here = at xs k (omega (arith, within)) here

-- the element at the place that was found is changed
pub changed_here : {A : Type 0} (f : A → A) (xs : List A) (place : ℕ) (found : Option ℕ) (x y : A)
    → Some place ≡ found → place < length xs → x ≡ get_or xs place x → y ≡ f x
    → slice_set xs place y ≡ changed_at f xs found
changed_here {A} f xs place found x y same within here is =
    let there : slice_get xs place ≡ Some x = slice_get_read xs (length xs) place x refl within here in
    ap (slice_set xs place) is
    ∙ (sym (ap (λ (z : Option A). put_at xs place (option_map f z)) there) ∙ ap (changed_at f xs) same)
