-- What the receiver has taken is a beginning of the longest list, if no two items were appended at one position.
use Rattle.std.proofs.Common.{◌≡◌, ◌⊎◌, inl, inr, ℕ, zero, suc, ◌&&◌, nat_lt, nat_le, List, [], ◌∷◌, ◌++◌, ℤ, length, take}
use Rattle.std.proofs.Common.{drop, Option, Some, None, refl, sym, ap, subst, ◌∙◌, append_assoc, arith}
use Rattle.std.specs.Prelude.{slice_get}
use Rattle.std.specs.List.{AllByRecursion}
use Rattle.std.specs.Option.{option_to_list}
use Rattle.std.proofs.lemmas.Bool.{ltb-true, ltb-false}
use Rattle.std.proofs.lemmas.List.{length-append, take-append-drop, append-nil}
use Rattle.kahn_net.specs.Common.{IsPrefix}
use Rattle.kahn_net.specs.Laws.Prefixes.{prefix_of}
use Rattle.window_link.specs.declared.receiving.Arrival.{Arrival}
use Rattle.window_link.specs.declared.receiving.Arrival.TheVariants.{Held, Dropped}
use Rattle.window_link.specs.Windows.{Receiver, is_due, arrival_at, window_after, next_held, window_without}
use Rattle.window_link.specs.Laws.Arriving.{IsTaken, IsHeld, arrival_tells}
use Rattle.window_link.specs.Laws.Holding.{HoldsOf, holds_none, holds_longer, holds_advanced, holds_with_held}
use Rattle.window_link.specs.Laws.Holding.{popped_belongs}
use Rattle.window_link.specs.Link.{LinkPacket, Item, Acknowledgement, LinkEvent, Appended, SenderSetBack}
use Rattle.window_link.specs.Link.{ReceiverSetBack, ItemSent, AcknowledgementSent, Delivered, ItemPopped, Link, longer_of}
use Rattle.window_link.specs.Link.{handed_out, with_item_sent, with_delivered, after, run, opening, IsOneItemEach}
use Rattle.window_link.proofs.Lists.{by_cases, at_place, each_weaker, in_front, behind_front, first_of_rest}
use Rattle.window_link.proofs.Lists.{in_longer, contains_at, Contains-later}
use Rattle.window_link.proofs.Acknowledged.{AckedLink, acked_after}

abbrev IsBeginningOf : List ℤ → List ℤ → Type 0
IsBeginningOf front whole = (rest : List ℤ) × (whole ≡ front ++ rest)

-- an item that was sent stands in the longest list at its position
abbrev pub StandsIn : List ℤ → LinkPacket → Type 0
StandsIn longest (Item position item) = slice_get longest position ≡ Some item
StandsIn longest (Acknowledgement ack) = Unit {0}

-- this item was appended at this position
abbrev pub WasAppended : List (ℕ × ℤ) → ℕ → ℤ → Type 0
WasAppended appends position item = (place : ℕ) × (slice_get appends place ≡ Some (position, item))

pub record Kept (appended longest : List ℤ) (appends : List (ℕ × ℤ)) (receiver : Receiver) (taken : List ℤ)
    (sent : List LinkPacket) : Type 0 where
  pub appended_there : IsBeginningOf appended longest
  pub taken_there : IsBeginningOf taken longest
  pub held : HoldsOf longest receiver
  pub items : AllByRecursion (StandsIn longest) sent
  pub recorded : (position : ℕ) (item : ℤ) → slice_get longest position ≡ Some item
      → WasAppended appends position item

abbrev pub KeptLink : Link → Type 0
KeptLink link = Kept link.appended link.longest link.appends link.receiver link.taken link.sent

-- a front of a beginning is a beginning
shorter : (n : ℕ) (front whole : List ℤ) → IsBeginningOf front whole → IsBeginningOf (take n front) whole
shorter n front whole begins = (
  drop n front ++ begins.0,
  begins.1 ∙ ap (λ (xs : List ℤ). xs ++ begins.0) (sym (take-append-drop n front))
      ∙ append_assoc (take n front) (drop n front) begins.0,
)

-- a beginning stays one where the whole gets longer
longer : (front whole more : List ℤ) → IsBeginningOf front whole → IsBeginningOf front (whole ++ more)
longer front whole more begins =
    (begins.0 ++ more, ap (λ (xs : List ℤ). xs ++ more) begins.1 ∙ append_assoc front begins.0 more)

-- one more, of a beginning that goes on by it
one_more : (front : List ℤ) (item : ℤ) (more whole : List ℤ) → whole ≡ front ++ item ∷ more
    → IsBeginningOf (front ++ item ∷ []) whole
one_more front item more whole is = (more, is ∙ sym (append_assoc front (item ∷ []) more))

-- the item at the end of a beginning is the one behind it
goes_on_by : (front whole : List ℤ) (item : ℤ) → IsBeginningOf front whole → slice_get whole (length front) ≡ Some item
    → IsBeginningOf (front ++ item ∷ []) whole
goes_on_by front whole item begins there =
    let first =
    behind_front front begins.0 item (ap (λ (xs : List ℤ). slice_get xs (length front)) (sym begins.1) ∙ there) in
    one_more front item first.0 whole (begins.1 ∙ ap (λ (xs : List ℤ). front ++ xs) first.1)

stands_longer : (longest more : List ℤ) (packet : LinkPacket) → StandsIn longest packet
    → StandsIn (longest ++ more) packet
stands_longer longest more (Item position item) there = in_front longest more position item there
stands_longer longest more (Acknowledgement ack) there = tt

-- the list was as long as the longest: both get the item
both_grow : (appended longest : List ℤ) (appends : List (ℕ × ℤ)) (receiver : Receiver) (taken : List ℤ)
    (sent : List LinkPacket) (item : ℤ)
    → longest ≡ appended → Kept appended longest appends receiver taken sent
    → Kept (appended ++ item ∷ []) (appended ++ item ∷ []) ((length appended, item) ∷ appends) receiver taken sent
both_grow appended longest appends receiver taken sent item same kept =
    let kept : Kept appended appended appends receiver taken sent =
    subst (λ (xs : List ℤ). Kept appended xs appends receiver taken sent) same kept in
    record {
      appended_there = ([], sym (append-nil (appended ++ item ∷ [])));
      taken_there = longer taken appended (item ∷ []) kept.taken_there;
      held = holds_longer appended (appended ++ item ∷ []) receiver
          (prefix_of (record { rest = item ∷ []; is = refl })) kept.held;
      items = each_weaker _ _ (stands_longer appended (item ∷ [])) sent kept.items;
      recorded = λ position x there.
          in_longer appended item position x there
          (λ before. let was = kept.recorded position x before in (suc was.0, was.1))
          (λ place is. (zero, ap (λ (p : ℕ × ℤ). Some p) (pair_is position (length appended) x item place is)));
    }
  where
    pair_is : (p q : ℕ) (x y : ℤ) → p ≡ q → y ≡ x
        → (let one : ℕ × ℤ = (q, y) in let other : ℕ × ℤ = (p, x) in one ≡ other)
    pair_is p q x y place is = cc

-- the longest list is longer than the list: it has the item there already
one_follows : (appended longest : List ℤ) (appends : List (ℕ × ℤ)) (receiver : Receiver) (taken : List ℤ)
    (sent : List LinkPacket) (item other : ℤ) (more : List ℤ)
    → longest ≡ appended ++ other ∷ more → IsOneItemEach ((length appended, item) ∷ appends)
    → Kept appended longest appends receiver taken sent
    → Kept (appended ++ item ∷ []) longest ((length appended, item) ∷ appends) receiver taken sent
one_follows appended longest appends receiver taken sent item other more is one_each kept =
    let there : slice_get longest (length appended) ≡ Some other
    = ap (λ (xs : List ℤ). slice_get xs (length appended)) is ∙ first_of_rest appended other more in
    let was = kept.recorded (length appended) other there in
    let same : other ≡ item = one_each (length appended) other item
    (Contains-later (length appended, item) appends (length appended, other)
    (contains_at appends was.0 (length appended, other) was.1))
    (contains_at ((length appended, item) ∷ appends) zero (length appended, item) refl) in
    record {
      appended_there = one_more appended item more longest (is ∙ ap (λ (x : ℤ). appended ++ x ∷ more) same);
      taken_there = kept.taken_there;
      held = kept.held;
      items = kept.items;
      recorded = λ position x at. let before = kept.recorded position x at in (suc before.0, before.1);
    }

item_appended : (appended longest : List ℤ) (appends : List (ℕ × ℤ)) (receiver : Receiver) (taken : List ℤ)
    (sent : List LinkPacket) (item : ℤ) (rest : List ℤ)
    → longest ≡ appended ++ rest → IsOneItemEach ((length appended, item) ∷ appends)
    → Kept appended longest appends receiver taken sent
    → Kept (appended ++ item ∷ []) (longer_of longest (appended ++ item ∷ [])) ((length appended, item) ∷ appends)
    receiver taken sent
item_appended appended longest appends receiver taken sent item [] is one_each kept =
    let same : longest ≡ appended = is ∙ append-nil appended in
    by_cases (λ (xs : List ℤ). Kept (appended ++ item ∷ []) xs ((length appended, item) ∷ appends) receiver taken sent)
    (nat_lt (length longest) (length (appended ++ item ∷ []))) _ longest
    (λ grows. both_grow appended longest appends receiver taken sent item same kept)
    (λ not.
    let le = ltb-false (length longest) (length (appended ++ item ∷ [])) not in
    absurd (omega (arith, le, length-append appended (item ∷ []), ap length same)))
item_appended appended longest appends receiver taken sent item (other ∷ more) is one_each kept =
    by_cases (λ (xs : List ℤ). Kept (appended ++ item ∷ []) xs ((length appended, item) ∷ appends) receiver taken sent)
    (nat_lt (length longest) (length (appended ++ item ∷ []))) _ longest
    (λ grows.
    let lt = ltb-true (length longest) (length (appended ++ item ∷ [])) grows in
    absurd (omega (arith, lt, length-append appended (item ∷ []), length-append appended (other ∷ more), ap length is)))
    (λ not. one_follows appended longest appends receiver taken sent item other more is one_each kept)

-- an item that comes out stands behind what was taken, and one that is held stands in the longest list
item_came : (link : Link) (position : ℕ) (item : ℤ) → slice_get link.longest position ≡ Some item
    → length link.taken ≡ link.receiver.next
    → KeptLink link → KeptLink (with_delivered link (Some (Item position item)))
item_came link position item there count kept = at (arrival_tells link.receiver position)
  where
    stays : (answer : Arrival) → handed_out answer item ≡ []
        → HoldsOf link.longest (window_after answer link.receiver position item)
        → Kept link.appended link.longest link.appends (window_after answer link.receiver position item)
        (link.taken ++ handed_out answer item) link.sent
    stays answer none holds = record {
      appended_there = kept.appended_there;
      taken_there = subst (λ (xs : List ℤ). IsBeginningOf xs link.longest)
          (sym (ap (λ (xs : List ℤ). link.taken ++ xs) none ∙ append-nil link.taken)) kept.taken_there;
      held = holds;
      items = kept.items;
      recorded = kept.recorded;
    }

    at : IsTaken link.receiver position
        ⊎ (IsHeld link.receiver position ⊎ (arrival_at link.receiver position ≡ Dropped))
        → Kept link.appended link.longest link.appends
        (window_after (arrival_at link.receiver position) link.receiver position item)
        (link.taken ++ handed_out (arrival_at link.receiver position) item) link.sent
    at (inl next) =
        let at_end : slice_get link.longest (length link.taken) ≡ Some item
        = ap (slice_get link.longest) (count ∙ sym next.next) ∙ there in
        subst (λ (answer : Arrival). Kept link.appended link.longest link.appends
        (window_after answer link.receiver position item) (link.taken ++ handed_out answer item) link.sent)
        (sym next.is)
        (record {
          appended_there = kept.appended_there;
          taken_there = goes_on_by link.taken link.longest item kept.taken_there at_end;
          held = holds_advanced link.longest link.receiver kept.held;
          items = kept.items;
          recorded = kept.recorded;
        })
    at (inr (inl later)) =
        let low = later.later in
        subst (λ (answer : Arrival). Kept link.appended link.longest link.appends
        (window_after answer link.receiver position item) (link.taken ++ handed_out answer item) link.sent)
        (sym later.is)
        (stays Held refl
        (holds_with_held link.longest link.receiver position item (omega (arith, low)) there kept.held))
    at (inr (inr dropped)) =
        subst (λ (answer : Arrival). Kept link.appended link.longest link.appends
        (window_after answer link.receiver position item) (link.taken ++ handed_out answer item) link.sent)
        (sym dropped) (stays Dropped refl kept.held)

-- so does one that a pop gives
item_popped : (link : Link) (item : Option ℤ) → next_held link.receiver ≡ item → length link.taken ≡ link.receiver.next
    → KeptLink link
    → Kept link.appended link.longest link.appends (window_without item link.receiver)
    (link.taken ++ option_to_list item) link.sent
item_popped link None is count kept = record {
  appended_there = kept.appended_there;
  taken_there =
      subst (λ (xs : List ℤ). IsBeginningOf xs link.longest) (sym (append-nil link.taken)) kept.taken_there;
  held = kept.held;
  items = kept.items;
  recorded = kept.recorded;
}
item_popped link (Some item) is count kept = record {
  appended_there = kept.appended_there;
  taken_there = goes_on_by link.taken link.longest item kept.taken_there
      (ap (slice_get link.longest) count ∙ popped_belongs link.longest link.receiver item is kept.held);
  held = holds_advanced link.longest link.receiver kept.held;
  items = kept.items;
  recorded = kept.recorded;
}

came : (link : Link) (place : ℕ) (packet : Option LinkPacket) → slice_get link.sent place ≡ packet → AckedLink link
    → KeptLink link → KeptLink (with_delivered link packet)
came link place None e acked kept = kept
came link place (Some (Item position item)) e acked kept =
    item_came link position item (at_place (StandsIn link.longest) link.sent kept.items place (Item position item) e)
    acked.count kept
came link place (Some (Acknowledgement ack)) e acked kept = kept

item_sent : (link : Link) (position : ℕ) (item : Option ℤ) → slice_get link.appended position ≡ item → KeptLink link
    → KeptLink (with_item_sent link position item)
item_sent link position None e kept = kept
item_sent link position (Some item) e kept =
    let there : slice_get link.longest position ≡ Some item
    = ap (λ (xs : List ℤ). slice_get xs position) kept.appended_there.1
    ∙ in_front link.appended kept.appended_there.0 position item e in
    record {
      appended_there = kept.appended_there;
      taken_there = kept.taken_there;
      held = kept.held;
      items =
          (there, kept.items);
      recorded = kept.recorded;
    }

kept_after : (link : Link) (event : LinkEvent) → AckedLink link → IsOneItemEach (after link event).appends
    → KeptLink link → KeptLink (after link event)
kept_after link (Appended item) acked one_each kept =
    item_appended link.appended link.longest link.appends link.receiver link.taken link.sent item kept.appended_there.0
    kept.appended_there.1 one_each kept
kept_after link (SenderSetBack count) acked one_each kept =
    record {
      appended_there = shorter count link.appended link.longest kept.appended_there;
      taken_there =
          kept.taken_there;
      held = kept.held;
      items = kept.items;
      recorded = kept.recorded;
    }
kept_after link (ReceiverSetBack next epoch) acked one_each kept =
    by_cases KeptLink (nat_lt link.receiver.epoch epoch && nat_le next link.receiver.next) _ link
    (λ can. record {
      appended_there = kept.appended_there;
      taken_there =
          shorter next link.taken link.longest kept.taken_there;
      held = holds_none link.longest epoch next (length link.receiver.held);
      items = kept.items;
      recorded = kept.recorded;
    })
    (λ cannot. kept)
kept_after link (ItemSent base position) acked one_each kept =
    by_cases KeptLink (is_due link.sender base (length link.appended) position) _ link
    (λ due. item_sent link position (slice_get link.appended position) refl kept)
    (λ not_due. kept)
kept_after link AcknowledgementSent acked one_each kept =
    record {
      appended_there = kept.appended_there;
      taken_there = kept.taken_there;
      held = kept.held;
      items = (tt, kept.items);
      recorded =
          kept.recorded;
    }
kept_after link (Delivered place) acked one_each kept = came link place (slice_get link.sent place) refl acked kept
kept_after link ItemPopped acked one_each kept =
    item_popped link (next_held link.receiver) refl acked.count kept

-- what was one item each later was so before
delivered_before : (link : Link) (packet : Option LinkPacket) → IsOneItemEach (with_delivered link packet).appends
    → IsOneItemEach link.appends
delivered_before link None one_each = one_each
delivered_before link (Some (Item position item)) one_each = one_each
delivered_before link (Some (Acknowledgement ack)) one_each = one_each

sent_before : (link : Link) (position : ℕ) (item : Option ℤ)
    → IsOneItemEach (with_item_sent link position item).appends → IsOneItemEach link.appends
sent_before link position None one_each = one_each
sent_before link position (Some item) one_each = one_each

one_each_before : (link : Link) (event : LinkEvent) → IsOneItemEach (after link event).appends
    → IsOneItemEach link.appends
one_each_before link (Appended item) one_each =
    λ position one other there here. one_each position one other
    (Contains-later (length link.appended, item) link.appends (position, one) there)
    (Contains-later (length link.appended, item) link.appends (position, other) here)
one_each_before link (SenderSetBack count) one_each = one_each
one_each_before link (ReceiverSetBack next epoch) one_each =
    by_cases (λ (l : Link). IsOneItemEach l.appends → IsOneItemEach link.appends)
    (nat_lt link.receiver.epoch epoch && nat_le next link.receiver.next) _ link
    (λ can given. given) (λ cannot given. given) one_each
one_each_before link (ItemSent base position) one_each =
    by_cases (λ (l : Link). IsOneItemEach l.appends → IsOneItemEach link.appends)
    (is_due link.sender base (length link.appended) position) _ link
    (λ due given. sent_before link position (slice_get link.appended position) given) (λ not_due given. given) one_each
one_each_before link AcknowledgementSent one_each = one_each
one_each_before link (Delivered place) one_each = delivered_before link (slice_get link.sent place) one_each
one_each_before link ItemPopped one_each = one_each

kept_over : (events : List LinkEvent) (link : Link) → AckedLink link → (IsOneItemEach link.appends → KeptLink link)
    → IsOneItemEach (run events link).appends → KeptLink (run events link)
kept_over [] link acked kept one_each = kept one_each
kept_over (event ∷ events) link acked kept one_each =
    kept_over events (after link event) (acked_after link event acked)
    (λ now. kept_after link event acked now (kept (one_each_before link event now))) one_each

pub taken_is_beginning : (events : List LinkEvent) (size : ℕ) → AckedLink (opening size)
    → IsOneItemEach (run events (opening size)).appends
    → (let link : Link = run events (opening size) in IsPrefix link.taken link.longest)
taken_is_beginning events size acked one_each =
    let kept = (kept_over events (opening size) acked
    (λ none. record {
      appended_there = ([], refl);
      taken_there = ([], refl);
      held = holds_none [] 0 0 size;
      items = tt;
      recorded =
          λ position item there. absurd cc;
    })
    one_each).taken_there in
    prefix_of (record { rest = kept.0; is = kept.1 })
