-- What a sender takes for acknowledged the receiver has reached in that epoch.
use Rattle.std.proofs.Common.{◌≡◌, ℕ, ◌+◌, ◌<◌, ◌≤◌, ◌&&◌, nat_eq, nat_lt, nat_le, List, [], ◌∷◌, ◌++◌, ℤ, length}
use Rattle.std.proofs.Common.{Option, Some, None, refl, ap, subst, ◌∙◌, arith}
use Rattle.std.specs.Prelude.{slice_get}
use Rattle.std.specs.List.{AllByRecursion}
use Rattle.std.specs.Option.{option_to_list}
use Rattle.std.proofs.lemmas.Bool.{eq-eqb, eqb-true, ltb-true, ltb-false, leb-true}
use Rattle.std.proofs.lemmas.List.{length-append, length-take-le}
use Rattle.window_link.specs.declared.receiving.Arrival.{Arrival}
use Rattle.window_link.specs.declared.receiving.Arrival.TheVariants.{Taken, Held, Dropped}
use Rattle.window_link.specs.declared.receiving.Ack.{Ack}
use Rattle.window_link.specs.Windows.{Sender, Receiver, is_due, sender_after, arrival_at, advanced, with_held, window_after}
use Rattle.window_link.specs.Windows.{next_held, window_without}
use Rattle.window_link.specs.Link.{LinkPacket, Item, Acknowledgement, LinkEvent, Appended, SenderSetBack}
use Rattle.window_link.specs.Link.{ReceiverSetBack, ItemSent, AcknowledgementSent, Delivered, ItemPopped, Link, with_reached}
use Rattle.window_link.specs.Link.{handed_out, with_item_sent, with_delivered, after, run, opening}
use Rattle.window_link.proofs.Lists.{by_cases, and_both, at_place, each_weaker}

-- an acknowledgement says nothing of a later epoch, and no more than was reached in its own
abbrev pub IsHonest : ℕ → (ℕ → ℕ) → LinkPacket → Type 0
IsHonest epoch reached (Item position item) = Unit {0}
IsHonest epoch reached (Acknowledgement ack) = (ack.epoch ≤ epoch) × (ack.next ≤ reached ack.epoch)

pub record Acked (sender : Sender) (receiver : Receiver) (taken : List ℤ) (reached : ℕ → ℕ)
    (sent : List LinkPacket) : Type 0 where
  pub each : AllByRecursion (IsHonest receiver.epoch reached) sent
  pub not_ahead : sender.epoch ≤ receiver.epoch
  pub acknowledged : sender.acknowledged ≤ reached sender.epoch
  pub present : reached receiver.epoch ≡ receiver.next
  pub count : length taken ≡ receiver.next

abbrev pub AckedLink : Link → Type 0
AckedLink link = Acked link.sender link.receiver link.taken link.reached link.sent

-- it stays so where no epoch up to the present one falls
still_honest : (epoch later : ℕ) (reached further : ℕ → ℕ) → epoch ≤ later
    → ((e : ℕ) → e ≤ epoch → reached e ≤ further e)
    → (packet : LinkPacket) → IsHonest epoch reached packet → IsHonest later further packet
still_honest epoch later reached further le grows (Item position item) honest = tt
still_honest epoch later reached further le grows (Acknowledgement ack) honest =
    let more = grows ack.epoch honest.0 in
    (omega (arith, honest.0), omega (arith, honest.1))

at_itself : (reached : ℕ → ℕ) (epoch next : ℕ) → with_reached reached epoch next epoch ≡ next
at_itself reached epoch next = rw (eq-eqb epoch epoch refl) refl

-- in the present epoch the receiver goes on
rises : (reached : ℕ → ℕ) (epoch next further : ℕ) → reached epoch ≡ next → next ≤ further → (e : ℕ)
    → reached e ≤ with_reached reached epoch further e
rises reached epoch next further present le e =
    by_cases (λ (n : ℕ). reached e ≤ n) (nat_eq e epoch) further (reached e)
    (λ same. let is : reached e ≡ next = ap reached (eqb-true e epoch same) ∙ present in omega arith)
    (λ other. omega arith)

-- another epoch begins
begins : (reached : ℕ → ℕ) (epoch later next : ℕ) → epoch < later → (e : ℕ) → e ≤ epoch
    → reached e ≤ with_reached reached later next e
begins reached epoch later next lt e le =
    by_cases (λ (n : ℕ). reached e ≤ n) (nat_eq e later) next (reached e)
    (λ same. let is : e ≡ later = eqb-true e later same in absurd (omega arith))
    (λ other. omega arith)

-- the receiver goes on in its epoch
goes_on : (sender : Sender) (receiver : Receiver) (taken : List ℤ) (reached : ℕ → ℕ) (sent : List LinkPacket)
    (more : List ℤ) (next : ℕ) (held : List (Option ℤ))
    → next ≡ receiver.next + length more → Acked sender receiver taken reached sent
    → (let window : Receiver = record { epoch = receiver.epoch; next = next; held = held } in
    Acked sender window (taken ++ more) (with_reached reached receiver.epoch next) sent)
goes_on sender receiver taken reached sent more next held is acked =
    let up = rises reached receiver.epoch receiver.next next acked.present (omega arith) in
    let reached_more = up sender.epoch in
    record {
      each = each_weaker
          _ _ (still_honest receiver.epoch receiver.epoch reached (with_reached reached receiver.epoch next)
          (omega arith) (λ e le. up e)) sent acked.each;
      not_ahead = acked.not_ahead;
      acknowledged = omega (arith, acked.acknowledged, reached_more);
      present = at_itself reached receiver.epoch next;
      count = omega (arith, acked.count, length-append taken more);
    }

-- whatever becomes of an item that comes
item_came : (sender : Sender) (receiver : Receiver) (taken : List ℤ) (reached : ℕ → ℕ) (sent : List LinkPacket)
    (position : ℕ) (item : ℤ) (answer : Arrival)
    → Acked sender receiver taken reached sent
    → (let window : Receiver = window_after answer receiver position item in
    Acked sender window (taken ++ handed_out answer item) (with_reached reached window.epoch window.next) sent)
item_came sender receiver taken reached sent position item Taken acked =
    goes_on sender receiver taken reached sent (item ∷ []) (receiver.next + 1) (advanced receiver).held refl acked
item_came sender receiver taken reached sent position item Held acked =
    goes_on sender receiver taken reached sent [] receiver.next (with_held receiver position item).held (omega arith)
    acked
item_came sender receiver taken reached sent position item Dropped acked =
    goes_on sender receiver taken reached sent [] receiver.next receiver.held (omega arith) acked

-- a pop, whether it gives an item or not
item_popped : (sender : Sender) (receiver : Receiver) (taken : List ℤ) (reached : ℕ → ℕ) (sent : List LinkPacket)
    (item : Option ℤ)
    → Acked sender receiver taken reached sent
    → (let window : Receiver = window_without item receiver in
    Acked sender window (taken ++ option_to_list item) (with_reached reached window.epoch window.next) sent)
item_popped sender receiver taken reached sent None acked =
    goes_on sender receiver taken reached sent [] receiver.next receiver.held (omega arith) acked
item_popped sender receiver taken reached sent (Some item) acked =
    goes_on sender receiver taken reached sent (item ∷ []) (receiver.next + 1) (advanced receiver).held refl acked

ack_came : (sender : Sender) (receiver : Receiver) (taken : List ℤ) (reached : ℕ → ℕ) (sent : List LinkPacket)
    (ack : Ack)
    → (ack.epoch ≤ receiver.epoch) × (ack.next ≤ reached ack.epoch) → Acked sender receiver taken reached sent
    → Acked (sender_after sender ack.epoch ack.next) receiver taken reached sent
ack_came sender receiver taken reached sent ack honest acked =
    let P : Sender → Type 0 = λ after. Acked after receiver taken reached sent in
    by_cases P (nat_lt ack.epoch sender.epoch) sender _
    (λ older. acked)
    (λ not_older. by_cases P (nat_lt sender.epoch ack.epoch) _ _
    (λ newer. record {
      each = acked.each;
      not_ahead = honest.0;
      acknowledged = honest.1;
      present = acked.present;
      count =
          acked.count;
    })
    (λ not_newer.
    let least = ltb-false ack.epoch sender.epoch not_older in
    let most = ltb-false sender.epoch ack.epoch not_newer in
    let same : ack.epoch ≡ sender.epoch = omega arith in
    let there : ack.next ≤ reached sender.epoch = subst (λ (e : ℕ). ack.next ≤ reached e) same honest.1 in
    record {
      each = acked.each;
      not_ahead = acked.not_ahead;
      acknowledged =
          omega (arith, acked.acknowledged, there);
      present = acked.present;
      count = acked.count;
    }))

came : (link : Link) (place : ℕ) (packet : Option LinkPacket) → slice_get link.sent place ≡ packet → AckedLink link
    → AckedLink (with_delivered link packet)
came link place None e acked = acked
came link place (Some (Item position item)) e acked =
    item_came link.sender link.receiver link.taken link.reached link.sent position item
    (arrival_at link.receiver position) acked
came link place (Some (Acknowledgement ack)) e acked =
    ack_came link.sender link.receiver link.taken link.reached link.sent ack
    (at_place (IsHonest link.receiver.epoch link.reached) link.sent acked.each place (Acknowledgement ack) e) acked

item_sent : (link : Link) (position : ℕ) (item : Option ℤ) → AckedLink link
    → AckedLink (with_item_sent link position item)
item_sent link position None acked = acked
item_sent link position (Some item) acked =
    record {
      each = (tt, acked.each);
      not_ahead = acked.not_ahead;
      acknowledged = acked.acknowledged;
      present =
          acked.present;
      count = acked.count;
    }

pub acked_after : (link : Link) (event : LinkEvent) → AckedLink link → AckedLink (after link event)
acked_after link (Appended item) acked = acked
acked_after link (SenderSetBack count) acked =
    record {
      each = acked.each;
      not_ahead = omega arith;
      acknowledged = omega arith;
      present = acked.present;
      count =
          acked.count;
    }
acked_after link (ReceiverSetBack next epoch) acked =
    by_cases AckedLink (nat_lt link.receiver.epoch epoch && nat_le next link.receiver.next) _ link
    (λ can.
    let p = and_both (nat_lt link.receiver.epoch epoch) (nat_le next link.receiver.next) can in
    let lt = ltb-true link.receiver.epoch epoch p.0 in
    let le = leb-true next link.receiver.next p.1 in
    let kept = begins link.reached link.receiver.epoch epoch next lt in
    let before = kept link.sender.epoch acked.not_ahead in
    record {
      each = each_weaker
          _ _ (still_honest link.receiver.epoch epoch link.reached (with_reached link.reached epoch next) (omega arith)
          kept) link.sent acked.each;
      not_ahead = omega (arith, acked.not_ahead);
      acknowledged = omega (arith, acked.acknowledged, before);
      present = at_itself link.reached epoch next;
      count = length-take-le next link.taken (omega (arith, acked.count));
    })
    (λ cannot. acked)
acked_after link (ItemSent base position) acked =
    by_cases AckedLink (is_due link.sender base (length link.appended) position) _ link
    (λ due. item_sent link position (slice_get link.appended position) acked)
    (λ not_due. acked)
acked_after link AcknowledgementSent acked =
    record {
      each = ((omega arith, omega (arith, acked.present)), acked.each);
      not_ahead = acked.not_ahead;
      acknowledged = acked.acknowledged;
      present = acked.present;
      count = acked.count;
    }
acked_after link (Delivered place) acked = came link place (slice_get link.sent place) refl acked
acked_after link ItemPopped acked =
    item_popped link.sender link.receiver link.taken link.reached link.sent (next_held link.receiver) acked

pub acked_over : (events : List LinkEvent) (link : Link) → AckedLink link → AckedLink (run events link)
acked_over [] link acked = acked
acked_over (event ∷ events) link acked = acked_over events (after link event) (acked_after link event acked)

pub acked_at_first : (size : ℕ) → AckedLink (opening size)
acked_at_first size =
    record { each = tt; not_ahead = omega arith; acknowledged = omega arith; present = refl; count = refl }
