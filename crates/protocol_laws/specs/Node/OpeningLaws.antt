-- Laws of a node before its first event: no process has made an act.
use Rattle.std.proofs.Common.{◌≡◌, ℕ, zero, suc, ◌+◌, ◌<◌, ◌≤◌, Bool, true, false, eqb, cond, ℤ, List, [], ◌∷◌, length}
use Rattle.std.proofs.Common.{get_or, map, Option, Some, None, option_map, refl, sym, ap, ◌∙◌, arith}
use Rattle.std.specs.Prelude.{slice_get, find, ◌==◌}
use Rattle.protocol.specs.Node.Common.{history_of, Code, Network, Channel, LogState, SavedProcessView, ImageView}
use Rattle.protocol.specs.Node.Common.{received_at, received_of, log_at, role_of, opening_ends, opening_image}
use Rattle.protocol.specs.Node.Common.{numbers_where, has_process, port_on, has_end, role_by, incoming_on, first_acts}
use Rattle.protocol.specs.Node.Common.{ImageStands, HasReached, IsLaidOut, LinksAreLaidOut, CountIsWithin}
use Rattle.protocol.specs.Node.Common.{CountsAreWithin, LogsAreWithin, InboxIsSound, InboxesStand, SavedEnd}
use Rattle.kahn_net.specs.Processes.{NotBegun}
use Rattle.record.specs.Common.{AreAscending}
use Rattle.record.specs.Laws.Ascent.{ascend_behind}
use Rattle.protocol.specs.Node.Opening.{opening_processes, opening_end, new_inbox, new_outbox, opening_inboxes}
use Rattle.protocol.specs.Node.Opening.{opening_running}
use Rattle.protocol.specs.Node.Layout.{channel_on, outgoing_on}
use Rattle.protocol_laws.specs.Node.CountLaws.{receives_within, sends_within, both_within}
use Rattle.window_link.specs.Laws.Holding.{holds_none}
use Rattle.protocol_laws.specs.Node.ImageLaws.{map_got}
use Rattle.protocol.specs.declared.limits.TheConstants.{WINDOW}
use Rattle.protocol.specs.declared.links.Inbox.{Inbox}
use Rattle.protocol.specs.declared.links.Outbox.{Outbox}

-- This is the entry of one of a list's elements. The first of them has this number.
abbrev pub IsOwn : {A B : Type 0} → (ℕ → A → B) → ℕ → List A → B → Type 0
IsOwn {A} entry number xs y = (j : ℕ) × (x : A) × (slice_get xs j ≡ Some x) × (y ≡ entry (number + j) x)

own_further : {A B : Type 0} (entry : ℕ → A → B) (number : ℕ) (x : A) (xs : List A) (y : B) → IsOwn entry (suc number) xs y
    → IsOwn entry number (x ∷ xs) y
own_further entry number x xs y own =
    let sum : number + suc own.0 ≡ suc number + own.0 = omega arith in (suc own.0, own.1, own.2, rw sum own.3)

-- A list has an entry for each element that passes a test. An entry has its element's number.
module _ {A B : Type 0} (test : A → Bool) (entry : ℕ → A → B) (listed : ℕ → List A → List B)
    (none : (number : ℕ) → listed number [] ≡ [])
    (one : (number : ℕ) (x : A) (xs : List A)
    → listed number (x ∷ xs) ≡ cond (test x) (entry number x ∷ listed (suc number) xs) (listed (suc number) xs)) where
  -- which entry stands where
  pub own_entry : (number : ℕ) (xs : List A) (k : ℕ) (y : B) → slice_get (listed number xs) k ≡ Some y → IsOwn entry number xs y
  own_entry number [] k y is = absurd (let bad = rw none at is in cc)
  own_entry number (x ∷ xs) k y is =
      at (test x) k (rw one at is) (λ j there. own_further entry number x xs y (own_entry (suc number) xs j y there))
    where
      at : (b : Bool) (k : ℕ) → slice_get (cond b (entry number x ∷ listed (suc number) xs) (listed (suc number) xs)) k ≡ Some y
          → ((j : ℕ) → slice_get (listed (suc number) xs) j ≡ Some y → IsOwn entry number (x ∷ xs) y)
          → IsOwn entry number (x ∷ xs) y
      at false k there further = further k there
      at true (suc k) there further = further k there
      at true zero there further = (0, x, refl, (let sum : number + 0 ≡ number = omega arith in rw sum (cc)))

  module _ (name : B → ℕ) (named : (number : ℕ) (x : A) → name (entry number x) ≡ number) where
    -- the entry of a number is that of the element there
    pub entry_there : (xs : List A) (k : ℕ) (y : B) (x : A) → slice_get (listed 0 xs) k ≡ Some y
        → slice_get xs (name y) ≡ Some x → y ≡ entry (name y) x
    entry_there xs k y x is there =
        let own = own_entry 0 xs k y is in
        let sum : 0 + own.0 ≡ own.0 = omega arith in
        let number : name y ≡ own.0 = ap name own.3 ∙ (named (0 + own.0) own.1 ∙ sum) in
        let same : own.1 ≡ x = cc in
        rw (number, ← same) (own.3 ∙ ap (λ (n : ℕ). entry n own.1) sum)

    -- their numbers are those at which the elements pass the test
    pub entry_numbers : (mark : ℕ → Bool) (number : ℕ) (xs : List A)
        → ((j : ℕ) (x : A) → slice_get xs j ≡ Some x → mark (number + j) ≡ test x)
        → map name (listed number xs) ≡ numbers_where mark number (length xs)
    entry_numbers mark number [] marked = rw none refl
    entry_numbers mark number (x ∷ xs) marked =
        let here : mark number ≡ test x = (let sum : number ≡ number + 0 = omega arith in rw sum (marked 0 x refl)) in
        let rest = entry_numbers mark (suc number) xs (λ j y is.
        (let sum : suc number + j ≡ number + suc j = omega arith in rw sum (marked (suc j) y is))) in
        rw one (grind (arith, here, rest, named))

own_process : (net : Network) (home k : ℕ) (saved : SavedProcessView) (code : Code)
    → slice_get (opening_processes home 0 net.codes) k ≡ Some saved → slice_get net.codes saved.number ≡ Some code
    → saved ≡ record { number = saved.number; standing = NotBegun code.vars }
own_process net home =
    entry_there (λ (code : Code). code.node == home)
    (λ (number : ℕ) (code : Code). record { number = number; standing = NotBegun code.vars }) (opening_processes home)
    (λ number. refl) (λ number code codes. refl) (λ (s : SavedProcessView). s.number) (λ number code. refl) net.codes

-- the entry of a channel
abbrev end_on : Network → ℕ → ℕ → Channel → SavedEnd
end_on net home number channel =
    record { channel = number; end = opening_end (port_on net home channel.producer) (port_on net home channel.consumer) }

-- the ends stand in order of their channels
ends_above : (net : Network) (home number : ℕ) (channels : List Channel) (k : ℕ) (d : SavedEnd)
    → k < length (opening_ends net home number channels)
    → number ≤ (get_or (opening_ends net home number channels) k d).channel
ends_above net home number [] k d within = absurd (omega (arith, within))
ends_above net home number (channel ∷ channels) zero d within =
    grind (arith, ends_above net home (suc number) channels zero d)
ends_above net home number (channel ∷ channels) (suc k) d within =
    grind (arith, ends_above net home (suc number) channels k d, ends_above net home (suc number) channels (suc k) d)

pub opening_ascends : (net : Network) (home number : ℕ) (channels : List Channel)
    → AreAscending (opening_ends net home number channels)
opening_ascends net home number [] = λ i j d less within. absurd (omega (arith, within))
opening_ascends net home number (channel ∷ channels) =
    let rest = opening_ascends net home (suc number) channels in
    let more = ascend_behind (end_on net home number channel) _
    (λ k d within. omega (arith, ends_above net home (suc number) channels k d within)) rest in
    grind (arith, rest, more)

own_end_entry : (net : Network) (home k : ℕ) (saved : SavedEnd)
    → slice_get (opening_ends net home 0 net.channels) k ≡ Some saved
    → (j : ℕ) × (channel : Channel) × (slice_get net.channels j ≡ Some channel) × (saved ≡ end_on net home (0 + j) channel)
own_end_entry net home =
    own_entry (λ (channel : Channel). channel_on net home (Some channel)) (end_on net home) (opening_ends net home)
    (λ number. refl) (λ number channel channels. refl) 0 net.channels

-- an entry is of its own channel, and its end is that channel's
own_end : (net : Network) (home k : ℕ) (saved : SavedEnd) (channel : Channel)
    → slice_get (opening_ends net home 0 net.channels) k ≡ Some saved
    → slice_get net.channels saved.channel ≡ Some channel
    → saved.end ≡ opening_end (port_on net home channel.producer) (port_on net home channel.consumer)
own_end net home k saved channel is on =
    ap (λ (s : SavedEnd). s.end)
    (entry_there (λ (channel : Channel). channel_on net home (Some channel)) (end_on net home) (opening_ends net home)
    (λ number. refl) (λ number channel channels. refl) (λ (s : SavedEnd). s.channel) (λ number channel. refl)
    net.channels k saved channel is on)

none_received : (puts gets : Bool) → received_at (Some (opening_end puts gets)) ≡ 0
none_received puts gets = grind arith

none_put : (puts gets : Bool) (log : LogState) → log_at (Some (opening_end puts gets)) ≡ Some log
    → (log.base ≡ 0) × (log.items ≡ [])
none_put puts gets log h = grind arith

role_there : (puts gets : Bool) → role_of (opening_end puts gets) ≡ role_by puts gets
role_there puts gets = grind arith

no_acts : (code : Option Code) (histories : List (List ℤ)) → first_acts code histories 0 ≡ []
no_acts None histories = refl
no_acts (Some code) histories = refl

-- nobody has made an act
abbrev pub none_made : ℕ → ℕ
none_made q = 0

image_opening : (net : Network) (home : ℕ) (histories : List (List ℤ))
    → ImageStands net histories none_made (opening_image net home)
image_opening net home histories = record {
  processes = λ k saved code is there.
      rw (own_process net home k saved code is there) (record { within = omega arith; here = (refl, refl) });
  ends = λ k saved channel is on. (
      let same = own_end net home k saved channel is on in
      let puts = port_on net home channel.producer in
      let gets = port_on net home channel.consumer in
      record {
        received = λ p to counting. rw (same, no_acts (slice_get net.codes p) histories) (none_received puts gets);
        retained = λ p log from has. (
            let none = none_put puts gets log (rw same at has) in
            rw (no_acts (slice_get net.codes p) histories)
            (record { count = rw none.1 (omega (arith, none.0)); items = rw (none.0, none.1) refl }));
      });
}

-- a node before its first event stands where no process has made an act
pub reached_opening : (net : Network) (inputs : List (List ℤ)) (nodes number : ℕ)
    → HasReached net inputs (opening_running net nodes number)
reached_opening net inputs nodes number = record {
  n = 0;
  permanent_acts = none_made;
  held_acts = none_made;
  current_acts = none_made;
  permanent = image_opening net number inputs;
  held = λ tentative is. absurd (cc);
  current = image_opening net number inputs;
  held_after = λ p. omega arith;
  current_after = λ p. omega arith;
}

pub laid_out_opening : (net : Network) (home : ℕ) → IsLaidOut net home (opening_image net home)
laid_out_opening net home = record {
  processes =
      entry_numbers (λ (code : Code). code.node == home)
      (λ (number : ℕ) (code : Code). record { number = number; standing = NotBegun code.vars }) (opening_processes home)
      (λ number. refl) (λ number code codes. refl) (λ (s : SavedProcessView). s.number) (λ number code. refl)
      (has_process net home) 0 net.codes (λ j code is. (let sum : 0 + j ≡ j = omega arith in rw (sum, is) refl));
  ends =
      entry_numbers (λ (channel : Channel). channel_on net home (Some channel)) (end_on net home)
      (opening_ends net home) (λ number. refl) (λ number channel channels. refl) (λ (s : SavedEnd). s.channel)
      (λ number channel. refl) (has_end net home) 0 net.channels
      (λ j channel is. (let sum : 0 + j ≡ j = omega arith in rw (sum, is) refl));
  roles = λ k saved channel is on. rw (own_end net home k saved channel is on)
      (role_there (port_on net home channel.producer) (port_on net home channel.consumer));
}

pub counts_opening : (net : Network) (home : ℕ) (inputs : List (List ℤ))
    → CountsAreWithin net inputs (opening_image net home)
counts_opening net home inputs k saved is =
    let entry = own_end_entry net home k saved is in
    rw (ap (λ (s : SavedEnd). s.end) entry.3)
    (at (port_on net home entry.1.producer) (port_on net home entry.1.consumer))
  where
    at : (puts gets : Bool) → CountIsWithin net inputs saved.channel (opening_end puts gets)
    at false gets = receives_within net inputs saved.channel 0 (λ channel on. grind arith)
    at true false = sends_within net inputs saved.channel (record { base = 0; items = [] })
    at true true =
        both_within net inputs saved.channel 0 (record { base = 0; items = [] })
        (record { from_base = omega arith; to_end = omega arith })

pub logs_opening : (net : Network) (home : ℕ) → LogsAreWithin (opening_image net home)
logs_opening net home k saved log is has =
    let entry = own_end_entry net home k saved is in
    let none = none_put (port_on net home entry.1.producer) (port_on net home entry.1.consumer) log
    (rw (ap (λ (s : SavedEnd). s.end) entry.3) at has) in
    let items : length log.items ≡ 0 = rw none.1 refl in
    record { count = omega arith; last = omega (arith, none.0) }

-- ---- ends of channels between nodes

-- nothing was received of any channel
received_from : (net : Network) (home number c : ℕ) (channels : List Channel)
    → received_at
    (option_map (λ (s : SavedEnd). s.end)
    (find (λ (s : SavedEnd). eqb s.channel c) (opening_ends net home number channels))) ≡ 0
received_from net home number c [] = refl
received_from net home number c (x ∷ channels) =
    grind (arith, received_from net home (suc number) c channels, none_received)

inbox_numbers : (numbers : List ℕ) → map (λ (inbox : Inbox). inbox.channel) (map new_inbox numbers) ≡ numbers
inbox_numbers [] = refl
inbox_numbers (n ∷ numbers) = rw (inbox_numbers numbers) refl

outbox_numbers : (numbers : List ℕ) → map (λ (outbox : Outbox). outbox.channel) (map new_outbox numbers) ≡ numbers
outbox_numbers [] = refl
outbox_numbers (n ∷ numbers) = rw (outbox_numbers numbers) refl

-- an inbox to which nothing has come is sound where nothing was received, and stands on whatever history
new_inbox_sound : (image : ImageView) (c : ℕ) → received_of image c ≡ 0 → InboxIsSound image (new_inbox c)
new_inbox_sound image c none =
    record { begins = sym none; next = refl; count = omega arith; last = omega arith; epoch = omega arith }

pub links_opening : (net : Network) (nodes number : ℕ) → LinksAreLaidOut net number (opening_running net nodes number)
links_opening net nodes number = record {
  incoming = inbox_numbers (incoming_on net number);
  outgoing = outbox_numbers (outgoing_on net number);
  inboxes = λ k inbox is. (
      let old = map_got new_inbox (incoming_on net number) k inbox is in
      rw (← old.2)
      (new_inbox_sound (opening_image net number) old.0 (received_from net number 0 old.0 net.channels)));
  restored = λ k outbox is. (
      let old = map_got new_outbox (outgoing_on net number) k outbox is in rw (← old.2) (omega arith));
}

pub inboxes_opening : (net : Network) (home : ℕ) (histories : List (List ℤ))
    → InboxesStand histories (opening_inboxes net home)
inboxes_opening net home histories k inbox is =
    let old = map_got new_inbox (incoming_on net home) k inbox is in
    rw (← old.2)
    (record { within = omega arith; items = refl; held = holds_none (history_of histories old.0) 0 0 WINDOW })
