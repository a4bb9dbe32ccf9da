-- What a node hears leaves it sound: an item that belongs goes to an inbox where it comes next, and an acknowledgement
-- to a window.
use Rattle.std.proofs.Common.{◌≡◌, ◌⊎◌, inl, inr, ℕ, zero, suc, ◌+◌, ◌-◌, ◌<◌, ◌≤◌, Bool, true, false, cond}
use Rattle.std.proofs.Common.{ℤ, List, [], ◌∷◌, ◌++◌, length, map, take, drop, find, get_or, Option, Some, None}
use Rattle.std.proofs.Common.{refl, ap, ◌∙◌, arith}
use Rattle.std.specs.Prelude.{◌==◌, slice_get}
use Rattle.std.specs.List.{position_from}
use Rattle.std.proofs.Math.Logic.{∥∥₁_elim, ∥∥₁_prop, ∥∥₁_map₂, ∥∥₁_map}
use Rattle.std.proofs.Math.Seq.{take-suc}
use Rattle.std.proofs.lemmas.List.{get_or_past, get_or-drop, length-drop, length-append}
use Rattle.std.proofs.lemmas.Option.{slice_get_cases, slice_get_within, get_or_from_slice_get}
use Rattle.protocol.specs.Node.Common.{history_of, IsPrefix, Fits, Network, IsValid, approximation, MAX_COUNT}
use Rattle.protocol.specs.Node.Common.{Port, Outside, Process, LogState, log_end, items_since, log_with}
use Rattle.protocol.specs.Node.Common.{received_of, log_of, ImageView, RecordView, Body, taking, hearing, is_process}
use Rattle.protocol.specs.Node.Common.{next_in_log, next_items, items_from, first_log, inbox_log, source_of}
use Rattle.protocol.specs.Node.Common.{RunningView, RunningNode, running_node, InboxIsSound, LinksAreLaidOut}
use Rattle.protocol.specs.Node.Common.{InboxStands, AreInOrder}
use Rattle.kahn_net.specs.Common.{Belongs}
use Rattle.kahn_net.specs.Laws.Approximations.{approximations_grow}
use Rattle.kahn_net.specs.Laws.Prefixes.{IsFollowed, prefix_of, prefix_refl, prefix_nil, prefix_trans}
use Rattle.kahn_net.specs.Laws.Prefixes.{prefix_item}
use Rattle.window_link.specs.Windows.{received, advanced, with_held}
use Rattle.window_link.specs.Laws.Arriving.{arrival_tells}
use Rattle.window_link.specs.Laws.Holding.{holds_advanced, holds_with_held}
use Rattle.datagram.specs.declared.packet.Body.TheVariants.{Data, Ack}
use Rattle.protocol.specs.Node.Popping.{items_out, popping}
use Rattle.protocol.specs.Node.Delivering.{acknowledged, changed_at}
use Rattle.protocol.specs.Node.Delivering.{inbox_place, outbox_place}
use Rattle.protocol_laws.specs.Node.PoppingLaws.{popping_sound, popping_stands}
use Rattle.protocol_laws.specs.Node.ReachedLaws.{items_of_channel, length-items_from}
use Rattle.protocol.specs.World.Common.{OutputView, HasCome, IsSound}
use Rattle.protocol.specs.World.Traffic.{BodyIsSound}
use Rattle.protocol_laws.specs.World.OutputLaws.{set_cases}
use Rattle.protocol_laws.specs.World.TurnLaws.{come_on_next}
use Rattle.protocol.specs.declared.links.Inbox.{Inbox}
use Rattle.protocol.specs.declared.links.Outbox.{Outbox}
use Rattle.protocol.specs.declared.limits.TheConstants.{MAX_INBOX_ITEMS, MAX_JOB_ITEMS}

-- ---- a list of which one element changes

module _ {A : Type 0} (change : A → A) where
  -- an element is one of before, or the one that changed
  pub changed_cases : (xs : List A) (place : Option ℕ) (k : ℕ) (y : A)
      → slice_get (changed_at change xs place) k ≡ Some y
      → (slice_get xs k ≡ Some y) ⊎ ((x : A) × (slice_get xs k ≡ Some x) × (place ≡ Some k) × (y ≡ change x))
  changed_cases xs place k y is = grind (arith, set_cases)

  -- what is true of each element, and of the one that changes once it has, is true of each afterwards
  changed_each : (P : A → Type 0) (xs : List A) (place : Option ℕ)
      → ((k : ℕ) (x : A) → slice_get xs k ≡ Some x → P x)
      → ((k : ℕ) (x : A) → slice_get xs k ≡ Some x → place ≡ Some k → P (change x))
      → (k : ℕ) (y : A) → slice_get (changed_at change xs place) k ≡ Some y → P y
  changed_each P xs place each changed k y is = elim (changed_cases xs place k y is) [
    | inl same ↦ each k y same
    | inr other ↦ rw other.3 (changed k other.0 other.1 other.2)
  ]

  -- what a change leaves alone is the same of all
  module _ {B : Type 0} (name : A → B) (keeps : (x : A) → name (change x) ≡ name x) where
    pub changed_names : (xs : List A) (place : Option ℕ) → map name (changed_at change xs place) ≡ map name xs
    changed_names xs None = refl
    changed_names [] (Some p) = refl
    changed_names (x ∷ xs) (Some zero) = rw (keeps x) refl
    changed_names (x ∷ xs) (Some (suc p)) = grind (arith, changed_names xs (Some p))

  -- the first element that passes a test which no change touches
  module _ (test : A → Bool) (keeps : (x : A) → test (change x) ≡ test x) where
    pub changed_found : (xs : List A) (place : Option ℕ) → (find test (changed_at change xs place) ≡ find test xs)
        ⊎ ((y : A) × (find test xs ≡ Some y) × (find test (changed_at change xs place) ≡ Some (change y)))
    changed_found xs None = inl refl
    changed_found [] (Some p) = inl refl
    changed_found (x ∷ xs) (Some zero) = grind (arith, keeps x)
    changed_found (x ∷ xs) (Some (suc p)) = grind (arith, changed_found xs (Some p))

-- the element at the place that was looked for passes the test
pub placed : {A : Type 0} (test : A → Bool) (xs : List A) (first p : ℕ) → position_from test first xs ≡ Some p
    → (first ≤ p) × ((x : A) → slice_get xs (p - first) ≡ Some x → test x ≡ true)
placed test [] first p found = absurd cc
placed test (x ∷ xs) first p found = grind (arith, placed test xs (first + 1) p)

-- the inbox at the place of a channel is that channel's
pub inbox_placed : (inboxes : List Inbox) (channel k : ℕ) (inbox : Inbox) → inbox_place inboxes channel ≡ Some k
    → slice_get inboxes k ≡ Some inbox → inbox.channel ≡ channel
inbox_placed inboxes channel k inbox found is =
    let named = placed (λ (i : Inbox). i.channel == channel) inboxes 0 k found in
    grind (arith, named.1 inbox)

-- ---- an inbox that an item comes to

-- the item goes last into the log, and the window goes on
abbrev pub with_next : ℤ → Inbox → Inbox
with_next item inbox =
    record { channel = inbox.channel; window = advanced inbox.window; log = log_with (item ∷ []) inbox.log; undone = inbox.undone }

-- the item goes into the window
abbrev pub with_later : ℕ → ℤ → Inbox → Inbox
with_later position item inbox =
    record { channel = inbox.channel; window = with_held inbox.window position item; log = inbox.log; undone = inbox.undone }

-- the item is the next one, and there is a place for it
pub record IsTaking (position : ℕ) (item : ℤ) (inbox later : Inbox) : Type 0 where
  pub next : position ≡ inbox.window.next
  pub few : length inbox.log.items < MAX_INBOX_ITEMS
  pub below : log_end inbox.log < MAX_COUNT
  pub same : later ≡ popping (with_next item inbox)

-- the item is a later one, and there is a place for it
pub record IsHolding (position : ℕ) (item : ℤ) (inbox later : Inbox) : Type 0 where
  pub low : inbox.window.next ≤ position
  pub same : later ≡ with_later position item inbox

-- it is taken or held, or the inbox stays
pub taking_cases : (position : ℕ) (item : ℤ) (inbox : Inbox)
    → (taking position item inbox ≡ inbox)
    ⊎ (IsHolding position item inbox (taking position item inbox)
    ⊎ IsTaking position item inbox (taking position item inbox))
taking_cases position item inbox = grind (arith, arrival_tells inbox.window position)

-- ---- what is at hand grows

grown_drop : (k : ℕ) (xs ys : List ℤ) → IsFollowed (drop k xs) (drop k (xs ++ ys))
grown_drop zero xs ys = record { rest = ys; is = refl }
grown_drop (suc k) [] ys = record { rest = drop (suc k) ys; is = refl }
grown_drop (suc k) (x ∷ xs) ys = grown_drop k xs ys

grown_take : (k : ℕ) (xs ys : List ℤ) → IsFollowed (take k xs) (take k (xs ++ ys))
grown_take zero xs ys = record { rest = []; is = refl }
grown_take (suc k) [] ys = record { rest = take (suc k) ys; is = refl }
grown_take (suc k) (x ∷ xs) ys = let later = grown_take k xs ys in
    record { rest = later.rest; is = ap (λ (l : List ℤ). x ∷ l) later.is }

-- of a log with more behind it
next_grows : (k received : ℕ) (log : LogState) (more : List ℤ)
    → IsPrefix (take k (items_since log received)) (take k (items_since (log_with more log) received))
next_grows k received log more =
    let whole = grown_drop (received - log.base) log.items more in
    rw whole.is (prefix_of (grown_take k (items_since log received) whole.rest))

module _ (inputs : List (List ℤ)) (image : ImageView) (position : ℕ) (item : ℤ) (inboxes : List Inbox)
    (place : Option ℕ) where
  -- the inboxes once one has it
  abbrev changed : List Inbox
  changed = changed_at (taking position item) inboxes place

  -- it stays of its channel
  keeps_channel : (inbox : Inbox) → (taking position item inbox).channel ≡ inbox.channel
  keeps_channel inbox = grind (arith, taking_cases position item inbox)

  -- what its log has at hand grows
  logged_grows : (k received : ℕ) (inbox : Inbox)
      → IsPrefix (take k (items_since inbox.log received))
      (take k (items_since (taking position item inbox).log received))
  logged_grows k received inbox = elim (taking_cases position item inbox) [
    | inl same ↦ rw same (prefix_refl (take k (items_since inbox.log received)))
    | inr (inl held) ↦ rw held.same (prefix_refl (take k (items_since inbox.log received)))
    | inr (inr taken) ↦
        let more = log_with (item ∷ []) inbox.log in
        rw taken.same
        (prefix_trans _ (take k (items_since more received)) _ (next_grows k received inbox.log (item ∷ []))
        (next_grows k received more (items_out more (advanced inbox.window).held)))
  ]

  -- so does what the node has at hand of a channel
  hand_grows : (received c : ℕ)
      → IsPrefix (next_in_log received (source_of image inboxes c)) (next_in_log received (source_of image changed c))
  hand_grows received c = by_own (log_of image c)
    where
      by_own : (own : Option LogState)
          → IsPrefix (next_in_log received (first_log own (inbox_log inboxes c)))
          (next_in_log received (first_log own (inbox_log changed c)))
      by_own (Some log) = prefix_refl (take MAX_JOB_ITEMS (items_since log received))
      by_own None =
          let same_test : (inbox : Inbox) → ((taking position item inbox).channel == c) ≡ (inbox.channel == c) =
          λ inbox. rw (keeps_channel inbox) in
          elim (changed_found (taking position item) (λ (inbox : Inbox). inbox.channel == c) same_test inboxes place) [
            | inl same ↦ rw same (prefix_refl (next_in_log received (inbox_log inboxes c)))
            | inr other ↦ rw (other.1, other.2) (logged_grows MAX_JOB_ITEMS received other.0)
          ]

  -- what a process has at hand of each channel
  pub items_grow : (net : Network) (process c : ℕ)
      → IsPrefix (history_of (items_from inputs image inboxes process 0 net.channels) c)
      (history_of (items_from inputs image (changed_at (taking position item) inboxes place) process 0 net.channels) c)
  items_grow net process c = elim (slice_get_cases net.channels c).1 [
    | inl on ↦
        let was = items_of_channel net inputs image inboxes process c on.0 on.2 in
        let is = items_of_channel net inputs image changed process c on.0 on.2 in
        rw (was, is) (by_consumer (is_process process on.0.consumer) on.0.producer)
    | inr past ↦
        let few = length-items_from inputs image inboxes process 0 net.channels in
        let none = get_or_past (items_from inputs image inboxes process 0 net.channels) c [] (omega (arith, few, past.0)) in
        prefix_nil _ _ none
  ]
    where
      by_consumer : (gets : Bool) (producer : Port)
          → IsPrefix (cond gets (next_items inputs image inboxes c producer) [])
          (cond gets (next_items inputs image changed c producer) [])
      by_consumer false producer = prefix_refl []
      by_consumer true Outside = prefix_refl (next_items inputs image inboxes c Outside)
      by_consumer true (Process q) = hand_grows (received_of image c) c

-- ---- an inbox stays sound

sound_next : (image : ImageView) (item : ℤ) (inbox : Inbox) → length inbox.log.items < MAX_INBOX_ITEMS
    → log_end inbox.log < MAX_COUNT → InboxIsSound image inbox → InboxIsSound image (with_next item inbox)
sound_next image item inbox few below sound = grind (arith, sound, length-append {A = ℤ})

pub sound_taking : (image : ImageView) (position : ℕ) (item : ℤ) (inbox : Inbox) → InboxIsSound image inbox
    → InboxIsSound image (taking position item inbox)
sound_taking image position item inbox sound = elim (taking_cases position item inbox) [
  | inl same ↦ rw same sound
  | inr (inl held) ↦ rw held.same (search sound)
  | inr (inr taken) ↦ rw taken.same
      (popping_sound image (with_next item inbox) (sound_next image item inbox taken.few taken.below sound))
]

-- what it holds comes next of its channel's history, if the item is the history's
stands_next : (histories : List (List ℤ)) (item : ℤ) (inbox : Inbox)
    → slice_get (history_of histories inbox.channel) (log_end inbox.log) ≡ Some item
    → InboxStands histories inbox → InboxStands histories (with_next item inbox)
stands_next histories item inbox belongs stands =
    let whole : List ℤ = history_of histories inbox.channel in
    let had : ℕ = length inbox.log.items in
    let left : List ℤ = drop inbox.log.base whole in
    let count : length (inbox.log.items ++ item ∷ []) ≡ suc had = omega (arith, length-append {A = ℤ}) in
    let within : log_end inbox.log < length whole = slice_get_within whole (log_end inbox.log) item belongs in
    let there : had < length left = omega (arith, within, length-drop inbox.log.base whole) in
    let read : get_or left had item ≡ item =
    get_or-drop inbox.log.base whole had item
    ∙ get_or_from_slice_get whole (log_end inbox.log) item item belongs in
    record {
      within = omega (arith, within, count);
      items = cc (stands.items, read, take-suc left had item there, count);
      held = holds_advanced whole inbox.window stands.held;
    }

pub stands_taking : (histories : List (List ℤ)) (position : ℕ) (item : ℤ) (inbox : Inbox)
    → inbox.window.next ≡ log_end inbox.log → slice_get (history_of histories inbox.channel) position ≡ Some item
    → InboxStands histories inbox → InboxStands histories (taking position item inbox)
stands_taking histories position item inbox next belongs stands = elim (taking_cases position item inbox) [
  | inl same ↦ rw same stands
  | inr (inl held) ↦ rw held.same
      (search (stands, holds_with_held _ inbox.window position item held.low belongs stands.held))
  | inr (inr taken) ↦
      let place : position ≡ log_end inbox.log = taken.next ∙ next in
      rw taken.same
      (popping_stands histories (with_next item inbox) (omega (arith, next, length-append {A = ℤ}))
      (stands_next histories item inbox (rw place at belongs) stands))
]

-- ---- a node that hears

-- a node that has come so far on one approximation has come so far on each later one
abbrev come_later : (net : Network) (inputs : List (List ℤ)) (node : RunningNode) (outputs : List OutputView)
    → IsValid net → Fits net inputs → ℕ → HasCome net inputs node outputs → HasCome net inputs node outputs
come_later net inputs node outputs valid fits zero come = come
come_later net inputs node outputs valid fits (suc k) come =
    come_on_next net inputs node outputs valid fits (come_later net inputs node outputs valid fits k come)

later_is : (net : Network) (inputs : List (List ℤ)) (node : RunningNode) (outputs : List OutputView)
    (valid : IsValid net) (fits : Fits net inputs) (k : ℕ) (come : HasCome net inputs node outputs)
    → (come_later net inputs node outputs valid fits k come).reached.n ≡ k + come.reached.n
later_is net inputs node outputs valid fits zero come = omega arith
later_is net inputs node outputs valid fits (suc k) come =
    (let before = later_is net inputs node outputs valid fits k come in ap suc before ∙ omega arith)

module _ (net : Network) (inputs : List (List ℤ)) (valid : IsValid net) (fits : Fits net inputs) (kept : RecordView)
    (version : ℕ) (running : RunningView) (outputs : List OutputView) where
  -- the node that hears
  abbrev now : RunningNode
  now = running_node kept version running

  abbrev after : Body → RunningNode
  after body = running_node kept version (hearing body running)

  -- an item that belongs
  item_come : (channel position : ℕ) (item : ℤ) → LinksAreLaidOut net kept.node now → HasCome net inputs now outputs
      → Belongs net inputs channel position item → HasCome net inputs (after (Data channel position item)) outputs
  item_come channel position item links come belongs = record {
    reached = search lifted.reached;
    inboxes =
        changed_each (taking position item) (InboxStands (approximation net inputs lifted.reached.n)) running.inboxes
        (inbox_place running.inboxes channel) lifted.inboxes stands;
    out = λ job is. (
        let of = lifted.out job is in
        record {
          process = of.process;
          code = of.code;
          items = λ c. prefix_trans _ _ _ (of.items c)
              (items_grow inputs running.current position item running.inboxes (inbox_place running.inboxes channel)
              net job.process c);
          room = of.room;
        });
    released = lifted.released;
  }
    where
      lifted : HasCome net inputs (running_node kept version running) outputs
      lifted = come_later net inputs (running_node kept version running) outputs valid fits belongs.n come

      there : slice_get (history_of (approximation net inputs lifted.reached.n) channel) position ≡ Some item
      there =
          let far = later_is net inputs (running_node kept version running) outputs valid fits belongs.n come in
          prefix_item _ _ position item
          ((approximations_grow net valid inputs fits belongs.n lifted.reached.n (omega (arith, far))).at channel)
          belongs.is

      stands : (k : ℕ) (inbox : Inbox) → slice_get running.inboxes k ≡ Some inbox
          → inbox_place running.inboxes channel ≡ Some k
          → InboxStands (approximation net inputs lifted.reached.n) (taking position item inbox)
      stands k inbox is found =
          stands_taking _ position item inbox (links.inboxes k inbox is).next
          (rw (inbox_placed running.inboxes channel k inbox found is) there) (lifted.inboxes k inbox is)

  item_links : (channel position : ℕ) (item : ℤ) → LinksAreLaidOut net kept.node now
      → LinksAreLaidOut net kept.node (after (Data channel position item))
  item_links channel position item links = record {
    incoming =
        changed_names (taking position item) (λ (inbox : Inbox). inbox.channel)
        (keeps_channel inputs running.current position item running.inboxes None) running.inboxes
        (inbox_place running.inboxes channel) ∙ links.incoming;
    outgoing = links.outgoing;
    inboxes =
        changed_each (taking position item) (InboxIsSound running.current) running.inboxes
        (inbox_place running.inboxes channel) links.inboxes
        (λ k inbox is here. sound_taking running.current position item inbox (links.inboxes k inbox is));
    restored = links.restored;
  }

  -- an acknowledgement
  ack_links : (channel epoch next : ℕ) → LinksAreLaidOut net kept.node now
      → LinksAreLaidOut net kept.node (after (Ack channel epoch next))
  ack_links channel epoch next links = record {
    incoming = links.incoming;
    outgoing =
        changed_names (acknowledged epoch next) (λ (outbox : Outbox). outbox.channel) (λ outbox. refl) running.outboxes
        (outbox_place running.outboxes channel) ∙ links.outgoing;
    inboxes = links.inboxes;
    restored =
        changed_each (acknowledged epoch next) (λ (outbox : Outbox). outbox.restored ≤ MAX_COUNT) running.outboxes
        (outbox_place running.outboxes channel) links.restored (λ k outbox is here. links.restored k outbox is);
  }

  ack_come : (channel epoch next : ℕ) → HasCome net inputs now outputs
      → HasCome net inputs (after (Ack channel epoch next)) outputs
  ack_come channel epoch next come = record {
    reached = search come.reached;
    inboxes = come.inboxes;
    out = come.out;
    released = come.released;
  }

  -- whatever is sound
  pub hear_sound : (body : Body) → BodyIsSound net inputs body → IsSound net inputs now outputs
      → IsSound net inputs (after body) outputs
  hear_sound (Data channel position item) belongs sound = record {
    listed = sound.listed;
    kept = search (item_links channel position item sound.kept.links);
    covered = λ j output is. search (sound.covered j output is);
    come = ∥∥₁_map₂ sound.come belongs (item_come channel position item sound.kept.links);
  }
  hear_sound (Ack channel epoch next) belongs sound = record {
    listed = sound.listed;
    kept = search (ack_links channel epoch next sound.kept.links);
    covered = λ j output is. search (sound.covered j output is);
    come = ∥∥₁_map sound.come (ack_come channel epoch next);
  }
  hear_sound other belongs sound = sound

-- it stands where it stood
pub order_heard : (body : Body) (kept : RecordView) (running : RunningView) → AreInOrder kept running.current
    → AreInOrder kept (hearing body running).current
order_heard (Data channel position item) kept running order = order
order_heard (Ack channel epoch next) kept running order = order
order_heard other kept running order = order

-- that something is sound is so once it is known to be
pub body_known : (net : Network) (inputs : List (List ℤ)) (body : Body) → ∥ BodyIsSound net inputs body ∥₁
    → BodyIsSound net inputs body
body_known net inputs (Data channel position item) known = ∥∥₁_elim known ∥∥₁_prop (λ b. b)
body_known net inputs other known = tt
