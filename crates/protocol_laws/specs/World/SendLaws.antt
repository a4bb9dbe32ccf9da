-- What a sound node says of channels between nodes is right: it may be spelled, it names what there is, and its items
-- belong. (What it says of checkpoints besides: `Spelled` in `JoinLaws`.)
use Rattle.std.proofs.Common.{◌≡◌, ◌≢◌, ℕ, zero, suc, ◌+◌, ◌-◌, ◌<◌, ◌≤◌, Bool, true, false, cond, ℤ, List, [], ◌∷◌}
use Rattle.std.proofs.Common.{length, map, take, drop, Option, Some, None, refl, sym, ap, subst, ◌∙◌, arith}
use Rattle.std.specs.Prelude.{All, IsTrue, option_map, slice_get}
use Rattle.std.specs.List.{flat_map}
use Rattle.std.proofs.Math.Logic.{∥∥₁_map}
use Rattle.std.proofs.lemmas.Bool.{and_parts, eqb-true, eq-eqb, ne_eqb}
use Rattle.std.proofs.lemmas.List.{take-append-drop}
use Rattle.std.proofs.lemmas.List.Elements.{All-append, All-cons, All-nil}
use Rattle.std.proofs.lemmas.Option.{slice_get_cases, slice_get_within}
use Rattle.protocol.specs.Node.Common.{Code, Network, IsValid, sent_on, approximation, MAX_CHANNELS, MAX_COUNT}
use Rattle.protocol.specs.Node.Common.{MAX_NODES, Channel, Port, Outside, Process, LogState, IsLogOf, log_end}
use Rattle.protocol.specs.Node.Common.{items_since, received_of, log_of, log_at, ImageView, End, Packet, Body}
use Rattle.protocol.specs.Node.Common.{producer_node, names_right, names_run, incoming_on, is_incoming, is_outgoing}
use Rattle.protocol.specs.Node.Common.{comes_in, port_away, port_on, RunningNode, InboxIsSound, LinksAreLaidOut}
use Rattle.protocol.specs.Node.Common.{acts_of, inbox_packets, first_due, IsWritable, kept_packet}
use Rattle.kahn_net.specs.Common.{Belongs}
use Rattle.kahn_net.specs.Laws.Prefixes.{prefix_of, prefix_item}
use Rattle.datagram.specs.PacketText.{IsBody}
use Rattle.datagram.specs.declared.packet.Body.TheVariants.{Data, Ack, Kept, Undone}
use Rattle.protocol.specs.Node.Addresses.{address, port_node, consumer_node, runs_between}
use Rattle.protocol.specs.Node.Layout.{goes_out}
use Rattle.protocol.specs.Node.Sending.{FitsItem, data_packets, items_due, log_packets, outbox_packets}
use Rattle.protocol.specs.Node.Telling.{undone_packet}
use Rattle.protocol.specs.World.Common.{MayBeAskedFor, RunsSoundly, OutputView}
use Rattle.protocol_laws.specs.Node.ImageLaws.{entry_of}
use Rattle.protocol_laws.specs.Node.NumberedLaws.{where_mark}
use Rattle.protocol_laws.specs.Node.ReleaseLaws.{acts_put_prefix, log_entry, log_stands}
use Rattle.protocol.specs.World.Traffic.{BodyIsSound, PacketIsSound}
use Rattle.protocol.specs.declared.links.Inbox.{Inbox}
use Rattle.protocol.specs.declared.links.Outbox.{Outbox}

-- a packet that may be sent
pub record IsSendable (net : Network) (inputs : List (List ℤ)) (packet : Packet) : Type 0 where
  pub writable : IsWritable packet
  pub names : IsTrue (names_right net packet)
  pub sound : PacketIsSound net inputs packet

-- ---- lists

all_of : {A B : Type 0} (P : B → Type 0) (f : A → List B) (xs : List A)
    → ((k : ℕ) (x : A) → slice_get xs k ≡ Some x → All P (f x)) → All P (flat_map f xs)
all_of P f [] each = All-nil P
all_of P f (x ∷ xs) each =
    All-append P (f x) (flat_map f xs) (each 0 x refl) (all_of P f xs (λ k y is. each (suc k) y is))

all_mapped : {A B : Type 0} (P : B → Type 0) (f : A → B) (xs : List A)
    → ((k : ℕ) (x : A) → slice_get xs k ≡ Some x → P (f x)) → All P (map f xs)
all_mapped P f [] each = All-nil P
all_mapped P f (x ∷ xs) each =
    All-cons P (f x) (map f xs) (each 0 x refl) (all_mapped P f xs (λ k y is. each (suc k) y is))

got_drop : (k : ℕ) (xs : List ℤ) (j n : ℕ) → n ≡ k + j → slice_get (drop k xs) j ≡ slice_get xs n
got_drop zero xs j n sum = ap (slice_get xs) (omega arith)
got_drop (suc k) [] j n sum = refl
got_drop (suc k) (x ∷ xs) j zero sum = absurd (omega arith)
got_drop (suc k) (x ∷ xs) j (suc n) sum = got_drop k xs j n (omega arith)

got_take : (k : ℕ) (xs : List ℤ) (j : ℕ) (x : ℤ) → slice_get (take k xs) j ≡ Some x → slice_get xs j ≡ Some x
got_take k xs j x is =
    prefix_item (take k xs) xs j x (prefix_of (record { rest = drop k xs; is = sym (take-append-drop k xs) })) is

-- ---- the nodes at the ends of a channel

abbrev address_of : Option Code → ℕ
address_of code = address (option_map (λ (c : Code). c.node) code)

-- a process stands at one end on the node, and one at the other end on another node
pub record IsApart (net : Network) (home : ℕ) (there : Port) : Type 0 where
  pub on : port_on net (port_node net there) there ≡ true
  pub below : port_node net there < MAX_NODES
  pub home_below : home < MAX_NODES
  pub apart : home ≢ port_node net there

module _ (net : Network) (valid : IsValid net) (home : ℕ) where
  node_below : (p : ℕ) → port_node net (Process p) < MAX_NODES
  node_below p = at (slice_get net.codes p) refl
    where
      at : (o : Option Code) → slice_get net.codes p ≡ o → address_of o < MAX_NODES
      at None is = omega arith
      at (Some code) is = (valid.codes p code is).node

  home_is : (here : Port) → port_on net home here ≡ true → home < MAX_NODES
  home_is Outside on = absurd (cc)
  home_is (Process q) on = (let below = node_below q in grind (arith, eqb-true))

  is_apart : (here there : Port) → port_on net home here ≡ true → port_away net home there ≡ true
      → ((p : ℕ) → there ≡ Process p → p < length net.codes) → IsApart net home there
  is_apart here Outside on away within = absurd (cc)
  is_apart here (Process p) on away within =
      let few = within p refl in
      let found = slice_get_cases net.codes p in
      record {
        on = grind (arith, eq-eqb);
        below = node_below p;
        home_below = home_is here on;
        apart = λ same. grind (arith, eq-eqb);
      }

  -- a channel that comes from another node, and one that goes to one
  pub record IsFrom (c : ℕ) : Type 0 where
    pub number : c < MAX_CHANNELS
    pub below : producer_node net c < MAX_NODES
    pub home_below : home < MAX_NODES
    pub apart : home ≢ producer_node net c
    pub runs : runs_between net (producer_node net c) home c ≡ true

  pub record IsTo (c : ℕ) : Type 0 where
    pub channel : Channel
    pub q : ℕ
    pub on : slice_get net.channels c ≡ Some channel
    pub from : channel.producer ≡ Process q
    pub number : c < MAX_CHANNELS
    pub below : consumer_node net c < MAX_NODES
    pub home_below : home < MAX_NODES
    pub apart : home ≢ consumer_node net c
    pub runs : runs_between net home (consumer_node net c) c ≡ true

  comes_from : (c : ℕ) → is_incoming net home c ≡ true → IsFrom c
  comes_from c comes = at (slice_get net.channels c) refl comes
    where
      at : (o : Option Channel) → slice_get net.channels c ≡ o → comes_in net home o ≡ true → IsFrom c
      at None is come = absurd (cc)
      at (Some channel) is come =
          let both = and_parts (port_on net home channel.consumer) (port_away net home channel.producer) come in
          let side = is_apart channel.consumer channel.producer both.0 both.1
          (λ p from. valid.producer_is_here c p channel is from) in
          let few = valid.channel_count in
          let there = slice_get_within net.channels c channel is in
          let differ = ne_eqb (port_node net channel.producer) home (λ same. side.apart (sym same)) in
          record {
            number = omega arith;
            below = rw is side.below;
            home_below = side.home_below;
            apart = rw is side.apart;
            runs = rw (is, differ, side.on, both.0) refl;
          }

  goes_to : (c : ℕ) → is_outgoing net home c ≡ true → IsTo c
  goes_to c goes = at (slice_get net.channels c) refl goes
    where
      put_by : (port : Port) → port_on net home port ≡ true → (q : ℕ) × (port ≡ Process q)
      put_by Outside on = absurd (cc)
      put_by (Process q) on = (q, refl)

      at : (o : Option Channel) → slice_get net.channels c ≡ o → goes_out net home o ≡ true → IsTo c
      at None is go = absurd (cc)
      at (Some channel) is go =
          let both = and_parts (port_on net home channel.producer) (port_away net home channel.consumer) go in
          let side = is_apart channel.producer channel.consumer both.0 both.1
          (λ p to. valid.consumer_is_here c p channel is to) in
          let put = put_by channel.producer both.0 in
          let few = valid.channel_count in
          let there = slice_get_within net.channels c channel is in
          let differ = ne_eqb home (port_node net channel.consumer) side.apart in
          record {
            channel = channel;
            q = put.0;
            on = is;
            from = put.1;
            number = omega arith;
            below = rw is side.below;
            home_below = side.home_below;
            apart = rw is side.apart;
            runs = rw (is, differ, both.0, side.on) refl;
          }

-- ---- what is sent

module _ (net : Network) (inputs : List (List ℤ)) (valid : IsValid net) (home : ℕ) where
  -- a packet to another node
  sendable : (to : ℕ) (body : Body) → home < MAX_NODES → to < MAX_NODES → home ≢ to → IsTrue (names_run net home to body)
      → (FitsItem body → IsBody body) → BodyIsSound net inputs body
      → IsSendable net inputs (record { from = home; to = to; body = body })
  sendable to body home_below below apart names written sound = record {
    writable = λ fits. record { from = omega arith; to = omega arith; apart = apart; body = written fits };
    names = names;
    sound = sound;
  }

  answers_sendable : (permanent current : ImageView) (inbox : Inbox) → IsFrom net valid home inbox.channel
      → InboxIsSound current inbox → received_of permanent inbox.channel ≤ received_of current inbox.channel
      → All (IsSendable net inputs) (inbox_packets net home permanent inbox)
  answers_sendable permanent current inbox from sound behind =
      All-cons (IsSendable net inputs) _ (kept_packet net home permanent inbox.channel ∷ [])
      (sendable _ (Ack inbox.channel inbox.window.epoch inbox.window.next) from.home_below from.below from.apart from.runs
      (λ fits. (omega arith, sound.epoch, omega arith)) tt)
      (All-cons (IsSendable net inputs) _ []
      (sendable _ (Kept inbox.channel (received_of permanent inbox.channel)) from.home_below from.below from.apart
      from.runs (λ fits. (omega arith, omega arith)) tt)
      (All-nil (IsSendable net inputs)))

  -- items of a channel
  items_sendable : (to channel position : ℕ) (items : List ℤ)
      → ((j : ℕ) (item : ℤ) (n : ℕ) → slice_get items j ≡ Some item → n ≡ position + j
      → IsSendable net inputs (record { from = home; to = to; body = Data channel n item }))
      → All (IsSendable net inputs) (data_packets home to channel position items)
  items_sendable to channel position [] each = All-nil (IsSendable net inputs)
  items_sendable to channel position (item ∷ items) each =
      All-cons (IsSendable net inputs) _ _ (each 0 item position refl (omega arith))
      (items_sendable to channel (suc position) items (λ j x n is sum. each (suc j) x n is (omega (arith, sum))))

  -- an item of a log belongs
  logged_belongs : (n : ℕ) (made : ℕ → ℕ) (c q : ℕ) (channel : Channel) (log : LogState)
      → slice_get net.channels c ≡ Some channel → channel.producer ≡ Process q
      → IsLogOf log (sent_on c (acts_of net (approximation net inputs n) made q))
      → (k position : ℕ) (item : ℤ) → slice_get log.items k ≡ Some item → position ≡ log.base + k
      → Belongs net inputs c position item
  logged_belongs n made c q channel log on from of k position item is sum =
      let put : List ℤ = sent_on c (acts_of net (approximation net inputs n) made q) in
      record {
        n = suc n;
        is = prefix_item put _ position item (acts_put_prefix net inputs n made c q channel on from)
            (sym (got_drop log.base put k position sum) ∙ (ap (λ (xs : List ℤ). slice_get xs k) (sym of.items) ∙ is));
      }

  -- the items of a log that are due
  due_sendable : (current : ImageView) (outbox : Outbox) (log : LogState) → IsTo net valid home outbox.channel
      → log_end log ≤ MAX_COUNT
      → ((k position : ℕ) (item : ℤ) → slice_get log.items k ≡ Some item → position ≡ log.base + k
      → ∥ Belongs net inputs outbox.channel position item ∥₁)
      → All (IsSendable net inputs) (log_packets net home outbox (Some log))
  due_sendable current outbox log to last belongs =
      items_sendable (consumer_node net outbox.channel) outbox.channel (first_due outbox log) (items_due outbox log)
      each
    where
      each : (j : ℕ) (item : ℤ) (n : ℕ) → slice_get (items_due outbox log) j ≡ Some item → n ≡ first_due outbox log + j
          → IsSendable net inputs
          (record { from = home; to = consumer_node net outbox.channel; body = Data outbox.channel n item })
      each j item n is sum =
          let since = got_take outbox.window.size (items_since log (first_due outbox log)) j item is in
          let skip : ℕ = first_due outbox log - log.base in
          let there : slice_get log.items (skip + j) ≡ Some item =
          sym (got_drop skip log.items j (skip + j) refl) ∙ since in
          let within : skip + j < length log.items = slice_get_within log.items (skip + j) item there in
          let place : n ≡ log.base + (skip + j) = omega (arith, sum) in
          sendable _ (Data outbox.channel n item) to.home_below to.below to.apart to.runs
          (λ fits. (omega arith, omega arith, fits)) (belongs (skip + j) n item there place)

  -- what is kept for good of each channel from another node, where it may be asked for
  pub kept_sendable : (permanent : ImageView) → MayBeAskedFor net home permanent
      → All (IsSendable net inputs) (map (kept_packet net home permanent) (incoming_on net home))
  kept_sendable permanent counts =
      all_mapped (IsSendable net inputs) (kept_packet net home permanent) (incoming_on net home) (λ k channel is. (
      let mark =
      where_mark (λ (n : ℕ). n) (is_incoming net home) 0 (length net.channels) (incoming_on net home) k channel
      (map_same (incoming_on net home)) is in
      let from = comes_from net valid home channel mark.0 in
      sendable _ (Kept channel (received_of permanent channel)) from.home_below from.below from.apart from.runs
      (λ fits. (omega arith, counts channel mark.0)) tt))
    where
      map_same : (xs : List ℕ) → map (λ (n : ℕ). n) xs ≡ xs
      map_same [] = refl
      map_same (x ∷ xs) = ap (λ (rest : List ℕ). x ∷ rest) (map_same xs)

  -- of a node that runs: what it says of each channel from another node, and the items that it sends
  module _ (outputs : List OutputView) (node : RunningNode) (named : node.kept.node ≡ home)
      (runs : RunsSoundly net inputs node outputs) where
    links : LinksAreLaidOut net home node
    links = subst (λ (h : ℕ). LinksAreLaidOut net h node) named runs.sound.kept.links

    pub inboxes_sendable : All (IsSendable net inputs)
        (flat_map (inbox_packets net home node.kept.permanent) node.inboxes)
    inboxes_sendable = all_of (IsSendable net inputs) (inbox_packets net home node.kept.permanent) node.inboxes
        (λ k inbox is. (
        let mark =
        where_mark (λ (i : Inbox). i.channel) (is_incoming net home) 0 (length net.channels) node.inboxes k inbox
        links.incoming is in
        answers_sendable node.kept.permanent node.current inbox (comes_from net valid home inbox.channel mark.0)
        (links.inboxes k inbox is) (runs.order.current_ahead.received inbox.channel)))

    outbox_to : (k : ℕ) (outbox : Outbox) → slice_get node.outboxes k ≡ Some outbox
        → IsTo net valid home outbox.channel
    outbox_to k outbox is =
        goes_to net valid home outbox.channel
        (where_mark (λ (o : Outbox). o.channel) (is_outgoing net home) 0 (length net.channels) node.outboxes k outbox
        links.outgoing is).0

    -- what each channel to another node had when an image was restored
    pub undone_sendable : node.kept.epoch ≤ MAX_COUNT → (none : Bool)
        → All (IsSendable net inputs)
        (cond none [] (map (undone_packet net home node.kept.epoch) node.outboxes))
    undone_sendable few true = All-nil (IsSendable net inputs)
    undone_sendable few false =
        all_mapped (IsSendable net inputs) (undone_packet net home node.kept.epoch) node.outboxes (λ k outbox is. (
        let to = outbox_to k outbox is in
        sendable _ (Undone outbox.channel node.kept.epoch outbox.restored) to.home_below to.below to.apart to.runs
        (λ fits. (omega arith, few, links.restored k outbox is)) tt))

    by_log : (outbox : Outbox) → IsTo net valid home outbox.channel → (o : Option LogState)
        → log_of node.current outbox.channel ≡ o → All (IsSendable net inputs) (log_packets net home outbox o)
    by_log outbox to None has = All-nil (IsSendable net inputs)
    by_log outbox to (Some log) has = due_sendable node.current outbox log to (last_of log has) belongs
      where
        last_of : (log : LogState) → log_of node.current outbox.channel ≡ Some log → log_end log ≤ MAX_COUNT
        last_of log has =
            let found = log_entry node.current outbox.channel log has in
            let entry = entry_of node.current outbox.channel found.0 found.1 in
            (runs.sound.kept.logs entry.place entry.saved log entry.is
            (ap (λ (e : End). log_at (Some e)) entry.is_end ∙ found.2)).last

        belongs : (k position : ℕ) (item : ℤ) → slice_get log.items k ≡ Some item → position ≡ log.base + k
            → ∥ Belongs net inputs outbox.channel position item ∥₁
        belongs k position item is sum = ∥∥₁_map runs.sound.come
            (λ come. logged_belongs come.reached.n come.reached.current_acts outbox.channel to.q to.channel log to.on
            to.from
            (log_stands net (approximation net inputs come.reached.n) come.reached.current_acts node.current
            outbox.channel to.q to.channel log come.reached.current to.on to.from has) k position item is sum)

    pub outboxes_sendable : (free : Bool)
        → All (IsSendable net inputs) (cond free (flat_map (outbox_packets net home node.current) node.outboxes) [])
    outboxes_sendable false = All-nil (IsSendable net inputs)
    outboxes_sendable true = all_of (IsSendable net inputs) (outbox_packets net home node.current) node.outboxes
        (λ k outbox is. by_log outbox (outbox_to k outbox is) (log_of node.current outbox.channel) refl)
