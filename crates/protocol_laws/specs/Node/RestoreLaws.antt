-- Laws of a node that runs from an image again: its ends of channels between nodes are sound, and stand on the histories
-- on which the image stands.
use Rattle.std.proofs.Common.{◌≡◌, ℕ, ◌≤◌, Bool, true, false, ℤ, List, [], ◌∷◌, length, map, Option, Some, None, refl}
use Rattle.std.proofs.Common.{ap, ◌∙◌, arith}
use Rattle.std.specs.Prelude.{IsTrue, replicate, slice_get}
use Rattle.std.proofs.lemmas.List.{length-append}
use Rattle.protocol.specs.Node.Common.{approximation, got_on, history_of, Code, Network, MAX_COUNT, Channel, Port}
use Rattle.protocol.specs.Node.Common.{Outside, Process, LogState, received_at, received_of, log_of, sent_in, sent_of}
use Rattle.protocol.specs.Node.Common.{ImageView, RecordView, End, role_of, handled, set_back_to, has_process, port_on}
use Rattle.protocol.specs.Node.Common.{port_away, comes_in, is_incoming, incoming_on, role_by, RunningView, RunningNode}
use Rattle.protocol.specs.Node.Common.{ImageStands, IsLaidOut, CountIsWithin, CountsAreWithin, LogsAreWithin}
use Rattle.protocol.specs.Node.Common.{InboxIsSound, InboxStands, InboxesStand, LinksAreLaidOut, first_acts}
use Rattle.kahn_net.specs.Laws.Got.{reads}
use Rattle.window_link.specs.Laws.Holding.{holds_none}
use Rattle.protocol.specs.Node.GoingBack.{handled_at, inbox_set_back, outbox_set_back}
use Rattle.protocol.specs.Node.Layout.{outgoing_on}
use Rattle.protocol.specs.Node.Recovering.{restored_inbox, restored_outbox, restored_running}
use Rattle.protocol_laws.specs.Node.ImageLaws.{entry_of, map_got, map_keeps}
use Rattle.protocol_laws.specs.Node.InnerLaws.{end_there, consumer_on, count_there}
use Rattle.protocol_laws.specs.Node.NumberedLaws.{where_mark}
use Rattle.protocol_laws.specs.Node.ReachedLaws.{received_stands}
use Rattle.protocol_laws.specs.Node.ReleaseLaws.{log_entry}
use Rattle.protocol.specs.declared.limits.TheConstants.{WINDOW}
use Rattle.protocol.specs.declared.links.Inbox.{Inbox}
use Rattle.protocol.specs.declared.links.Outbox.{Outbox}

-- ---- what an image counts

-- a channel that comes from another node, with the processes at its ends
record GetsHere (net : Network) (home c : ℕ) : Type 0 where
  channel : Channel
  on : slice_get net.channels c ≡ Some channel
  q : ℕ
  from : channel.producer ≡ Process q
  away : has_process net home q ≡ false
  p : ℕ
  to : channel.consumer ≡ Process p
  here : IsTrue (has_process net home p)

gets_here : (net : Network) (home c : ℕ) → IsTrue (is_incoming net home c) → GetsHere net home c
gets_here net home c is = at (slice_get net.channels c) refl is
  where
    by_ports : (channel : Channel) → slice_get net.channels c ≡ Some channel → (producer consumer : Port)
        → channel.producer ≡ producer → channel.consumer ≡ consumer
        → IsTrue (port_on net home consumer) → IsTrue (port_away net home producer) → GetsHere net home c
    by_ports channel on Outside consumer from to here away = absurd cc
    by_ports channel on (Process q) Outside from to here away = absurd cc
    by_ports channel on (Process q) (Process p) from to here away =
        record { channel = channel; on = on; q = q; from = from; away = grind arith; p = p; to = to; here = here }

    at : (o : Option Channel) → slice_get net.channels c ≡ o → IsTrue (comes_in net home o) → GetsHere net home c
    at None on comes = absurd cc
    at (Some channel) on comes =
        by_ports channel on channel.producer channel.consumer refl refl (grind arith) (grind arith)

link_count : (net : Network) (inputs : List (List ℤ)) (c q : ℕ) (channel : Channel) (gets : Bool) (end : End)
    → slice_get net.channels c ≡ Some channel → channel.producer ≡ Process q → role_of end ≡ role_by false gets
    → CountIsWithin net inputs c end → received_at (Some end) ≤ MAX_COUNT
link_count net inputs c q channel gets end is from role within = grind (arith, within.of_link channel q)

-- what was received of a channel from another node is a count
pub received_few : (net : Network) (home : ℕ) (inputs : List (List ℤ)) (image : ImageView) (c : ℕ)
    → IsLaidOut net home image → CountsAreWithin net inputs image → is_incoming net home c ≡ true
    → received_of image c ≤ MAX_COUNT
received_few net home inputs image c laid counts comes =
    let at = gets_here net home c comes in
    let of = end_there net home image c at.channel laid at.on (consumer_on net home at.p at.channel at.to at.here) in
    let role = rw (at.from, at.away) at of.role in
    rw of.there
    (link_count net inputs c at.q at.channel (port_on net home at.channel.consumer) of.end at.on at.from role
    (count_there net home inputs image c at.channel counts of))

-- and so is what was put on any channel
pub sent_few : (image : ImageView) (c : ℕ) → LogsAreWithin image → sent_of image c ≤ MAX_COUNT
sent_few image c logs = at (log_of image c) refl
  where
    at : (o : Option LogState) → log_of image c ≡ o → sent_in o ≤ MAX_COUNT
    at None has = omega arith
    at (Some log) has =
        let found = log_entry image c log has in
        let entry = entry_of image c found.0 found.1 in
        (logs entry.place entry.saved log entry.is (rw entry.is_end found.2)).last

-- a process got no more of a channel than there is on these histories
got_within : (code : Option Code) (histories : List (List ℤ)) (m c : ℕ)
    → length (got_on c (first_acts code histories m)) ≤ length (history_of histories c)
got_within None histories m c = omega arith
got_within (Some code) histories m c =
    let sum = simp length-append at (ap (length {A = ℤ}) (reads code histories m c)) in omega arith

pub received_behind : (net : Network) (home : ℕ) (histories : List (List ℤ)) (made : ℕ → ℕ) (image : ImageView)
    (c : ℕ) → ImageStands net histories made image → IsLaidOut net home image → is_incoming net home c ≡ true
    → received_of image c ≤ length (history_of histories c)
received_behind net home histories made image c stands laid comes =
    let at = gets_here net home c comes in
    let count = received_stands net home histories made image c at.p at.channel stands laid at.on at.to at.here in
    let few = got_within (slice_get net.codes at.p) histories (made at.p) c in
    omega (arith, count, few)

-- ---- ends that begin anew

-- an inbox that goes on behind what an image received of its channel, in this epoch, and holds nothing
pub record BeginsAnew (image : ImageView) (epoch : ℕ) (inbox : Inbox) : Type 0 where
  pub log : inbox.log ≡ record { base = received_of image inbox.channel; items = [] }
  pub size : ℕ
  pub window : inbox.window
      ≡ record { epoch = epoch; next = received_of image inbox.channel; held = replicate size None }

-- those of a node, for the channels that it has, behind the permanent image of this record
pub record BeginAnew (net : Network) (home : ℕ) (kept : RecordView) (inboxes : List Inbox)
    (outboxes : List Outbox) : Type 0 where
  pub incoming : map (λ (inbox : Inbox). inbox.channel) inboxes ≡ incoming_on net home
  pub outgoing : map (λ (outbox : Outbox). outbox.channel) outboxes ≡ outgoing_on net home
  pub each_inbox : (k : ℕ) (inbox : Inbox) → slice_get inboxes k ≡ Some inbox
      → BeginsAnew kept.permanent kept.epoch inbox
  pub each_outbox : (k : ℕ) (outbox : Outbox) → slice_get outboxes k ≡ Some outbox
      → outbox.restored ≡ sent_of kept.permanent outbox.channel

-- what is made anew for a number has that number
numbers_stay : {A : Type 0} (name : A → ℕ) (restored : ℕ → A) (numbers : List ℕ) → ((n : ℕ) → name (restored n) ≡ n)
    → map name (map restored numbers) ≡ numbers
numbers_stay name restored [] same = refl
numbers_stay name restored (n ∷ numbers) same = rw (same n, numbers_stay name restored numbers same) refl

-- what a node restores begins anew
pub restored_begin : (net : Network) (home : ℕ) (kept : RecordView)
    → BeginAnew net home kept (restored_running net home kept).inboxes (restored_running net home kept).outboxes
restored_begin net home kept = record {
  incoming =
      numbers_stay (λ (i : Inbox). i.channel) (restored_inbox kept.permanent kept.epoch) (incoming_on net home)
      (λ n. refl);
  outgoing =
      numbers_stay (λ (o : Outbox). o.channel) (restored_outbox kept.permanent) (outgoing_on net home) (λ n. refl);
  each_inbox = λ k inbox is. (
      let old = map_got (restored_inbox kept.permanent kept.epoch) (incoming_on net home) k inbox is in
      rw (← old.2) (record { log = refl; size = WINDOW; window = refl }));
  each_outbox = λ k outbox is. (
      let old = map_got (restored_outbox kept.permanent) (outgoing_on net home) k outbox is in rw (← old.2) refl);
}

-- and so does what it sets back
pub set_back_begin : (net : Network) (home channel epoch : ℕ) (kept : RecordView) (running : RunningView)
    → map (λ (inbox : Inbox). inbox.channel) running.inboxes ≡ incoming_on net home
    → map (λ (outbox : Outbox). outbox.channel) running.outboxes ≡ outgoing_on net home
    → BeginAnew net home kept (set_back_to kept channel epoch running).inboxes
    (set_back_to kept channel epoch running).outboxes
set_back_begin net home channel epoch kept running incoming outgoing = record {
  incoming =
      map_keeps (λ (i : Inbox). i.channel) (inbox_set_back kept.permanent kept.epoch)
      (handled_at channel epoch running.inboxes) (λ i. refl)
      ∙ (map_keeps (λ (i : Inbox). i.channel) (handled channel epoch) running.inboxes (λ i. refl) ∙ incoming);
  outgoing =
      map_keeps (λ (o : Outbox). o.channel) (outbox_set_back kept.permanent) running.outboxes (λ o. refl) ∙ outgoing;
  each_inbox = λ k inbox is. (
      let old = map_got (inbox_set_back kept.permanent kept.epoch) (handled_at channel epoch running.inboxes) k inbox
      is in
      rw (← old.2) (record { log = refl; size = length old.0.window.held; window = refl }));
  each_outbox = λ k outbox is. (
      let old = map_got (outbox_set_back kept.permanent) running.outboxes k outbox is in rw (← old.2) refl);
}

-- ---- they are sound, and stand

anew_sound : (image : ImageView) (epoch : ℕ) (inbox : Inbox) → BeginsAnew image epoch inbox → epoch ≤ MAX_COUNT
    → received_of image inbox.channel ≤ MAX_COUNT → InboxIsSound image inbox
anew_sound image epoch inbox anew few count = record {
  begins = rw anew.log refl;
  next = rw (anew.log, anew.window) (omega arith);
  count = rw anew.log (omega arith);
  last = rw anew.log (omega arith);
  epoch = rw anew.window few;
}

anew_stands : (histories : List (List ℤ)) (image : ImageView) (epoch : ℕ) (inbox : Inbox)
    → BeginsAnew image epoch inbox → received_of image inbox.channel ≤ length (history_of histories inbox.channel)
    → InboxStands histories inbox
anew_stands histories image epoch inbox anew count = record {
  within = rw anew.log (omega arith);
  items = rw anew.log refl;
  held = rw anew.window (holds_none (history_of histories inbox.channel) epoch (received_of image inbox.channel) anew.size);
}

-- a channel of an inbox of the node comes from another one
from_other : (net : Network) (home : ℕ) (inboxes : List Inbox) (k : ℕ) (inbox : Inbox)
    → map (λ (i : Inbox). i.channel) inboxes ≡ incoming_on net home → slice_get inboxes k ≡ Some inbox
    → is_incoming net home inbox.channel ≡ true
from_other net home inboxes k inbox incoming is =
    (where_mark (λ (i : Inbox). i.channel) (is_incoming net home) 0 (length net.channels) inboxes k inbox incoming
    is).0

module _ (net : Network) (inputs : List (List ℤ)) (kept : RecordView) (version : ℕ) (inboxes : List Inbox)
    (outboxes : List Outbox) (anew : BeginAnew net kept.node kept inboxes outboxes)
    (laid : IsLaidOut net kept.node kept.permanent) where
  -- the node that runs so
  abbrev pub anew_node : RunningNode
  anew_node = record {
    kept = kept;
    version = version;
    current = kept.permanent;
    out = None;
    last = None;
    inboxes = inboxes;
    outboxes = outboxes;
  }

  pub links_anew : CountsAreWithin net inputs kept.permanent → LogsAreWithin kept.permanent → kept.epoch ≤ MAX_COUNT
      → LinksAreLaidOut net kept.node anew_node
  links_anew counts logs few = record {
    incoming = anew.incoming;
    outgoing = anew.outgoing;
    inboxes = λ k inbox is.
        anew_sound kept.permanent kept.epoch inbox (anew.each_inbox k inbox is) few
        (received_few net kept.node inputs kept.permanent inbox.channel laid counts
        (from_other net kept.node inboxes k inbox anew.incoming is));
    restored = λ k outbox is. rw (anew.each_outbox k outbox is) (sent_few kept.permanent outbox.channel logs);
  }

  pub inboxes_anew : (n : ℕ) (made : ℕ → ℕ) → ImageStands net (approximation net inputs n) made kept.permanent
      → InboxesStand (approximation net inputs n) inboxes
  inboxes_anew n made stands k inbox is =
      anew_stands (approximation net inputs n) kept.permanent kept.epoch inbox (anew.each_inbox k inbox is)
      (received_behind net kept.node (approximation net inputs n) made kept.permanent inbox.channel stands laid
      (from_other net kept.node inboxes k inbox anew.incoming is))
