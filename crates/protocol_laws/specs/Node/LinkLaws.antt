-- Laws of inboxes: what they hold stays on later approximations, and comes next of what their channels' processes get.
use Rattle.std.proofs.Common.{◌≡◌, ℕ, suc, ◌≤◌, ℤ, List, length, drop, Option, Some, None, option_map, refl, ap, ◌∙◌}
use Rattle.std.proofs.Common.{arith}
use Rattle.std.specs.Prelude.{slice_get, find, ◌==◌}
use Rattle.std.proofs.lemmas.List.{drop-append-le}
use Rattle.protocol.specs.Node.Common.{history_of, IsPrefix, Fits, Network, IsValid, approximation, LogState}
use Rattle.protocol.specs.Node.Common.{inbox_log, RecordView, JobView, RunningNode, LinksAreLaidOut, InboxStands}
use Rattle.protocol.specs.Node.Common.{InboxesStand}
use Rattle.kahn_net.specs.Laws.Approximations.{approximation_grows}
use Rattle.kahn_net.specs.Laws.Prefixes.{prefix_of, prefix_trans, prefix_length, followed}
use Rattle.window_link.specs.Laws.Holding.{holds_longer}
use Rattle.protocol_laws.specs.Node.ImageLaws.{find_within, found_is}
use Rattle.protocol.specs.declared.links.Inbox.{Inbox}

-- a beginning without its first items is one of the whole without them
pub prefix_behind : (part whole : List ℤ) (n : ℕ) → IsPrefix part whole → n ≤ length part
    → IsPrefix (drop n part) (drop n whole)
prefix_behind part whole n front few =
    let more = followed part whole front in
    prefix_of (record { rest = more.rest; is = ap (drop n) more.is ∙ drop-append-le n part more.rest few })

-- the inbox whose log is that of a channel
pub record InboxOf (inboxes : List Inbox) (c : ℕ) (log : LogState) : Type 0 where
  pub at : ℕ
  pub inbox : Inbox
  pub there : slice_get inboxes at ≡ Some inbox
  pub is_channel : inbox.channel ≡ c
  pub is_log : inbox.log ≡ log

pub inbox_of : (inboxes : List Inbox) (c : ℕ) (log : LogState) → inbox_log inboxes c ≡ Some log → InboxOf inboxes c log
inbox_of inboxes c log h = at (find (λ (inbox : Inbox). inbox.channel == c) inboxes) refl h
  where
    at : (o : Option Inbox) → find (λ (inbox : Inbox). inbox.channel == c) inboxes ≡ o
        → option_map (λ (inbox : Inbox). inbox.log) o ≡ Some log → InboxOf inboxes c log
    at None found e = absurd (cc)
    at (Some inbox) found e =
        let there = find_within (λ (i : Inbox). i.channel == c) inboxes inbox found in
        record {
          at = there.0;
          inbox = inbox;
          there = there.1;
          is_channel =
              found_is (λ (i : Inbox). i.channel) inboxes c inbox found;
          is_log = cc;
        }

-- what an inbox holds is of each longer history too
inbox_further : (histories later : List (List ℤ)) (inbox : Inbox)
    → IsPrefix (history_of histories inbox.channel) (history_of later inbox.channel) → InboxStands histories inbox
    → InboxStands later inbox
inbox_further histories later inbox longer stands =
    let before : List ℤ = history_of histories inbox.channel in
    let now : List ℤ = history_of later inbox.channel in
    let few = stands.within in
    let more = prefix_length before now longer in
    let begun : inbox.log.base ≤ length before = omega (arith, few) in
    record {
      within = omega (arith, few, more);
      items = prefix_trans inbox.log.items (drop inbox.log.base before) (drop inbox.log.base now) stands.items
          (prefix_behind before now inbox.log.base longer begun);
      held = holds_longer before now inbox.window longer stands.held;
    }

-- and of the next approximation
pub inboxes_on_next : (net : Network) (inputs : List (List ℤ)) (n : ℕ) (inboxes : List Inbox) → IsValid net
    → Fits net inputs → InboxesStand (approximation net inputs n) inboxes
    → InboxesStand (approximation net inputs (suc n)) inboxes
inboxes_on_next net inputs n inboxes valid fits stand k inbox is =
    inbox_further (approximation net inputs n) (approximation net inputs (suc n)) inbox
    ((approximation_grows net valid inputs fits n).at inbox.channel) (stand k inbox is)

-- a node with the same image has the same ends of channels between nodes
pub links_kept : (net : Network) (home version : ℕ) (kept : RecordView) (out : Option JobView) (last : Option ℕ)
    (node : RunningNode) → LinksAreLaidOut net home node
    → LinksAreLaidOut net home
    (record {
      kept = kept;
      version = version;
      current = node.current;
      out = out;
      last = last;
      inboxes =
          node.inboxes;
      outboxes = node.outboxes;
    })
links_kept net home version kept out last node links =
    record {
      incoming = links.incoming;
      outgoing = links.outgoing;
      inboxes = links.inboxes;
      restored = links.restored;
    }
