-- Laws of a turn at inboxes: what it took of a channel is out of the inbox, which then begins where the image counts,
-- and what came out of its window since is behind what was left.
use Rattle.std.proofs.Common.{◌≡◌, inl, inr, ℕ, ◌+◌, ◌-◌, ◌≤◌, true, false, ℤ, List, length, drop, Option, Some, None}
use Rattle.std.proofs.Common.{refl, sym, ◌∙◌, arith}
use Rattle.std.specs.Prelude.{slice_get, IsTrue}
use Rattle.std.proofs.lemmas.List.{drop-drop}
use Rattle.protocol.specs.Node.Common.{history_of, IsPrefix, Network, Standing, approximation, Channel, Port, Outside}
use Rattle.protocol.specs.Node.Common.{Process, LogState, log_end, trimmed_log, ImageView, end_of, received_of, log_of}
use Rattle.protocol.specs.Node.Common.{SavedEnd, End, JobView, RunningNode, inbox_log, taken_from, installed}
use Rattle.protocol.specs.Node.Common.{inbox_turned, has_process, port_on, port_away, comes_in, is_incoming, HasReached}
use Rattle.protocol.specs.Node.Common.{IsLaidOut, LinksAreLaidOut, InboxIsSound, InboxStands, InboxesStand, IsJobOf}
use Rattle.protocol.specs.Node.Common.{is_counting}
use Rattle.protocol.specs.Node.Installing.{inbox_taken, inboxes_turned, with_turn}
use Rattle.protocol.specs.Node.Reached.{IsTurnOf}
use Rattle.protocol_laws.specs.Node.ImageLaws.{found_is, map_got, map_keeps}
use Rattle.protocol_laws.specs.Node.InnerLaws.{end_there, consumer_on, counts_there}
use Rattle.protocol_laws.specs.Node.InstallLaws.{job_has_code, received_then}
use Rattle.protocol_laws.specs.Node.FitLaws.{taken_at_hand, log_left, end_installed}
use Rattle.protocol_laws.specs.Node.LiftLaws.{IsAtHand}
use Rattle.protocol_laws.specs.Node.LinkLaws.{prefix_behind}
use Rattle.protocol_laws.specs.Node.LogLaws.{trimmed_cases, trimmed_end_stays, trimmed_within}
use Rattle.protocol_laws.specs.Node.PoppingLaws.{popping_sound, popping_stands}
use Rattle.protocol_laws.specs.Node.NumberedLaws.{where_mark, where_find}
use Rattle.protocol.specs.declared.links.Inbox.{Inbox}

-- What stands

-- what comes next of a history behind a log comes next behind what is left of it
next_trimmed : (position : ℕ) (log : LogState) (history : List ℤ) → IsPrefix log.items (drop log.base history)
    → IsPrefix ((trimmed_log position log).items) (drop ((trimmed_log position log).base) history)
next_trimmed position log history next = elim (trimmed_cases position log) [
  | inl same ↦ rw same next
  | inr cut ↦ let few : position - log.base ≤ length log.items = omega (arith, cut.0, cut.1) in
      let sum : log.base + (position - log.base) ≡ position = omega (arith, cut.0) in
      let behind = prefix_behind log.items (drop log.base history) (position - log.base) next few in
      rw cut.2 (rw (drop-drop, sum) at behind)
]

inbox_stands : (channels : List Channel) (process : ℕ) (taken : List ℕ) (histories : List (List ℤ)) (inbox : Inbox)
    → InboxStands histories inbox → InboxStands histories (inbox_taken channels process taken inbox)
inbox_stands channels process taken histories inbox stands =
    let position = inbox.log.base + taken_from channels process taken inbox.channel in
    record {
      within = rw (trimmed_end_stays position inbox.log).0 stands.within;
      items = next_trimmed position inbox.log (history_of histories inbox.channel) stands.items;
      held = stands.held;
    }

pub inboxes_installed : (channels : List Channel) (process : ℕ) (taken : List ℕ) (histories : List (List ℤ))
    (inboxes : List Inbox)
    → ((k : ℕ) (inbox : Inbox) → slice_get inboxes k ≡ Some inbox → inbox.window.next ≡ log_end inbox.log)
    → InboxesStand histories inboxes → InboxesStand histories (inboxes_turned channels process taken inboxes)
inboxes_installed channels process taken histories inboxes next stand k inbox is =
    let old = map_got (inbox_turned channels process taken) inboxes k inbox is in
    let end = trimmed_end_stays (old.0.log.base + taken_from channels process taken old.0.channel) old.0.log in
    rw (← old.2)
    (popping_stands histories (inbox_taken channels process taken old.0) (next k old.0 old.1 ∙ sym end.0)
    (inbox_stands channels process taken histories old.0 (stand k old.0 old.1)))

-- What is counted

-- an end that counts has what was taken
received_installed : (channels : List Channel) (process : ℕ) (after : Standing) (taken : List ℕ) (sent : List (List ℤ))
    (image : ImageView) (c : ℕ) (end : End) → end_of image c ≡ Some end → is_counting end ≡ true
    → received_of (installed channels process after taken sent image) c
    ≡ received_of image c + taken_from channels process taken c
received_installed channels process after taken sent image c end there counting =
    grind (
      arith,
      end_installed channels process after taken sent image c,
      found_is (λ (s : SavedEnd). s.channel) image.ends c,
      received_then,
    )

-- A channel that comes from another node: its process here, and its end.
record ComesIn (net : Network) (home : ℕ) (image : ImageView) (c : ℕ) : Type 0 where
  channel : Channel
  on : slice_get net.channels c ≡ Some channel
  q : ℕ
  from : channel.producer ≡ Process q
  end : End
  there : end_of image c ≡ Some end
  counting : is_counting end ≡ true
  no_log : log_of image c ≡ None

came_in : (net : Network) (home : ℕ) (image : ImageView) (c : ℕ) → IsLaidOut net home image
    → IsTrue (is_incoming net home c) → ComesIn net home image c
came_in net home image c laid is = at (slice_get net.channels c) refl is
  where
    by_ports : (channel : Channel) → slice_get net.channels c ≡ Some channel → (producer consumer : Port)
        → channel.producer ≡ producer → channel.consumer ≡ consumer
        → IsTrue (port_on net home consumer) → IsTrue (port_away net home producer) → ComesIn net home image c
    by_ports channel on Outside consumer from to here away = absurd cc
    by_ports channel on (Process q) Outside from to here away = absurd cc
    by_ports channel on (Process q) (Process p) from to here away =
        let of = end_there net home image c channel laid on (consumer_on net home p channel to here) in
        let elsewhere : has_process net home q ≡ false = grind arith in
        record {
          channel = channel;
          on = on;
          q = q;
          from = from;
          end = of.end;
          there = of.there;
          counting = counts_there net home p channel of.end to here of.role;
          no_log = rw of.there (let role = simp (from, elsewhere) at of.role in grind arith);
        }

    at : (o : Option Channel) → slice_get net.channels c ≡ o → IsTrue (comes_in net home o) → ComesIn net home image c
    at None on comes = absurd cc
    at (Some channel) on comes =
        by_ports channel on channel.producer channel.consumer refl refl (grind arith) (grind arith)

-- What is laid out

module _ (net : Network) (home : ℕ) (inputs : List (List ℤ)) (node : RunningNode) (job : JobView) (after : Standing)
    (taken : List ℕ) (sent : List (List ℤ)) (reached : HasReached net inputs node)
    (laid : IsLaidOut net home node.current)
    (hand : IsAtHand net inputs (approximation net inputs reached.n) reached.current_acts node.current node.inboxes
    job.process)
    (links : LinksAreLaidOut net home node) (of : IsJobOf net inputs node.current node.inboxes job)
    (turn : IsTurnOf net job after taken sent) where
  inbox_sound : (k : ℕ) (inbox : Inbox) → slice_get node.inboxes k ≡ Some inbox
      → InboxIsSound (installed net.channels job.process after taken sent node.current)
      (inbox_taken net.channels job.process taken inbox)
  inbox_sound k inbox is =
      let mark =
      where_mark (λ (i : Inbox). i.channel) (is_incoming net home) 0 (length net.channels) node.inboxes k inbox
      links.incoming is in
      let comes = came_in net home node.current inbox.channel laid mark.0 in
      let sound = links.inboxes k inbox is in
      let code = job_has_code net home inputs node.current node.inboxes job laid of in
      let position = inbox.log.base + taken_from net.channels job.process taken inbox.channel in
      let found : inbox_log node.inboxes inbox.channel ≡ Some (inbox.log) =
      rw (where_find (λ (i : Inbox). i.channel) (is_incoming net home) 0 (length net.channels) node.inboxes k inbox
      links.incoming is) refl in
      let few =
      rw (comes.from, comes.no_log, found) at
      (taken_at_hand net inputs reached.n reached.current_acts node.current node.inboxes job code.0 after taken sent
      reached.current hand of code.1 (turn code.0 code.1) inbox.channel comes.channel comes.on) in
      let begins = sound.begins in
      let left =
      log_left (received_of node.current inbox.channel) inbox.log
      (record { from_base = omega arith; to_end = omega arith }) in
      let within : taken_from net.channels job.process taken inbox.channel ≤ length inbox.log.items =
      omega (arith, few, left, begins) in
      let base : (trimmed_log position inbox.log).base ≡ position =
      rw (trimmed_within position inbox.log (record { from_base = omega arith; to_end = omega arith })) refl in
      let received =
      received_installed net.channels job.process after taken sent node.current inbox.channel comes.end comes.there
      comes.counting in
      let stays = trimmed_end_stays position inbox.log in
      record {
        begins = omega (arith, base, received, begins);
        next = rw stays.0 sound.next;
        count = omega (arith, stays.1, sound.count);
        last = rw stays.0 sound.last;
        epoch = sound.epoch;
      }

  pub links_installed : LinksAreLaidOut net home (with_turn net.channels job.process after taken sent node)
  links_installed = record {
    incoming =
        map_keeps (λ (i : Inbox). i.channel) (inbox_turned net.channels job.process taken) node.inboxes (λ i. refl)
        ∙ links.incoming;
    outgoing = links.outgoing;
    inboxes = λ k inbox is. (
        let old = map_got (inbox_turned net.channels job.process taken) node.inboxes k inbox is in
        rw (← old.2)
        (popping_sound (installed net.channels job.process after taken sent node.current)
        (inbox_taken net.channels job.process taken old.0) (inbox_sound k old.0 old.1)));
    restored = links.restored;
  }
