-- Whatever a node says in its turn may be said.
use Rattle.std.proofs.Common.{◌≡◌, ℕ, zero, suc, Bool, true, false, List, ℤ, [], ◌∷◌, length, map, Option, Some}
use Rattle.std.proofs.Common.{None, refl, sym, ap, ◌∙◌, arith}
use Rattle.std.specs.Prelude.{◌≢◌, ◌==◌, not, slice_get, slice_set}
use Rattle.std.specs.List.{flat_map}
use Rattle.datagram.specs.declared.packet.Body.TheVariants as says
use Rattle.protocol.specs.Node.Common.{Network, IsValid, DecisionView, log_of, RecordView, LogState, live_in}
use Rattle.protocol.specs.Node.Common.{live_asks, kept_packet, turn_packets, is_incoming, incoming_on, LiveView}
use Rattle.protocol.specs.Node.Common.{is_none, is_down, ModeView, Down, InDoubt, Runs, RunningView, if_due, telling}
use Rattle.protocol.specs.Node.Common.{inbox_packets, first_due}
use Rattle.record.specs.declared.record.Tentative.{Tentative as HeldImage}
use Rattle.protocol.specs.World.Common.{Net, Mode, live_of, has_node, image_seen, record_seen, decides, names, Packet}
use Rattle.protocol.specs.World.Common.{Record, World, mode_seen, world_seen, net_seen, StationView, moved_to}
use Rattle.protocol.specs.Node.Telling.{decision_packets, packet_if, query_packets, verdicts_told, undone_packet}
use Rattle.protocol.specs.Node.Telling.{send_prospect}
use Rattle.protocol_laws.specs.Join.Concludes.{commits_may}
use Rattle.protocol_laws.specs.Join.Crossings.{comes_cross}
use Rattle.protocol_laws.specs.Join.Holding.{up_seen}
use Rattle.protocol_laws.specs.Join.Leading.{leads_by, leads_from, record_at, mode_at, set_there, unseen}
use Rattle.protocol_laws.specs.Join.Plans.{ProspectLeads}
use Rattle.protocol_laws.specs.Join.Sent.{MaySendAll, may_both, may_each, may_map, sends}
use Rattle.protocol_laws.specs.Join.Settles.{may_chosen}
use Rattle.protocol_laws.specs.Join.Starts.{asks_may, live_there}
use Rattle.protocol.specs.Node.Addresses.{consumer_node}
use Rattle.protocol.specs.Node.Sending.{data_packets, items_due, log_packets, outbox_packets}
use Rattle.protocol_laws.specs.Node.NumberedLaws.{where_mark}
use Rattle.protocol.specs.declared.links.Inbox.{Inbox}
use Rattle.protocol.specs.declared.links.Outbox.{Outbox}

-- ---- items

data_may : (net : Net) (w : World) (home to channel position : ℕ) (items : List ℤ)
    → MaySendAll net w (data_packets home to channel position items)
data_may net w home to channel position [] = tt
data_may net w home to channel position (item ∷ items) = data_may net w home to channel (suc position) items

items_may : (net : Network) (w : World) (home : ℕ) (outbox : Outbox) (log : Option LogState)
    → MaySendAll (net_seen net) w (log_packets net home outbox log)
items_may net w home outbox None = tt
items_may net w home outbox (Some log) =
    data_may (net_seen net) w home (consumer_node net outbox.channel) outbox.channel (first_due outbox log)
    (items_due outbox log)

-- ---- a node with this record and mode

-- a decision among some is one of them, and so are the nodes that it names
decided_there : (decisions : List DecisionView) (i : ℕ) (d : DecisionView) → slice_get decisions i ≡ Some d
    → decides decisions d.number ≡ true
decided_there [] i d is = absurd (cc)
decided_there (x ∷ decisions) zero d is = let same : x ≡ d = cc in rw same (grind arith)
decided_there (x ∷ decisions) (suc i) d is = grind (arith, decided_there decisions i d is)

named_there : (decisions : List DecisionView) (i : ℕ) (d : DecisionView) (p : ℕ) → slice_get decisions i ≡ Some d
    → has_node p d.participants ≡ true → names decisions d.number p ≡ true
named_there [] i d p is has = absurd (cc)
named_there (x ∷ decisions) zero d p is has = let same : x ≡ d = cc in rw same (grind arith)
named_there (x ∷ decisions) (suc i) d p is has = grind (arith, named_there decisions i d p is has)

module _ (net : Network) (valid : IsValid net) (w : World) (home : ℕ) (kept : RecordView) (mode : ModeView)
    (is : w.records home ≡ record_seen kept) (mode_is : w.modes home ≡ mode_seen mode) (up : w.modes home ≢ Mode.Down)
  where
    asks_told : (o : Option LiveView) → live_in mode ≡ o → MaySendAll (net_seen net) w (live_asks net home o)
    asks_told None at = tt
    asks_told (Some live) at = asks_may net home w live (ap live_of mode_is ∙ live_there mode live at)

    query_told : (o : Option HeldImage) → kept.tentative ≡ o → MaySendAll (net_seen net) w (query_packets home o)
    query_told None at = tt
    query_told (Some held) at = by (held.initiator == home)
      where
        by : (b : Bool) → MaySendAll (net_seen net) w
            (packet_if (not b) (record { from = home; to = held.initiator; body = says.Query held.number }))
        by true = tt
        by false = (record { image = image_seen held.image; up = up; held = rw (is, at) refl }, tt)

    verdicts_may : MaySendAll (net_seen net) w (verdicts_told home kept)
    verdicts_may =
        let decided = may_each (net_seen net) w (decision_packets home) kept.decisions
        (λ i d at. commits_may (net_seen net) w home d.number d.participants up (λ p named. (
          rw is (decided_there kept.decisions i d at),
          rw is (named_there kept.decisions i d p at named),
        ))) in
        search (may_both (net_seen net) w, decided, query_told kept.tentative refl)

    kept_may : (c : ℕ) → is_incoming net home c ≡ true
        → MaySendAll (net_seen net) w (kept_packet net home kept.permanent c ∷ [])
    kept_may c comes = (
      record {
        node = home;
        to = (comes_cross net home c valid comes).1.to;
        up = up;
        count = ap (λ (r : Record). r.permanent.received c) (sym is);
      },
      tt,
    )

    pub turn_may : ((running : RunningView) → mode ≡ Runs running → (i : ℕ) (inbox : Inbox)
        → slice_get running.inboxes i ≡ Some inbox → is_incoming net home inbox.channel ≡ true)
        → MaySendAll (net_seen net) w (turn_packets net home kept mode)
    turn_may incoming = by mode refl
      where
        by : (now : ModeView) → mode ≡ now → MaySendAll (net_seen net) w (turn_packets net home kept now)
        by Down at = tt
        by InDoubt at =
            let kept_all = may_map (net_seen net) w (kept_packet net home kept.permanent) (incoming_on net home)
            (λ i c there. kept_may c
            (where_mark (λ (n : ℕ). n) (is_incoming net home) 0 (length net.channels) (incoming_on net home) i c
            (map_same (incoming_on net home)) there).0) in
            search (may_both (net_seen net) w, kept_all, verdicts_may)
          where
            map_same : (xs : List ℕ) → map (λ (n : ℕ). n) xs ≡ xs
            map_same [] = refl
            map_same (x ∷ xs) = rw (map_same xs) refl
        by (Runs running) at =
            let kept_all = may_each (net_seen net) w (inbox_packets net home kept.permanent) running.inboxes
            (λ i inbox there. kept_may inbox.channel (incoming running at i inbox there)) in
            -- what a node restored is no matter of the machine's
            let undone = may_chosen (net_seen net) w (kept.epoch == 0) []
            (map (undone_packet net home kept.epoch) running.outboxes) (λ first. tt) (λ later.
            may_map (net_seen net) w (undone_packet net home kept.epoch) running.outboxes (λ i outbox is_there. tt)) in
            let items = may_chosen (net_seen net) w (is_none kept.tentative)
            (flat_map (outbox_packets net home running.current) running.outboxes) []
            (λ free. may_each (net_seen net) w (outbox_packets net home running.current) running.outboxes
            (λ i outbox is_there. items_may net w home outbox (log_of running.current outbox.channel))) (λ held. tt) in
            search (may_both (net_seen net) w, kept_all, undone, asks_told running.live (ap live_in at), verdicts_may, items)

-- ---- one station of several

module _ (net : Network) (valid : IsValid net) (stations : List StationView) (k : ℕ) (old : StationView)
    (there : slice_get stations k ≡ Some old) (sent : List Packet)
    (incoming : (running : RunningView) → old.node.mode ≡ Runs running → (i : ℕ) (inbox : Inbox)
    → slice_get running.inboxes i ≡ Some inbox → is_incoming net k inbox.channel ≡ true) where
  pub turn_leads : ProspectLeads net stations k old sent (send_prospect net k old.node)
  turn_leads = by (is_down old.node.mode) refl
    where
      by : (down : Bool) → is_down old.node.mode ≡ down
          → ProspectLeads net stations k old sent
          (if_due (not down) (telling (turn_packets net k old.node.kept old.node.mode) old.node))
      by true is = tt
      by false is = record {
        leads = λ failures turns.
            let new = moved_to old.node failures turns old in
            let later = slice_set stations k new in
            let here = set_there stations k old new there in
            leads_from (net_seen net) (world_seen stations sent) (world_seen later sent) _
            (unseen stations k old new there sent refl refl refl)
            (leads_by (net_seen net) (world_seen later sent) _
            (sends (net_seen net) later (turn_packets net k old.node.kept old.node.mode) sent
            (turn_may net valid (world_seen later sent) k old.node.kept old.node.mode (record_at later k new here)
            (mode_at later k new here) (λ down. up_seen old.node.mode is (sym (mode_at later k new here) ∙ down))
            incoming)));
        silent = refl;
        keeps = λ e. refl;
      }
