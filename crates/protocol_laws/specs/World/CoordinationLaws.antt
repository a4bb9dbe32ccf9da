-- Checkpoints are coordinated in each event: each is steps of the abstract machine of which none but the first writes a
-- record, so that what the machine's laws say of a step and of records is so of the event.
use Rattle.std.proofs.Common.{◌≡◌, ◌⊎◌, inl, inr, ℕ, ℤ, Bool, true, false, List, [], ◌∷◌, Option, Some, None}
use Rattle.std.proofs.Common.{refl, sym, ap, subst, ◌∙◌, arith}
use Rattle.std.specs.Prelude.{◌≢◌, slice_get}
use Rattle.std.proofs.Math.Nat.{ℕ_set}
use Rattle.std.proofs.Math.Logic.{∥∥₁_elim, ∥∥₁_map, ∥∥₁_map₂}
use Rattle.std.proofs.lemmas.Option.{get_or_from_slice_get, slice_get_within}
use Rattle.datagram.proofs.Exactness.{whole_again}
use Rattle.datagram.specs.Reading.{whole_at}
use Rattle.protocol.specs.Node.Common.{Body, Network, IsValid, RecordView, are_nodes, producer_node}
use Rattle.protocol.specs.Node.Common.{is_outgoing}
use Rattle.datagram.specs.declared.packet.Body.TheVariants as says
use Rattle.datagram.specs.declared.packet.Packet.{Packet as Datagram}
use Rattle.protocol.specs.World.Common.{Traffic, flights_to, Image, Net, Packet, World}
use Rattle.protocol.specs.World.Common.{Reachable, Leads, RunsOn, SaysWhatWasSent, world_seen, EventView}
use Rattle.protocol.specs.World.Common.{WorldInvariant, net_seen, ReplyView, StationView, WorldView, IsStep}
use Rattle.protocol.specs.World.Common.{BytesAreSound, TrafficIsSound}
use Rattle.recovery_line.proofs.Theorems.{commits_while_held, stays_committed, holders_are_named, ended_is_over}
use Rattle.recovery_line.proofs.Theorems.{stays_over, over_stays_out, takers_are_needed, no_smaller_set}
use Rattle.recovery_line.proofs.Theorems.{asks_as_received, asks_for_needs, decides_for_the_needed}
use Rattle.recovery_line.proofs.Theorems.{no_smaller_decision, runs_on, takes_where_needed}
use Rattle.recovery_line.specs.Laws.{IsReceived, NamesTheNeeded, Needed, Wanted}
use Rattle.recovery_line.specs.Line.{NoOrphan, Over, line_with}
use Rattle.recovery_line.specs.Packets.{Ask, Ended}
use Rattle.recovery_line.specs.Records.{Holds}
use Rattle.recovery_line.specs.Worlds.{InFlight, Run}
use Rattle.protocol.specs.Join.Runs.{IsInFlight, KeepRecords, WriteAtFirst}
use Rattle.protocol.specs.Join.Seen.{body_seen, bytes_seen, packet_seen, spelled_seen}
use Rattle.protocol_laws.specs.Join.Crossings.{both_true, goes_cross, producer_is}
use Rattle.protocol_laws.specs.Join.Flown.{in_flight_was_sent}
use Rattle.protocol_laws.specs.Join.Leading.{reached_then, records_at_end}
use Rattle.protocol_laws.specs.Join.Lines.{FirstStep, first_step, named_there, over_here, over_there}
use Rattle.protocol_laws.specs.Join.Whole.{runs_still}
use Rattle.protocol.specs.World.Coordination.{AreCoordinated, AreCoordinatedOn, AsksWereReceived, IsAsked}
use Rattle.protocol.specs.World.Coordination.{IsCoordinated, SaysWhatIsOver, WasNeeded, WasReceived, last_of}
use Rattle.protocol.specs.World.InLine.{nodes_seen}
use Rattle.protocol.specs.World.Traffic.{SpellsSound}
use Rattle.protocol_laws.specs.World.StepKeeps.{step_keeps, step_runs_on}

-- ---- what is wanted, whatever is in flight

wanted_there : (net : Net) (stations : List StationView) (sent : List Packet) (x n c m : ℕ)
    → Wanted net (world_seen stations sent) x n c m → Wanted net (nodes_seen stations) x n c m
wanted_there net stations sent x n c m wanted = search wanted

-- ---- what is asked for

-- Behind steps of which each leaves these records an Ask is in flight that was so before, or one whose count was
-- received by an image that is held then.
asked_behind : (net : Net) (base w v : World) (worlds : List World) (x n c m : ℕ) → Reachable net w → Run net w worlds v
    → KeepRecords base worlds → InFlight v (Ask x n c m)
    → InFlight w (Ask x n c m) ⊎ IsReceived net base.records x n c m
asked_behind net base w v [] x n c m reached run keeps flight = inl (rw (← run) at flight)
asked_behind net base w v (u ∷ worlds) x n c m reached run keeps flight =
    elim (asked_behind net base u v worlds x n c m (runs_on net w u (u ∷ []) reached (run.0, refl)) run.1 keeps.1 flight) [
      | inr received ↦ inr received
      | inl at_u ↦ elim (asks_as_received net w u x n c m reached run.0 at_u) [
        | inl at_w ↦ inl at_w
        | inr received ↦ inr (rw keeps.0 at received)
      ]
    ]

asked_then : (net : Net) (w v : World) (x n c m : ℕ) → Reachable net w → Leads net w v → InFlight v (Ask x n c m)
    → InFlight w (Ask x n c m) ⊎ IsReceived net v.records x n c m
asked_then net w v x n c m reached leads flight = by leads.worlds leads.run leads.once
  where
    by : (worlds : List World) → Run net w worlds v → WriteAtFirst worlds
        → InFlight w (Ask x n c m) ⊎ IsReceived net v.records x n c m
    by [] run once = inl (rw (← run) at flight)
    by (u ∷ worlds) run once =
        elim (asked_behind net u w v (u ∷ worlds) x n c m reached run (refl, once) flight) [
          | inl was ↦ inl was
          | inr received ↦ inr (rw (records_at_end net u v worlds run.1 once) received)
        ]

-- a body that says so of checkpoints is an Ask
asks_body : (from to : ℕ) (body : Body) (x n c m : ℕ) → body_seen from to body ≡ Some (Ask x n c m)
    → (from ≡ x) × (body ≡ says.Ask n c m)
asks_body from to body x n c m is = grind arith

-- an Ask that is in flight is in flight to the node at which it is
asks_at : (traffic : Traffic) (x n c m : ℕ) (is : IsInFlight traffic (Ask x n c m)) → IsAsked traffic is.to x n c m
asks_at traffic x n c m is = by (whole_at is.flight.packet) refl is.says
  where
    by : (o : Option Datagram) → whole_at is.flight.packet ≡ o → spelled_seen o ≡ Some (Ask x n c m)
        → IsAsked traffic is.to x n c m
    by None reads told = absurd (cc)
    by (Some packet) reads told =
        let body = asks_body packet.from packet.to packet.body x n c m told in
        record { place = is.place; flight = is.flight; there = is.there; packet = packet; reads = reads; from = body.0; body = body.1 }

asked_bytes : (traffic : Traffic) (p x n c m : ℕ) (asked : IsAsked traffic p x n c m)
    → bytes_seen asked.flight.packet ≡ Some (Ask x n c m)
asked_bytes traffic p x n c m asked = rw (asked.reads, asked.body, asked.from)

asked_says : (traffic : Traffic) (p x n c m : ℕ) → IsAsked traffic p x n c m → IsInFlight traffic (Ask x n c m)
asked_says traffic p x n c m asked =
    record { to = p; place = asked.place; flight = asked.flight; there = asked.there; says = asked_bytes traffic p x n c m asked }

-- the node to which an Ask goes is the one that puts on its channel
module _ (net : Network) (inputs : List (List ℤ)) (valid : IsValid net) where
  asks_producer : (to : ℕ) (bytes : List ℕ) (x n c m : ℕ) → BytesAreSound net inputs to bytes
      → bytes_seen bytes ≡ Some (Ask x n c m) → producer_node net c ≡ to
  asks_producer to bytes x n c m known told =
      ∥∥₁_elim known (hlevel (ℕ_set)) (λ sound. by sound
      (asks_body sound.packet.from sound.packet.to sound.packet.body x n c m
      (rw (whole_again bytes sound.packet sound.text) at told)).1)
    where
      by : (sound : SpellsSound net inputs to bytes) → sound.packet.body ≡ says.Ask n c m → producer_node net c ≡ to
      by sound body =
          let named = rw (sound.here, body) at sound.names in
          let goes = (both_true (are_nodes net sound.packet.from to) (is_outgoing net to c) named).1 in
          producer_is net c to (goes_cross net to c valid goes).1.from

  asked_producer : (traffic : Traffic) → TrafficIsSound net inputs traffic → (p x n c m : ℕ)
      → IsAsked traffic p x n c m → producer_node net c ≡ p
  asked_producer traffic sound p x n c m asked =
      let flights = flights_to traffic p in
      let within = slice_get_within flights asked.place asked.flight asked.there in
      let known = rw (get_or_from_slice_get flights asked.place asked.flight asked.flight asked.there) at
      (sound p asked.place asked.flight within) in
      asks_producer p asked.flight.packet x n c m known (asked_bytes traffic p x n c m asked)

  -- so an Ask of a channel of node p is in flight to p
  pub is_asked_of : (traffic : Traffic) → TrafficIsSound net inputs traffic → (p x n c m : ℕ) → producer_node net c ≡ p
      → IsInFlight traffic (Ask x n c m) → IsAsked traffic p x n c m
  is_asked_of traffic sound p x n c m at is =
      let asked = asks_at traffic x n c m is in
      rw (sym (asked_producer traffic sound is.to x n c m asked) ∙ at) at asked

-- ---- an event

module _ (network : Network) (inputs : List (List ℤ)) (valid : IsValid network) (before after : List StationView)
    (traffic flown : Traffic) (sound : TrafficIsSound network inputs traffic)
    (sound_then : TrafficIsSound network inputs flown) (on : RunsOn network before traffic after flown) where
  abbrev net : Net
  net = net_seen network

  abbrev sent : List Packet
  sent = on.run.sent

  abbrev later : List Packet
  later = on.sent

  abbrev W : World
  W = world_seen before sent

  abbrev V : World
  V = world_seen after later

  reached : Reachable net W
  reached = on.run.reached

  leads : Leads net W V
  leads = on.leads

  then_reached : Reachable net V
  then_reached = reached_then net W V reached leads

  first : FirstStep net W V
  first = first_step net W V leads

  need_there : (p x n : ℕ) (image : Image) → Needed net W first.world p x n image
      → WasNeeded net before traffic p x n image
  need_there p x n image needed = record {
    channel = needed.channel;
    count = needed.count;
    to = needed.to;
    cross = needed.cross;
    asked = is_asked_of network inputs valid traffic sound p x n needed.channel needed.count
        (producer_is network needed.channel p needed.cross.from)
        (on.run.flown (Ask x n needed.channel needed.count) needed.asked);
    above = needed.above;
    within = needed.within;
    sent = sent;
    before = asks_for_needs net W x n needed.channel needed.count reached needed.asked;
    now = λ live is number.
        wanted_there net before sent x n needed.channel needed.count (needed.wanted live is number);
  }

  commits : (x n p : ℕ) → (W.records x).decided n ≡ false → (V.records x).decided n ≡ true
      → (V.records x).named n p ≡ true
      → (image : Image) × Holds (W.records p) x n image × Holds (V.records p) x n image
  commits x n p = rw first.same at (commits_while_held net W first.world x n p reached first.step)

  stays : (x n p : ℕ) (image : Image) → Holds (W.records p) x n image → (W.records x).decided n ≡ true
      → (Holds (V.records p) x n image × ((V.records x).decided n ≡ true))
      ⊎ (((V.records p).tentative ≡ None) × ((V.records p).permanent ≡ image))
  stays x n p image held decided =
      rw first.same at (stays_committed net W first.world x n p image reached first.step held decided)

  stays_out : (k : ℕ) → ((V.records k).permanent ≡ (W.records k).permanent)
      ⊎ ((x : ℕ) × (n : ℕ) × Holds (W.records k) x n (V.records k).permanent × (Over (nodes_seen before) x n → ⊥))
  stays_out k =
      let out = rw first.same at (over_stays_out net W first.world k reached first.step) in
      elim out [
        | inl same ↦ inl same
        | inr new ↦ inr (new.0, new.1, new.2, λ over. new.3 (over_here before sent new.0 new.1 over))
      ]

  no_smaller : (x n p : ℕ) (part : ℕ → Bool) → (W.records x).decided n ≡ false → (V.records x).decided n ≡ true
      → (V.records x).named n p ≡ true → part x ≡ true → part p ≡ false → NoOrphan net (line_with W.records part) → ⊥
  no_smaller x n p part = rw first.same at (no_smaller_decision net W first.world x n p part reached first.step)

  takes : (p x n : ℕ) (image : Image) → p ≢ x → Holds (V.records p) x n image
      → Holds (W.records p) x n image ⊎ WasNeeded net before traffic p x n image
  takes p x n image apart held =
      let one = rw first.same at (takes_where_needed net W first.world p x n image reached first.step apart) in
      elim (one held) [
        | inl was ↦ inl was
        | inr needed ↦ inr (need_there p x n image needed)
      ]

  names : (x n : ℕ) → (W.records x).decided n ≡ false → (V.records x).decided n ≡ true
      → NamesTheNeeded net (nodes_seen before) V.records x n
  names x n never =
      let named = rw first.same at (decides_for_the_needed net W first.world x n reached first.step never) in
      λ now. named_there net before sent V.records x n (named now)

  asks : (p x n c m : ℕ) → IsAsked flown p x n c m
      → IsAsked traffic p x n c m ⊎ IsReceived net (nodes_seen after).records x n c m
  asks p x n c m asked =
      elim (asked_then net W V x n c m reached leads
      (in_flight_was_sent flown later (Ask x n c m) on.carries (asked_says flown p x n c m asked))) [
        | inl was ↦ inl
            (is_asked_of network inputs valid traffic sound p x n c m
            (asked_producer network inputs valid flown sound_then p x n c m asked) (on.run.flown (Ask x n c m) was))
        | inr received ↦ inr received
      ]

  ended : (bytes : List ℕ) → SaysWhatWasSent later bytes → SaysWhatIsOver (nodes_seen after) bytes
  ended bytes was packet n text says_ended =
      let told : packet_seen packet ≡ Some (Ended packet.from packet.to n) =
      ap (body_seen packet.from packet.to) says_ended in
      over_there after later packet.from n
      (ended_is_over net V packet.from packet.to n then_reached
      (inr (was _ (ap spelled_seen (whole_again bytes packet text) ∙ told))))

  pub event_is_coordinated : IsCoordinated network before traffic after flown
  event_is_coordinated = record {
    by_steps = on;
    commits_while_held = commits;
    stays_committed = stays;
    holders_are_named = λ x n p image. holders_are_named net V x n p image then_reached;
    ended_is_over = λ to i d within. ended _ (on.carries to i d within);
    stays_over = λ x n over.
        over_there after later x n
        (stays_over net W V leads.worlds x n reached leads.run (over_here before sent x n over));
    over_stays_out = stays_out;
    takers_are_needed = λ x p live. takers_are_needed net V x p live then_reached;
    no_smaller_set = λ x p live part. no_smaller_set net V x p live part then_reached;
    no_smaller_decision = no_smaller;
    names_the_needed = names;
    asks_as_received = asks;
    takes_where_needed = takes;
  }

-- whatever the event, and however it comes out
pub events_are_coordinated : (rooms : List (RecordView → Bool)) (e : EventView) (old : WorldView) (answer : ReplyView)
    (new : WorldView) → WorldInvariant old → IsStep rooms e old answer new → AreCoordinated old new
events_are_coordinated rooms e old answer new inv step =
    let later = step_keeps rooms e old answer new inv step in
    ∥∥₁_map (step_runs_on rooms e old answer new inv step)
    (event_is_coordinated old.net old.inputs inv.valid old.stations new.stations old.traffic new.traffic inv.traffic
    (rw (step.net, step.inputs) at later.traffic))

-- and where nothing happens
pub coordinated_still : (world : WorldView) → WorldInvariant world → AreCoordinated world world
coordinated_still world inv =
    ∥∥₁_map inv.run
    (λ run. event_is_coordinated world.net world.inputs inv.valid world.stations world.stations world.traffic
    world.traffic inv.traffic inv.traffic (runs_still world.net world.stations world.traffic run))

-- ---- events one after the other

none_asked : (traffic : Traffic) (p x n c m : ℕ) → flights_to traffic p ≡ [] → IsAsked traffic p x n c m → ⊥
none_asked traffic p x n c m none asked =
    let there : slice_get [] asked.place ≡ Some asked.flight = rw none at asked.there in cc

-- an Ask of the first world, or of the last one
asked_on : (world : WorldView) (worlds : List WorldView) → AreCoordinatedOn world worlds → (p x n c m : ℕ)
    → IsAsked (last_of world worlds).traffic p x n c m
    → ∥ IsAsked world.traffic p x n c m ⊎ WasReceived world.net world worlds x n c m ∥₁
asked_on world [] on p x n c m asked = ∣ inl asked ∣₁
asked_on world (next ∷ worlds) on p x n c m asked =
    ∥∥₁_map₂ on.0 (asked_on next worlds on.2 p x n c m asked)
    (λ event rest. elim rest [
      | inr received ↦ inr (inr (received_in received))
      | inl at_next ↦ elim (event.asks_as_received p x n c m at_next) [
        | inl at_first ↦ inl at_first
        | inr received ↦ inr (inr (received_at worlds received))
      ]
    ])
  where
    received_in : WasReceived next.net next worlds x n c m → WasReceived world.net next worlds x n c m
    received_in = subst (λ (net : Network). WasReceived net next worlds x n c m) on.1

    received_at : (others : List WorldView)
        → IsReceived (net_seen world.net) (nodes_seen next.stations).records x n c m
        → WasReceived world.net next others x n c m
    received_at [] received = received
    received_at (other ∷ others) received = inl received

pub asks_were_received : AsksWereReceived
asks_were_received world worlds nothing on p x n c m asked =
    ∥∥₁_map (asked_on world worlds on p x n c m asked)
    (λ where_. elim where_ [
      | inl at_first ↦ absurd (none_asked world.traffic p x n c m (nothing p) at_first)
      | inr received ↦ received
    ])
