-- What is promised of checkpoints that several nodes take together, of an event of a world. The words are those of the
-- abstract machine (the crate `recovery_line`): what a node holds, what is decided and whom that names, what is live,
-- and what is over.
use Rattle.std.specs.Prelude.{◌≡◌, ◌≢◌, ◌⊎◌, ℕ, ◌≤◌, ◌<◌, true, false, Bool, List, [], ◌∷◌, All, None, Some, slice_get}
use Rattle.datagram.specs.PacketText.{IsPacketText}
use Rattle.datagram.specs.Reading.{whole_at}
use Rattle.datagram.specs.declared.packet.Body.TheVariants as says
use Rattle.datagram.specs.declared.packet.Packet.{Packet as Datagram}
use Rattle.ckpt_codec.specs.Common.{Network}
use Rattle.wire.specs.Traffic.{Traffic, flights_to}
use Rattle.wire.specs.declared.queue.Flight.{Flight}
use Rattle.recovery_line.specs.Images.{Image, Net, IsCross}
use Rattle.recovery_line.specs.Invariant.{NeedOf}
use Rattle.recovery_line.specs.Laws.{IsReceived, NamesTheNeeded, Wanted, WantedBefore}
use Rattle.recovery_line.specs.Line.{NoOrphan, Over, line_with}
use Rattle.recovery_line.specs.Nodes.{Live}
use Rattle.recovery_line.specs.Packets.{Packet}
use Rattle.recovery_line.specs.Records.{Holds}
use Rattle.recovery_line.specs.Worlds.{World, IsLive}
use Rattle.protocol.specs.Join.Runs.{RunsOn}
use Rattle.protocol.specs.Join.Seen.{world_seen}
use Rattle.protocol.specs.World.InLine.{nodes_seen}
use Rattle.protocol.specs.World.RecoveryLine.{net_seen}
use Rattle.protocol.specs.World.StationView.{StationView}
use Rattle.protocol.specs.World.Steps.{WorldView}

-- An Ask for x's instance n and so many items of a channel is in flight to node p.
pub record IsAsked (traffic : Traffic) (p x n channel count : ℕ) : Type 0 where
  pub place : ℕ
  pub flight : Flight
  pub there : slice_get (flights_to traffic p) place ≡ Some flight
  pub packet : Datagram
  pub reads : whole_at flight.packet ≡ Some packet
  pub from : packet.from ≡ x
  pub body : packet.body ≡ says.Ask n channel count

-- An image of x's instance n was needed of node p: an Ask for so many items of a channel was in flight to p, p's
-- permanent image hasn't put that many, and the new one has. That so many were received by an image of the instance as
-- the Ask was sent is `asks_as_received`; while the instance is live its initiator, or one of its takers, holds that
-- image yet. (By steps of the abstract machine it did at some world on the way to these stations: `before`.)
pub record WasNeeded (net : Net) (stations : List StationView) (traffic : Traffic) (p x n : ℕ) (image : Image) : Type 0
  where
    pub channel : ℕ
    pub count : ℕ
    pub to : ℕ
    pub cross : IsCross net channel p to
    pub asked : IsAsked traffic p x n channel count
    pub above : ((nodes_seen stations).records p).permanent.sent channel < count
    pub within : count ≤ image.sent channel
    pub sent : List Packet
    pub before : WantedBefore net (world_seen stations sent) x n channel count
    pub now : (live : Live) → IsLive (nodes_seen stations) x live → live.number ≡ n
        → Wanted net (nodes_seen stations) x n channel count

-- whatever these bytes say to be ended is over
abbrev pub SaysWhatIsOver : World → List ℕ → Type 0
SaysWhatIsOver world bytes =
    (packet : Datagram) (n : ℕ) → IsPacketText packet bytes → packet.body ≡ says.Ended n → Over world packet.from n

-- What is promised of checkpoints of several nodes, of the stations before an event, with what was in flight then,
-- and of those after it, with what is in flight now.
pub record IsCoordinated (network : Network) (before : List StationView) (traffic : Traffic) (after : List StationView)
    (flown : Traffic) : Type 0 where
  -- Steps of the abstract machine lead from the one world to the other.
  pub by_steps : RunsOn network before traffic after flown
  -- An instance is decided only while all whom the decision names hold it.
  pub commits_while_held : (x n p : ℕ) → ((nodes_seen before).records x).decided n ≡ false
      → ((nodes_seen after).records x).decided n ≡ true → ((nodes_seen after).records x).named n p ≡ true
      → (image : Image) × Holds ((nodes_seen before).records p) x n image
      × Holds ((nodes_seen after).records p) x n image
  -- A decided instance that a node holds stays held and decided until its image is the node's permanent one.
  pub stays_committed : (x n p : ℕ) (image : Image) → Holds ((nodes_seen before).records p) x n image
      → ((nodes_seen before).records x).decided n ≡ true
      → (Holds ((nodes_seen after).records p) x n image × (((nodes_seen after).records x).decided n ≡ true))
      ⊎ ((((nodes_seen after).records p).tentative ≡ None) × (((nodes_seen after).records p).permanent ≡ image))
  -- Whoever holds a decided instance is another node, which the decision names.
  pub holders_are_named : (x n p : ℕ) (image : Image) → Holds ((nodes_seen after).records p) x n image
      → ((nodes_seen after).records x).decided n ≡ true
      → (p ≢ x) × (((nodes_seen after).records x).named n p ≡ true)
  -- Whatever is said to be ended is over.
  pub ended_is_over : (to : ℕ)
      → All (λ (f : Flight). SaysWhatIsOver (nodes_seen after) f.packet) (flights_to flown to)
  -- What is over stays over,
  pub stays_over : (x n : ℕ) → Over (nodes_seen before) x n → Over (nodes_seen after) x n
  -- and no image becomes permanent whose instance was over.
  pub over_stays_out : (k : ℕ)
      → (((nodes_seen after).records k).permanent ≡ ((nodes_seen before).records k).permanent)
      ⊎ ((x : ℕ) × (n : ℕ)
      × Holds ((nodes_seen before).records k) x n ((nodes_seen after).records k).permanent
      × (Over (nodes_seen before) x n → ⊥))
  -- Each taker had to take part: of some channel the initiator's image, or that of a taker whose answer came earlier,
  -- received more than the taker's permanent image has put.
  pub takers_are_needed : (x p : ℕ) (live : Live) → IsLive (nodes_seen after) x live → live.takes p ≡ true
      → NeedOf (net_seen network) (nodes_seen after).records x live p
  -- No smaller set would do: were the initiator to take its image without one of the takers, the line had an orphan,
  -- while answers are collected
  pub no_smaller_set : (x p : ℕ) (live : Live) (part : ℕ → Bool) → IsLive (nodes_seen after) x live → part x ≡ true
      → live.takes p ≡ true → part p ≡ false → NoOrphan (net_seen network) (line_with (nodes_seen after).records part) → ⊥
  -- and when it is decided;
  pub no_smaller_decision : (x n p : ℕ) (part : ℕ → Bool) → ((nodes_seen before).records x).decided n ≡ false
      → ((nodes_seen after).records x).decided n ≡ true → ((nodes_seen after).records x).named n p ≡ true
      → part x ≡ true → part p ≡ false → NoOrphan (net_seen network) (line_with (nodes_seen before).records part) → ⊥
  -- and those whom the decision names are takers that had to take part, in the order of their first answers.
  pub names_the_needed : (x n : ℕ) → ((nodes_seen before).records x).decided n ≡ false
      → ((nodes_seen after).records x).decided n ≡ true
      → NamesTheNeeded (net_seen network) (nodes_seen before) (nodes_seen after).records x n
  -- What is asked for was in flight before, or was received by an image of the instance that is held now.
  pub asks_as_received : (p x n channel count : ℕ) → IsAsked flown p x n channel count
      → IsAsked traffic p x n channel count
      ⊎ IsReceived (net_seen network) (nodes_seen after).records x n channel count
  -- A node takes an image of another's instance only where that was needed.
  pub takes_where_needed : (p x n : ℕ) (image : Image) → p ≢ x → Holds ((nodes_seen after).records p) x n image
      → Holds ((nodes_seen before).records p) x n image
      ⊎ WasNeeded (net_seen network) before traffic p x n image

-- Checkpoints are coordinated in an event that leads from one world to another.
abbrev pub AreCoordinated : WorldView → WorldView → Type 0
AreCoordinated old new = ∥ IsCoordinated old.net old.stations old.traffic new.stations new.traffic ∥₁

-- ---- events one after the other

-- worlds in their order, each led to by an event from the one before
abbrev pub AreCoordinatedOn : WorldView → List WorldView → Type 0
AreCoordinatedOn world [] = Unit {0}
AreCoordinatedOn world (next ∷ worlds) = AreCoordinated world next × (next.net ≡ world.net) × AreCoordinatedOn next worlds

abbrev pub last_of : WorldView → List WorldView → WorldView
last_of world [] = world
last_of world (next ∷ worlds) = last_of next worlds

-- in one of these worlds an image of the instance that is held has received so many
abbrev pub WasReceived : Network → WorldView → List WorldView → ℕ → ℕ → ℕ → ℕ → Type 0
WasReceived net world [] x n c m = IsReceived (net_seen net) (nodes_seen world.stations).records x n c m
WasReceived net world (next ∷ worlds) x n c m =
    IsReceived (net_seen net) (nodes_seen world.stations).records x n c m ⊎ WasReceived net next worlds x n c m

-- However many events lead from a world in which nothing is in flight to another: whatever is asked for there was
-- received, in one of the worlds on the way, by an image of the instance that was held then.
abbrev pub AsksWereReceived : Type 0
AsksWereReceived =
    (world : WorldView) (worlds : List WorldView) → ((to : ℕ) → flights_to world.traffic to ≡ [])
    → AreCoordinatedOn world worlds → (p x n c m : ℕ) → IsAsked (last_of world worlds).traffic p x n c m
    → ∥ WasReceived world.net world worlds x n c m ∥₁
