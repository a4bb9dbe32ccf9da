-- The world of all nodes and the packets between them, its steps, and the runs that steps make.
use Rattle.std.specs.Prelude.{◌≡◌, ◌≢◌, ◌⊎◌, ℕ, ◌≤◌, ◌<◌, true, false, Option, Some, None, List, [], ◌∷◌}
use Rattle.recovery_line.specs.Images.{Image, Net, IsCross, blank}
use Rattle.recovery_line.specs.Records.{Record, Holds, new_record}
use Rattle.recovery_line.specs.Nodes.{Awaited, Live, Mode, Down, Running, live_of, Node, NodeStep}
use Rattle.recovery_line.specs.Packets.{Packet, Kept, Ask, Took, Covered, Query, Commit, Ended, Settled, AreNeeds}
use Rattle.recovery_line.specs.Packets.{Hears}

-- by node its record and its mode, by output the number of items released, and by place a packet under way
pub record World : Type 0 where
  pub records : ℕ → Record
  pub modes : ℕ → Mode
  pub outlets : ℕ → ℕ
  pub flight : ℕ → Option Packet

abbrev pub node_of : World → ℕ → Node
node_of w k = record { disk = w.records k; mode = w.modes k; outlets = w.outlets }

abbrev pub IsLive : World → ℕ → Live → Type 0
IsLive w x live = live_of (w.modes x) ≡ Some live

abbrev pub InFlight : World → Packet → Type 0
InFlight w packet = (place : ℕ) × (w.flight place ≡ Some packet)

abbrev pub opening : World
opening =
    record { records = λ k. new_record; modes = λ k. Running blank None; outlets = λ c. 0; flight = λ place. None }

pub record SendsKept (net : Net) (w : World) (c m : ℕ) : Type 0 where
  pub node : ℕ
  pub to : net.consumer c ≡ Some node
  pub up : w.modes node ≢ Down
  pub count : m ≡ (w.records node).permanent.received c

pub record SendsAsk (w : World) (x n c m : ℕ) : Type 0 where
  pub live : Live
  pub is : IsLive w x live
  pub number : live.number ≡ n
  pub asked : live.asks c ≡ Some (m, Awaited)

-- A node that holds an image of the instance answers an Ask that it meets and its permanent image doesn't.
pub record SendsTook (net : Net) (w : World) (x n c m : ℕ) (needs : ℕ → Option ℕ) : Type 0 where
  pub node : ℕ
  pub to : ℕ
  pub image : Image
  pub cross : IsCross net c node to
  pub up : w.modes node ≢ Down
  pub asked : InFlight w (Ask x n c m)
  pub held : Holds (w.records node) x n image
  pub above : (w.records node).permanent.sent c < m
  pub within : m ≤ image.sent c
  pub needs_of : AreNeeds net node (w.records node).permanent image needs

pub record SendsCovered (net : Net) (w : World) (x n c m : ℕ) : Type 0 where
  pub node : ℕ
  pub from : net.producer c ≡ Some node
  pub up : w.modes node ≢ Down
  pub asked : InFlight w (Ask x n c m)
  pub put : m ≤ (w.records node).permanent.sent c

pub record SendsQuery (w : World) (p x n : ℕ) : Type 0 where
  pub image : Image
  pub up : w.modes p ≢ Down
  pub held : Holds (w.records p) x n image

-- The initiator tells of its decision whom this names, and whoever asks.
pub record SendsCommit (w : World) (x p n : ℕ) : Type 0 where
  pub up : w.modes x ≢ Down
  pub decided : (w.records x).decided n ≡ true
  pub why : ((w.records x).named n p ≡ true) ⊎ InFlight w (Query p x n)

-- The initiator knows no decision of a number that it used and for which it isn't collecting answers.
pub record SendsEnded (w : World) (x p n : ℕ) : Type 0 where
  pub up : w.modes x ≢ Down
  pub asked : InFlight w (Query p x n)
  pub used : n ≤ (w.records x).highest x
  pub undecided : (w.records x).decided n ≡ false
  pub closed : (live : Live) → IsLive w x live → live.number ≢ n

pub record SendsSettled (w : World) (p x n : ℕ) : Type 0 where
  pub up : w.modes p ≢ Down
  pub asked : InFlight w (Commit x p n)
  pub seen : n ≤ (w.records p).highest x
  pub free : (image : Image) → Holds (w.records p) x n image → ⊥

-- what a node may send in this world
abbrev pub MaySend : Net → World → Packet → Type 0
MaySend net w (Kept c m) = SendsKept net w c m
MaySend net w (Ask x n c m) = SendsAsk w x n c m
MaySend net w (Took x n c m needs) = SendsTook net w x n c m needs
MaySend net w (Covered x n c m) = SendsCovered net w x n c m
MaySend net w (Query p x n) = SendsQuery w p x n
MaySend net w (Commit x p n) = SendsCommit w x p n
MaySend net w (Ended x p n) = SendsEnded w x p n
MaySend net w (Settled p x n) = SendsSettled w p x n

-- Only node k and the outlets may differ, and packets may be lost, repeated, delayed and overtaken.
pub record OnlyAt (w v : World) (k : ℕ) : Type 0 where
  pub records : (j : ℕ) → j ≢ k → v.records j ≡ w.records j
  pub modes : (j : ℕ) → j ≢ k → v.modes j ≡ w.modes j
  pub flight : (packet : Packet) → InFlight v packet → InFlight w packet

pub record Sends (net : Net) (w v : World) : Type 0 where
  pub records : v.records ≡ w.records
  pub modes : v.modes ≡ w.modes
  pub outlets : v.outlets ≡ w.outlets
  pub flight : (packet : Packet) → InFlight v packet → InFlight w packet ⊎ MaySend net w packet

-- One step: a node acts by itself, a packet that was sent comes to a node, or nodes send.
pub data Step (net : Net) (w v : World) : Type 0 where
  Acts : (k : ℕ) → OnlyAt w v k → NodeStep net k (node_of w k) (node_of v k) → Step net w v
  Comes : (k : ℕ) (packet : Packet) → InFlight w packet → OnlyAt w v k → Hears net k packet (node_of w k) (node_of v k)
      → Step net w v
  Send : Sends net w v → Step net w v

-- the worlds in their order, each led to by a step from the one before
abbrev pub Run : Net → World → List World → World → Type 0
Run net w [] v = w ≡ v
Run net w (u ∷ worlds) v = Step net w u × Run net u worlds v

-- the steps that a node makes by itself, one after the other
abbrev pub Alone : Net → ℕ → Node → List Node → Node → Type 0
Alone net k a [] b = a ≡ b
Alone net k a (c ∷ nodes) b = NodeStep net k a c × Alone net k c nodes b
