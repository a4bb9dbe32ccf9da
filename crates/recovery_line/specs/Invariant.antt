-- What every reachable world keeps: of each node alone, of the records of two nodes, of each initiator that collects
-- answers, and of each packet.
use Rattle.std.specs.Prelude.{◌≡◌, ◌≢◌, ◌⊎◌, ℕ, ◌≤◌, ◌<◌, true, false, Option, Some}
use Rattle.recovery_line.specs.Images.{Image, AtMost, Net, IsCross, IsLocal, IsOutput}
use Rattle.recovery_line.specs.Records.{Record, Holds, effective}
use Rattle.recovery_line.specs.Nodes.{Answer, By_took, By_covered, Live, In_doubt, current_of, live_of, Node}
use Rattle.recovery_line.specs.Packets.{Packet, Kept, Ask, Took, Covered, Query, Commit, Ended, Settled, AreNeeds}
use Rattle.recovery_line.specs.Worlds.{World, node_of, IsLive, InFlight}
use Rattle.recovery_line.specs.Line.{NoOrphan, Over}

-- the three images that a node may have
pub data IsImageOf (a : Node) (i : Image) : Type 0 where
  Permanent : a.disk.permanent ≡ i → IsImageOf a i
  Held : (x n : ℕ) → Holds a.disk x n i → IsImageOf a i
  Current : current_of a.mode ≡ Some i → IsImageOf a i

-- What node k keeps whatever the others do: its images are in order, its logs of outputs begin no later
-- than what was released ends, its own instances are numbered upwards, and in doubt it holds another's image.
pub record NodeOk (net : Net) (k : ℕ) (a : Node) : Type 0 where
  pub tentative : (x n : ℕ) (i : Image) → Holds a.disk x n i → (a.disk.highest x ≡ n) × AtMost a.disk.permanent i
  pub current : (i : Image) → current_of a.mode ≡ Some i → AtMost a.disk.permanent i
  pub latest : (x n : ℕ) (i j : Image) → Holds a.disk x n i → current_of a.mode ≡ Some j → AtMost i j
  pub used : (n : ℕ) → a.disk.decided n ≡ true → n ≤ a.disk.highest k
  pub older : (m n : ℕ) (i : Image) → Holds a.disk k m i → a.disk.decided n ≡ true → n < m
  pub own : (live : Live) → live_of a.mode ≡ Some live → (i : Image) × Holds a.disk k live.number i
  pub local : (c : ℕ) (i : Image) → IsLocal net c k → IsImageOf a i
      → (i.base c ≤ i.received c) × (i.received c ≤ i.sent c)
  pub output : (c : ℕ) (i : Image) → IsOutput net c k → IsImageOf a i → i.base c ≤ a.outlets c
  pub covered : (c : ℕ) → IsOutput net c k → a.outlets c ≤ a.disk.permanent.sent c
  pub log : (c : ℕ) (i : Image) → IsImageOf a i → i.base c ≤ i.sent c
  pub doubt : a.mode ≡ In_doubt → (x : ℕ) × (n : ℕ) × (i : Image) × (x ≢ k) × Holds a.disk x n i

-- Why a taker had to: a channel of which the initiator's image, or an earlier taker's, received more than
-- the taker's permanent image put.
pub record NeedOf (net : Net) (records : ℕ → Record) (x : ℕ) (live : Live) (p : ℕ) : Type 0 where
  pub channel : ℕ
  pub by : ℕ
  pub image : Image
  pub cross : IsCross net channel p by
  pub held : Holds (records by) x live.number image
  pub earlier : (by ≡ x) ⊎ ((live.takes by ≡ true) × (live.place by < live.place p))
  pub above : (records p).permanent.sent channel < image.received channel

-- a question to p that its permanent image doesn't meet
pub record Unmet (net : Net) (records : ℕ → Record) (live : Live) (p : ℕ) : Type 0 where
  pub channel : ℕ
  pub to : ℕ
  pub count : ℕ
  pub answer : Answer
  pub cross : IsCross net channel p to
  pub asked : live.asks channel ≡ Some (count, answer)
  pub above : (records p).permanent.sent channel < count

-- Of an initiator that collects answers, with its own tentative image.
pub record LiveOk (net : Net) (records : ℕ → Record) (x : ℕ) (own : Image) (live : Live) : Type 0 where
  pub held : Holds (records x) x live.number own
  pub undecided : (records x).decided live.number ≡ false
  pub takers : (p : ℕ) → live.takes p ≡ true → (p ≢ x) × ((i : Image) × Holds (records p) x live.number i)
  -- each need of its image is asked for, and each of a taker's image is asked for or met by its own
  pub needs : (c p : ℕ) → IsCross net c p x → (records x).permanent.received c < own.received c
      → (answer : Answer) × (live.asks c ≡ Some (own.received c, answer))
  pub takers_needs : (c p q : ℕ) (i : Image) → IsCross net c p q → live.takes q ≡ true
      → Holds (records q) x live.number i → (records q).permanent.received c < i.received c
      → ((p ≡ x) × (i.received c ≤ own.sent c))
      ⊎ ((p ≢ x) × ((answer : Answer) × (live.asks c ≡ Some (i.received c, answer))))
  pub took : (c p q m : ℕ) → IsCross net c p q → live.asks c ≡ Some (m, By_took)
      → (live.takes p ≡ true) × ((i : Image) → Holds (records p) x live.number i → m ≤ i.sent c)
  pub covered : (c p q m : ℕ) → IsCross net c p q → live.asks c ≡ Some (m, By_covered)
      → m ≤ (records p).permanent.sent c
  -- whoever else holds an image of the instance was asked for it
  pub holders : (p : ℕ) (i : Image) → p ≢ x → Holds (records p) x live.number i → Unmet net records live p
  -- each count asked for, of another node, was received by the initiator's image or a taker's
  pub witnessed : (c m : ℕ) (answer : Answer) → live.asks c ≡ Some (m, answer)
      → (p : ℕ) × (q : ℕ) × (i : Image) × IsCross net c p q × ((q ≡ x) ⊎ (live.takes q ≡ true))
      × Holds (records q) x live.number i × (m ≡ i.received c) × (p ≢ x)
  pub needed : (p : ℕ) → live.takes p ≡ true → NeedOf net records x live p

-- Of the records of two nodes.
pub record Agreed (net : Net) (w : World) : Type 0 where
  pub highest : (p x : ℕ) → (w.records p).highest x ≤ (w.records x).highest x
  pub named : (x n p : ℕ) → (w.records x).decided n ≡ true → (w.records x).named n p ≡ true
      → n ≤ (w.records p).highest x
  pub holders : (x n p : ℕ) (i : Image) → p ≢ x → Holds (w.records p) x n i → (w.records x).decided n ≡ true
      → (w.records x).named n p ≡ true
  pub no_orphan : NoOrphan net (effective w.records)
  pub live : (x : ℕ) (live : Live) → IsLive w x live → (own : Image) × LiveOk net w.records x own live

-- each log reaches back to what its channel's consumer got for good
abbrev pub LogsKept : Net → World → Type 0
LogsKept net w =
    (c p q : ℕ) (i : Image) → IsCross net c p q → IsImageOf (node_of w p) i
    → i.base c ≤ (w.records q).permanent.received c

pub record AskSays (w : World) (x n c m p : ℕ) : Type 0 where
  pub used : n ≤ (w.records x).highest x
  pub asked : (live : Live) → IsLive w x live → live.number ≡ n → (answer : Answer) × (live.asks c ≡ Some (m, answer))
  pub closed : (w.records x).decided n ≡ true → (n ≤ (w.records p).highest x) ⊎ (m ≤ (w.records p).permanent.sent c)

pub record TookWhileLive (net : Net) (w : World) (x n c m p : ℕ) (needs : ℕ → Option ℕ) (live : Live) : Type 0 where
  pub other : p ≢ x
  pub answer : Answer
  pub asked : live.asks c ≡ Some (m, answer)
  pub image : Image
  pub held : Holds (w.records p) x n image
  pub above : (w.records p).permanent.sent c < m
  pub within : m ≤ image.sent c
  pub needs_of : AreNeeds net p (w.records p).permanent image needs

pub record TookSays (net : Net) (w : World) (x n c m p : ℕ) (needs : ℕ → Option ℕ) : Type 0 where
  pub seen : n ≤ (w.records p).highest x
  pub while_live : (live : Live) → IsLive w x live → live.number ≡ n → TookWhileLive net w x n c m p needs live

pub record CoveredSays (w : World) (x n c m p : ℕ) : Type 0 where
  pub used : n ≤ (w.records x).highest x
  pub asked : (live : Live) → IsLive w x live → live.number ≡ n → (answer : Answer) × (live.asks c ≡ Some (m, answer))
  pub put : m ≤ (w.records p).permanent.sent c

pub record CommitSays (w : World) (x p n : ℕ) : Type 0 where
  pub seen : n ≤ (w.records p).highest x
  pub held : (i : Image) → Holds (w.records p) x n i
      → ((w.records x).decided n ≡ true) × ((w.records x).named n p ≡ true)

pub record SettledSays (w : World) (p x n : ℕ) : Type 0 where
  pub seen : n ≤ (w.records p).highest x
  pub free : (i : Image) → Holds (w.records p) x n i → ⊥

-- what a packet tells of the world, from its sending on and for ever
abbrev pub Says : Net → World → Packet → Type 0
Says net w (Kept c m) = (p q : ℕ) → IsCross net c p q → m ≤ (w.records q).permanent.received c
Says net w (Ask x n c m) = (p q : ℕ) → IsCross net c p q → AskSays w x n c m p
Says net w (Took x n c m needs) = (p q : ℕ) → IsCross net c p q → TookSays net w x n c m p needs
Says net w (Covered x n c m) = (p q : ℕ) → IsCross net c p q → CoveredSays w x n c m p
Says net w (Query p x n) = n ≤ (w.records p).highest x
Says net w (Commit x p n) = CommitSays w x p n
Says net w (Ended x p n) = Over w x n
Says net w (Settled p x n) = SettledSays w p x n

pub record Consistent (net : Net) (w : World) : Type 0 where
  pub nodes : (k : ℕ) → NodeOk net k (node_of w k)
  pub agreed : Agreed net w
  pub logs : LogsKept net w
  pub packets : (packet : Packet) → InFlight w packet → Says net w packet
