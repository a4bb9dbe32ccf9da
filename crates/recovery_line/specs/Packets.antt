-- The packets that tell of checkpoints, and what a node does when one comes.
use Rattle.std.specs.Prelude.{◌≡◌, ◌≢◌, ◌⊎◌, ℕ, ◌≤◌, ◌<◌, true, Option, Some, None}
use Rattle.recovery_line.specs.Images.{Image, Net, IsCross}
use Rattle.recovery_line.specs.Records.{Holds}
use Rattle.recovery_line.specs.Moves.{Takes, Settles, Drops, Confirms}
use Rattle.recovery_line.specs.Nodes.{Answer, Awaited, By_took, By_covered, Live, Mode, Down, In_doubt, Running, Node}
use Rattle.recovery_line.specs.Nodes.{Unwritten, Trims}

pub data Packet : Type 0 where
  -- the channel's consumer got so many items for good
  Kept : (c m : ℕ) → Packet
  -- for instance n of x, so many items of the channel were received: its producer is asked to have put them for good
  Ask : (x n c m : ℕ) → Packet
  -- the producer took part, and what its image needs in turn, by channel
  Took : (x n c m : ℕ) (needs : ℕ → Option ℕ) → Packet
  -- the producer had put them for good before
  Covered : (x n c m : ℕ) → Packet
  -- p asks x for the verdict on instance n, and what it may get
  Query : (p x n : ℕ) → Packet
  Commit : (x p n : ℕ) → Packet
  Ended : (x p n : ℕ) → Packet
  -- p has done what the Commit said
  Settled : (p x n : ℕ) → Packet

-- what an image received above the permanent one, by channel from another node
pub record AreNeeds (net : Net) (p : ℕ) (permanent image : Image) (needs : ℕ → Option ℕ) : Type 0 where
  pub each : (c r : ℕ) → IsCross net c r p → permanent.received c < image.received c → needs c ≡ Some (image.received c)
  pub only : (c m : ℕ) → needs c ≡ Some m → (r : ℕ) × IsCross net c r p × (m ≡ image.received c)

-- what a node in doubt does once it knows: it restores its permanent image
abbrev pub after_verdict : Mode → Image → Mode
after_verdict Down permanent = Down
after_verdict In_doubt permanent = Running permanent None
after_verdict (Running current live) permanent = Running current live

-- What a log held for the channel's consumer goes.
pub record HearsKept (net : Net) (k : ℕ) (a b : Node) (c m : ℕ) : Type 0 where
  pub to : ℕ
  pub cross : IsCross net c k to
  pub before : Image
  pub later : Image
  pub live : Option Live
  pub trims : Trims a b c m before later live

-- A running node that holds nothing takes its current image for another's instance: it hasn't seen the
-- number, and the count is above its permanent image and within its current one.
pub record HearsAsk (net : Net) (k : ℕ) (a b : Node) (x n c m : ℕ) : Type 0 where
  pub to : ℕ
  pub cross : IsCross net c k to
  pub current : Image
  pub live : Option Live
  pub running : a.mode ≡ Running current live
  pub above : a.disk.permanent.sent c < m
  pub within : m ≤ current.sent c
  pub takes : Takes a.disk b.disk x n current
  pub mode : b.mode ≡ a.mode
  pub outlets : b.outlets ≡ a.outlets

-- The initiator learns that a node took part: that is the last of its takers where it wasn't one, and
-- each of its needs is compared with the initiator's own image or asked for.
pub record HearsTook (net : Net) (k : ℕ) (a b : Node) (n c : ℕ) (needs : ℕ → Option ℕ) : Type 0 where
  pub from : ℕ
  pub to : ℕ
  pub cross : IsCross net c from to
  pub current : Image
  pub own : Image
  pub before : Live
  pub later : Live
  pub same : Unwritten a b
  pub was : a.mode ≡ Running current (Some before)
  pub now : b.mode ≡ Running current (Some later)
  pub held : Holds a.disk k n own
  pub number : before.number ≡ n
  pub number_same : later.number ≡ before.number
  pub count : ℕ
  pub answer : Answer
  pub asked : before.asks c ≡ Some (count, answer)
  pub answered : later.asks c ≡ Some (count, By_took)
  pub asks_kept : (d j : ℕ) (answer : Answer) → d ≢ c → before.asks d ≡ Some (j, answer)
      → later.asks d ≡ Some (j, answer)
  pub asks_new : (d j : ℕ) (answer : Answer) → d ≢ c → later.asks d ≡ Some (j, answer)
      → (before.asks d ≡ Some (j, answer)) ⊎ ((needs d ≡ Some j) × (answer ≡ Awaited) × (net.producer d ≢ Some k))
  pub met : (d r j : ℕ) → IsCross net d r from → needs d ≡ Some j
      → ((r ≡ k) × (j ≤ own.sent d)) ⊎ ((r ≢ k) × (i : ℕ) × (answer : Answer) × (later.asks d ≡ Some (i, answer)))
  pub takes : later.takes from ≡ true
  pub takes_others : (p : ℕ) → p ≢ from → later.takes p ≡ before.takes p
  pub places : (p : ℕ) → before.takes p ≡ true → later.place p ≡ before.place p
  pub last : (before.takes from ≡ true) ⊎ ((p : ℕ) → before.takes p ≡ true → later.place p < later.place from)

-- The initiator learns that what it asked for was put for good.
pub record HearsCovered (a b : Node) (n c : ℕ) : Type 0 where
  pub current : Image
  pub before : Live
  pub later : Live
  pub same : Unwritten a b
  pub was : a.mode ≡ Running current (Some before)
  pub now : b.mode ≡ Running current (Some later)
  pub number : before.number ≡ n
  pub number_same : later.number ≡ before.number
  pub count : ℕ
  pub asked : before.asks c ≡ Some (count, Awaited)
  pub answered : later.asks c ≡ Some (count, By_covered)
  pub others : (d : ℕ) → d ≢ c → later.asks d ≡ before.asks d
  pub takes : later.takes ≡ before.takes
  pub place : later.place ≡ before.place

-- A node that holds the image makes it permanent.
pub record HearsCommit (a b : Node) (x n : ℕ) : Type 0 where
  pub image : Image
  pub up : a.mode ≢ Down
  pub settles : Settles a.disk b.disk x n image
  pub mode : b.mode ≡ after_verdict a.mode b.disk.permanent
  pub outlets : b.outlets ≡ a.outlets

-- A node that holds the image drops it.
pub record HearsEnded (a b : Node) (x n : ℕ) : Type 0 where
  pub image : Image
  pub up : a.mode ≢ Down
  pub drops : Drops a.disk b.disk x n image
  pub mode : b.mode ≡ after_verdict a.mode b.disk.permanent
  pub outlets : b.outlets ≡ a.outlets

-- The initiator learns that a node made its image permanent.
pub record HearsSettled (a b : Node) (p n : ℕ) : Type 0 where
  pub up : a.mode ≢ Down
  pub confirms : Confirms a.disk b.disk n p
  pub mode : b.mode ≡ a.mode
  pub outlets : b.outlets ≡ a.outlets

-- What the packet changes at node k. A Query changes nothing: it is only answered.
abbrev pub Hears : Net → ℕ → Packet → Node → Node → Type 0
Hears net k (Kept c m) a b = HearsKept net k a b c m
Hears net k (Ask x n c m) a b = HearsAsk net k a b x n c m
Hears net k (Took x n c m needs) a b = (x ≡ k) × HearsTook net k a b n c needs
Hears net k (Covered x n c m) a b = (x ≡ k) × HearsCovered a b n c
Hears net k (Query p x n) a b = ⊥
Hears net k (Commit x p n) a b = (p ≡ k) × HearsCommit a b x n
Hears net k (Ended x p n) a b = (p ≡ k) × HearsEnded a b x n
Hears net k (Settled p x n) a b = (x ≡ k) × HearsSettled a b p n

-- a verdict on an instance that isn't node k's own
abbrev pub IsByOther : ℕ → Packet → Type 0
IsByOther k (Commit x p n) = k ≢ x
IsByOther k (Ended x p n) = k ≢ x
IsByOther k packet = Unit {0}
