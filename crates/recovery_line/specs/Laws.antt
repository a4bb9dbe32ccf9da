-- The theorems: of one node by itself, of each step, and of every run of steps from a world with which one may begin.
use Rattle.std.specs.Prelude.{◌≡◌, ◌≢◌, ◌⊎◌, ℕ, ◌≤◌, ◌<◌, Bool, true, false, Some, None, List}
use Rattle.recovery_line.specs.Images.{Image, AtMost, Net, IsCross, IsLocal, IsOutput}
use Rattle.recovery_line.specs.Records.{Record, Holds, effective}
use Rattle.recovery_line.specs.Moves.{Move}
use Rattle.recovery_line.specs.Nodes.{Live, current_of, Node}
use Rattle.recovery_line.specs.Packets.{Packet, Ask, Ended, Hears, IsByOther}
use Rattle.recovery_line.specs.Worlds.{World, node_of, IsLive, InFlight, opening, MaySend, Step, Run, Alone}
use Rattle.recovery_line.specs.Starts.{IsStart, Reachable}
use Rattle.recovery_line.specs.Line.{Sound, Covers, NotBehind, Over, AtMoment, line_with, NoOrphan}
use Rattle.recovery_line.specs.Invariant.{NodeOk, NeedOf, Says, Consistent}

-- one node

abbrev pub NodeOpens : Type 0
NodeOpens = (net : Net) (k : ℕ) → NodeOk net k (node_of opening k)

-- whatever steps it makes by itself
abbrev pub NodeStaysOk : Type 0
NodeStaysOk =
    (net : Net) (k : ℕ) (a b : Node) (nodes : List Node) → NodeOk net k a → Alone net k a nodes b → NodeOk net k b

-- and when a packet comes, where a verdict is on another's instance
abbrev pub NodeHearsOk : Type 0
NodeHearsOk =
    (net : Net) (k : ℕ) (packet : Packet) (a b : Node) → NodeOk net k a → IsByOther k packet → Hears net k packet a b
    → NodeOk net k b

-- The node can restart from its permanent image, and its current log has what is still to be released of that.
pub record CanRestart (net : Net) (k : ℕ) (a : Node) : Type 0 where
  pub no_orphan : (c : ℕ) → IsLocal net c k → a.disk.permanent.received c ≤ a.disk.permanent.sent c
  pub nothing_lost : (c : ℕ) → IsLocal net c k → a.disk.permanent.base c ≤ a.disk.permanent.received c
  pub outputs : (c : ℕ) → IsOutput net c k → a.disk.permanent.base c ≤ a.outlets c
  pub covers : (c : ℕ) → IsOutput net c k → a.outlets c ≤ a.disk.permanent.sent c
  pub in_log : (c : ℕ) (i : Image) → IsOutput net c k → current_of a.mode ≡ Some i
      → (i.base c ≤ a.outlets c) × (a.disk.permanent.sent c ≤ i.sent c)

abbrev pub NodeIsSound : Type 0
NodeIsSound = (net : Net) (k : ℕ) (a : Node) → NodeOk net k a → CanRestart net k a

-- The line has its permanent image, while it holds no image of another's instance: its own is never effective.
abbrev pub OwnIsNotEffective : Type 0
OwnIsNotEffective =
    (net : Net) (w : World) (k : ℕ) → NodeOk net k (node_of w k)
    → ((x n : ℕ) (i : Image) → Holds (w.records k) x n i → x ≡ k)
    → effective w.records k ≡ (w.records k).permanent

abbrev pub NodeNeverFallsBack : Type 0
NodeNeverFallsBack = (net : Net) (k : ℕ) (a b : Node) (nodes : List Node) → NodeOk net k a → Alone net k a nodes b
    → AtMost a.disk.permanent b.disk.permanent × ((c : ℕ) → a.outlets c ≤ b.outlets c)

-- steps

-- a run may begin with the opening world
abbrev pub Opens : Type 0
Opens = (net : Net) → IsStart net opening

-- each world with which a run may begin is consistent
abbrev pub StartsConsistently : Type 0
StartsConsistently = (net : Net) (w : World) → IsStart net w → Consistent net w

abbrev pub StaysConsistent : Type 0
StaysConsistent = (net : Net) (w v : World) → Consistent net w → Step net w v → Consistent net v

abbrev pub IsTrueWhenSent : Type 0
IsTrueWhenSent = (net : Net) (w : World) (packet : Packet) → Consistent net w → MaySend net w packet → Says net w packet

abbrev pub StaysTrue : Type 0
StaysTrue =
    (net : Net) (w v : World) (worlds : List World) (packet : Packet) → Consistent net w → Run net w worlds v
    → Says net w packet → Says net v packet

-- at most one node's record differs, by at most one write
pub record AtMostOneMove (w v : World) : Type 0 where
  pub node : ℕ
  pub others : (j : ℕ) → j ≢ node → v.records j ≡ w.records j
  pub move : (v.records node ≡ w.records node) ⊎ Move (w.records node) (v.records node)
  -- no step both writes a record and appends to an outlet
  pub either : (v.records ≡ w.records) ⊎ (v.outlets ≡ w.outlets)

abbrev pub MovesAtMostOnce : Type 0
MovesAtMostOnce = (net : Net) (w v : World) → Step net w v → AtMostOneMove w v

-- runs

-- each step, and each run, leads from a reachable world to another
abbrev pub RunsOn : Type 0
RunsOn = (net : Net) (w v : World) (worlds : List World) → Reachable net w → Run net w worlds v → Reachable net v

abbrev pub IsConsistent : Type 0
IsConsistent = (net : Net) (w : World) → Reachable net w → Consistent net w

-- the line is sound at every moment of every step
abbrev pub LineIsSound : Type 0
LineIsSound =
    (net : Net) (w v : World) (records : ℕ → Record) (outlets : ℕ → ℕ) → Reachable net w → Step net w v
    → AtMoment w v records outlets
    → Sound net (effective records) outlets

-- and it covers what was released
abbrev pub LineCovers : Type 0
LineCovers =
    (net : Net) (w v : World) (records : ℕ → Record) (outlets : ℕ → ℕ) → Reachable net w → Step net w v
    → AtMoment w v records outlets
    → Covers net records outlets

-- no line that is possible at a later moment is behind
abbrev pub LineNeverFallsBack : Type 0
LineNeverFallsBack =
    (net : Net) (w u v : World) (worlds : List World) (records : ℕ → Record) (outlets : ℕ → ℕ) → Reachable net w
    → Run net w worlds u → Step net u v → AtMoment u v records outlets
    → NotBehind w.records records × ((c : ℕ) → w.outlets c ≤ outlets c)

-- a decision is written only while all whom it names hold the instance
abbrev pub CommitsWhileHeld : Type 0
CommitsWhileHeld = (net : Net) (w v : World) (x n p : ℕ) → Reachable net w → Step net w v
    → (w.records x).decided n ≡ false → (v.records x).decided n ≡ true → (v.records x).named n p ≡ true
    → (i : Image) × Holds (w.records p) x n i × Holds (v.records p) x n i

-- the image of a committed instance stays where it is, and committed, until it is permanent there
abbrev pub StaysCommitted : Type 0
StaysCommitted = (net : Net) (w v : World) (x n p : ℕ) (i : Image) → Reachable net w → Step net w v
    → Holds (w.records p) x n i → (w.records x).decided n ≡ true
    → (Holds (v.records p) x n i × ((v.records x).decided n ≡ true))
    ⊎ (((v.records p).tentative ≡ None) × ((v.records p).permanent ≡ i))

-- whoever holds a committed instance is named by its decision
abbrev pub HoldersAreNamed : Type 0
HoldersAreNamed = (net : Net) (w : World) (x n p : ℕ) (i : Image) → Reachable net w
    → Holds (w.records p) x n i → (w.records x).decided n ≡ true → (p ≢ x) × ((w.records x).named n p ≡ true)

abbrev pub EndedIsOver : Type 0
EndedIsOver =
    (net : Net) (w : World) (x p n : ℕ) → Reachable net w → MaySend net w (Ended x p n) ⊎ InFlight w (Ended x p n)
    → Over w x n

abbrev pub StaysOver : Type 0
StaysOver =
    (net : Net) (w v : World) (worlds : List World) (x n : ℕ) → Reachable net w → Run net w worlds v → Over w x n
    → Over v x n

-- a permanent image stays, or is replaced by one held for an instance that wasn't over
abbrev pub OverStaysOut : Type 0
OverStaysOut = (net : Net) (w v : World) (k : ℕ) → Reachable net w → Step net w v
    → ((v.records k).permanent ≡ (w.records k).permanent)
    ⊎ ((x : ℕ) × (n : ℕ) × Holds (w.records k) x n (v.records k).permanent × (Over w x n → ⊥))

-- Each taker has a channel of which the initiator's image, or that of a taker whose Took came earlier,
-- received more than the taker's permanent image has put.
abbrev pub TakersAreNeeded : Type 0
TakersAreNeeded =
    (net : Net) (w : World) (x p : ℕ) (live : Live) → Reachable net w → IsLive w x live → live.takes p ≡ true
    → NeedOf net w.records x live p

-- While its initiator collects answers for an instance: in the line in which the initiator takes its image,
-- and of the takers a part that leaves one out, there is an orphan.
abbrev pub NoSmallerSet : Type 0
NoSmallerSet = (net : Net) (w : World) (x p : ℕ) (live : Live) (part : ℕ → Bool) → Reachable net w → IsLive w x live
    → part x ≡ true → live.takes p ≡ true → part p ≡ false → NoOrphan net (line_with w.records part) → ⊥

-- Whom a decision names had to take part: the instance was live before, and each of them a taker that was needed, as
-- takers are, in the order in which they first said so.
pub record NamesTheNeeded (net : Net) (w : World) (records : ℕ → Record) (x n : ℕ) : Type 0 where
  pub live : Live
  pub is : IsLive w x live
  pub number : live.number ≡ n
  pub takers : (p : ℕ) → (records x).named n p ≡ true → live.takes p ≡ true
  pub needed : (p : ℕ) → (records x).named n p ≡ true → NeedOf net w.records x live p

abbrev pub DecidesForTheNeeded : Type 0
DecidesForTheNeeded = (net : Net) (w v : World) (x n : ℕ) → Reachable net w → Step net w v
    → (w.records x).decided n ≡ false → (v.records x).decided n ≡ true → NamesTheNeeded net w v.records x n

-- So it is when it decides, with those whom its decision names.
abbrev pub NoSmallerDecision : Type 0
NoSmallerDecision = (net : Net) (w v : World) (x n p : ℕ) (part : ℕ → Bool) → Reachable net w → Step net w v
    → (w.records x).decided n ≡ false → (v.records x).decided n ≡ true → (v.records x).named n p ≡ true
    → part x ≡ true → part p ≡ false → NoOrphan net (line_with w.records part) → ⊥

-- While the instance is live, its initiator or one of its takers received this many items of the channel in its
-- tentative image.
pub record Wanted (net : Net) (w : World) (x n c m : ℕ) : Type 0 where
  pub live : Live
  pub is : IsLive w x live
  pub number : live.number ≡ n
  pub by : ℕ
  pub to : net.consumer c ≡ Some by
  pub image : Image
  pub held : Holds (w.records by) x n image
  pub one_of : (by ≡ x) ⊎ (live.takes by ≡ true)
  pub received : m ≡ image.received c

-- An image of x's instance n that a node holds has received this many items of the channel.
pub record IsReceived (net : Net) (records : ℕ → Record) (x n c m : ℕ) : Type 0 where
  pub by : ℕ
  pub to : net.consumer c ≡ Some by
  pub image : Image
  pub held : Holds (records by) x n image
  pub received : m ≡ image.received c

-- so it was at some world on the way
pub record WantedBefore (net : Net) (w : World) (x n c m : ℕ) : Type 0 where
  pub world : World
  pub reached : Reachable net world
  pub worlds : List World
  pub since : Run net world worlds w
  pub wanted : Wanted net world x n c m

-- whatever is asked for was received by an image of the instance
abbrev pub AsksForNeeds : Type 0
AsksForNeeds =
    (net : Net) (w : World) (x n c m : ℕ) → Reachable net w → InFlight w (Ask x n c m) → WantedBefore net w x n c m

-- an Ask that is in flight behind a step was so before it, or its count was received by an image of its instance that is
-- held then
abbrev pub AsksAsReceived : Type 0
AsksAsReceived = (net : Net) (w v : World) (x n c m : ℕ) → Reachable net w → Step net w v → InFlight v (Ask x n c m)
    → InFlight w (Ask x n c m) ⊎ IsReceived net v.records x n c m

-- the Ask that made node p take an image of another's instance: p's permanent image hadn't put so many, and its new one
-- has
pub record Needed (net : Net) (w v : World) (p x n : ℕ) (i : Image) : Type 0 where
  pub channel : ℕ
  pub count : ℕ
  pub to : ℕ
  pub cross : IsCross net channel p to
  pub asked : InFlight w (Ask x n channel count)
  pub above : (w.records p).permanent.sent channel < count
  pub within : count ≤ i.sent channel
  pub wanted : (live : Live) → IsLive w x live → live.number ≡ n → Wanted net w x n channel count

-- a node takes an image of another's instance only where that one is needed
abbrev pub TakesWhereNeeded : Type 0
TakesWhereNeeded = (net : Net) (w v : World) (p x n : ℕ) (i : Image) → Reachable net w → Step net w v → p ≢ x
    → Holds (v.records p) x n i → Holds (w.records p) x n i ⊎ Needed net w v p x n i

-- some run reaches a decision that names another node
abbrev pub ReachesADecision : Type 0
ReachesADecision =
    (net : Net) × (w : World) × (x : ℕ) × (n : ℕ) × (p : ℕ) × Reachable net w × ((w.records x).decided n ≡ true)
    × ((w.records x).named n p ≡ true) × (p ≢ x)
