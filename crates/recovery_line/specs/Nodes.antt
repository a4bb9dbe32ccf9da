-- A node, and those of its steps for which no packet has to come.
use Rattle.std.specs.Prelude.{◌≡◌, ◌≢◌, ◌⊎◌, ℕ, ◌≤◌, ◌<◌, ◌+◌, Bool, true, Option, Some, None}
use Rattle.recovery_line.specs.Images.{Image, Net, IsCross, IsLocal, IsOutput}
use Rattle.recovery_line.specs.Records.{Record, Holds}
use Rattle.recovery_line.specs.Moves.{Takes, Decides, Drops}

-- how a question was answered
pub data Answer : Type 0 where
  Awaited : Answer
  By_took : Answer
  By_covered : Answer

-- An instance for which its initiator still collects answers: by channel the count asked for, who took,
-- and the places of these in the order in which they first said so.
pub record Live : Type 0 where
  pub number : ℕ
  pub asks : ℕ → Option (ℕ × Answer)
  pub takes : ℕ → Bool
  pub place : ℕ → ℕ

-- every question is answered
abbrev pub AllAnswered : Live → Type 0
AllAnswered live = (c m : ℕ) → live.asks c ≢ Some (m, Awaited)

-- A node in doubt waits for the verdict on an image of another's instance.
pub data Mode : Type 0 where
  Down : Mode
  In_doubt : Mode
  Running : (current : Image) (live : Option Live) → Mode

abbrev pub current_of : Mode → Option Image
current_of Down = None
current_of In_doubt = None
current_of (Running current live) = Some current

abbrev pub live_of : Mode → Option Live
live_of Down = None
live_of In_doubt = None
live_of (Running current live) = live

-- a node with the record on its disk, its mode, and how many items each outlet has
pub record Node : Type 0 where
  pub disk : Record
  pub mode : Mode
  pub outlets : ℕ → ℕ

-- Nothing is written: neither the record nor an outlet.
pub record Unwritten (a b : Node) : Type 0 where
  pub disk : b.disk ≡ a.disk
  pub outlets : b.outlets ≡ a.outlets

-- The log of a channel begins where it began; or the channel stays on the node, and its log lets go of items that were
-- got there.
abbrev pub LetsGoOfGot : Net → ℕ → Image → Image → ℕ → Type 0
LetsGoOfGot net k before later c =
    (later.base c ≡ before.base c)
    ⊎ (IsLocal net c k × (before.base c ≤ later.base c) × (later.base c ≤ later.received c))

-- Processes get and put items.
pub record Works (net : Net) (k : ℕ) (a b : Node) (before later : Image) (live : Option Live) : Type 0 where
  pub same : Unwritten a b
  pub was : a.mode ≡ Running before live
  pub now : b.mode ≡ Running later live
  pub received : (c : ℕ) → before.received c ≤ later.received c
  pub base : (c : ℕ) → LetsGoOfGot net k before later c
  pub sent : (c : ℕ) → before.sent c ≤ later.sent c
  pub local : (c : ℕ) → IsLocal net c k → later.received c ≤ later.sent c

-- The log of one channel loses what comes before a position.
pub record Trims (a b : Node) (c to : ℕ) (before later : Image) (live : Option Live) : Type 0 where
  pub same : Unwritten a b
  pub was : a.mode ≡ Running before live
  pub now : b.mode ≡ Running later live
  pub rises : before.base c ≤ to
  pub within : to ≤ before.sent c
  pub base : later.base c ≡ to
  pub others : (d : ℕ) → d ≢ c → later.base d ≡ before.base d
  pub received : later.received ≡ before.received
  pub sent : later.sent ≡ before.sent

-- how far the log of a channel that leads to no other node may be trimmed
pub data Unneeded (net : Net) (k : ℕ) (a : Node) (current : Image) (c to : ℕ) : Type 0 where
  Got : IsLocal net c k → to ≤ current.received c → Unneeded net k a current c to
  Released : IsOutput net c k → to ≤ a.outlets c → Unneeded net k a current c to

-- An outlet gets the next item, one that the permanent image has put.
pub record Releases (net : Net) (k : ℕ) (a b : Node) (c : ℕ) (current : Image) (live : Option Live) : Type 0 where
  pub output : IsOutput net c k
  pub running : a.mode ≡ Running current live
  pub covered : a.outlets c < a.disk.permanent.sent c
  pub longer : b.outlets c ≡ a.outlets c + 1
  pub others : (d : ℕ) → d ≢ c → b.outlets d ≡ a.outlets d
  pub mode : b.mode ≡ a.mode
  pub disk : b.disk ≡ a.disk

-- A node that holds no tentative image goes back to its permanent one.
pub record RollsBack (a b : Node) (current : Image) (live : Option Live) : Type 0 where
  pub same : Unwritten a b
  pub was : a.mode ≡ Running current live
  pub free : a.disk.tentative ≡ None
  pub now : b.mode ≡ Running a.disk.permanent None

pub record Crashes (a b : Node) : Type 0 where
  pub same : Unwritten a b
  pub now : b.mode ≡ Down

-- A node comes up with no tentative image, and restores the permanent one.
pub record Restores (a b : Node) : Type 0 where
  pub same : Unwritten a b
  pub was : a.mode ≡ Down
  pub free : a.disk.tentative ≡ None
  pub now : b.mode ≡ Running a.disk.permanent None

-- A node comes up with an image of an instance of its own, drops that, and restores the permanent one.
pub record Forgets (k : ℕ) (a b : Node) (x n : ℕ) (image : Image) : Type 0 where
  pub own : x ≡ k
  pub drops : Drops a.disk b.disk x n image
  pub was : a.mode ≡ Down
  pub now : b.mode ≡ Running a.disk.permanent None
  pub outlets : b.outlets ≡ a.outlets

-- A node comes up with an image of another's instance, and keeps it.
pub record Doubts (k : ℕ) (a b : Node) (x n : ℕ) (image : Image) : Type 0 where
  pub same : Unwritten a b
  pub was : a.mode ≡ Down
  pub other : x ≢ k
  pub held : Holds a.disk x n image
  pub now : b.mode ≡ In_doubt

-- What is asked for an image: on each channel from another node of which it received more than the
-- permanent image.
pub record AsksNeeds (net : Net) (k : ℕ) (permanent image : Image) (asks : ℕ → Option (ℕ × Answer)) : Type 0 where
  pub each : (c p : ℕ) → IsCross net c p k → permanent.received c < image.received c
      → asks c ≡ Some (image.received c, Awaited)
  pub only : (c m : ℕ) (answer : Answer) → asks c ≡ Some (m, answer)
      → (p : ℕ) × IsCross net c p k × (m ≡ image.received c) × (answer ≡ Awaited)

-- A node that holds nothing takes its current image for a new instance of its own, and asks for its needs.
pub record Starts (net : Net) (k : ℕ) (a b : Node) (current : Image) (live : Live) : Type 0 where
  pub was : a.mode ≡ Running current None
  pub number : live.number ≡ a.disk.highest k + 1
  pub takes : Takes a.disk b.disk k live.number current
  pub asks : AsksNeeds net k a.disk.permanent current live.asks
  pub nobody : (p : ℕ) → live.takes p ≢ true
  pub now : b.mode ≡ Running current (Some live)
  pub outlets : b.outlets ≡ a.outlets

-- The initiator drops its image, and asks no more.
pub record GivesUp (k : ℕ) (a b : Node) (current image : Image) (live : Live) : Type 0 where
  pub was : a.mode ≡ Running current (Some live)
  pub drops : Drops a.disk b.disk k live.number image
  pub now : b.mode ≡ Running current None
  pub outlets : b.outlets ≡ a.outlets

-- Every question is answered, and the initiator decides.
pub record Concludes (k : ℕ) (a b : Node) (current image : Image) (live : Live) : Type 0 where
  pub was : a.mode ≡ Running current (Some live)
  pub answered : AllAnswered live
  pub decides : Decides a.disk b.disk k live.number image live.takes
  pub now : b.mode ≡ Running current None
  pub outlets : b.outlets ≡ a.outlets

-- The steps that node k makes by itself.
pub data NodeStep (net : Net) (k : ℕ) (a b : Node) : Type 0 where
  Work : (before later : Image) (live : Option Live) → Works net k a b before later live → NodeStep net k a b
  Trim : (c to : ℕ) (before later : Image) (live : Option Live) → Unneeded net k a before c to
      → Trims a b c to before later live → NodeStep net k a b
  Release : (c : ℕ) (current : Image) (live : Option Live) → Releases net k a b c current live → NodeStep net k a b
  Roll_back : (current : Image) (live : Option Live) → RollsBack a b current live → NodeStep net k a b
  Crash : Crashes a b → NodeStep net k a b
  Restore : Restores a b → NodeStep net k a b
  Forget : (x n : ℕ) (image : Image) → Forgets k a b x n image → NodeStep net k a b
  Doubt : (x n : ℕ) (image : Image) → Doubts k a b x n image → NodeStep net k a b
  Start : (current : Image) (live : Live) → Starts net k a b current live → NodeStep net k a b
  Give_up : (current image : Image) (live : Live) → GivesUp k a b current image live → NodeStep net k a b
  Conclude : (current image : Image) (live : Live) → Concludes k a b current image live → NodeStep net k a b
