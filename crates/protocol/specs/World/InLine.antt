-- What a crash at a moment of an event leaves: its line is in order, and checkpoints are coordinated there too.
use Rattle.std.specs.Prelude.{◌≡◌, ◌≢◌, ◌⊎◌, ℕ, ◌≤◌, Bool, true, false, List, [], None}
use Rattle.ckpt_codec.specs.Common.{Network, RecordView}
use Rattle.recovery_line.specs.Images.{Image, Net}
use Rattle.recovery_line.specs.Laws.{NamesTheNeeded}
use Rattle.recovery_line.specs.Line.{Sound, Covers, NoOrphan, NotBehind, Over, line_with}
use Rattle.recovery_line.specs.Records.{Record, Holds, effective}
use Rattle.recovery_line.specs.Worlds.{World}
use Rattle.protocol.specs.Join.Seen.{world_seen}
use Rattle.protocol.specs.World.RecoveryLine.{net_seen, outlets_seen, records_of, records_seen}
use Rattle.protocol.specs.World.StationView.{StationView}

-- The stations as the abstract machine sees them, but for what is in flight, of which nothing here speaks.
abbrev pub nodes_seen : List StationView → World
nodes_seen stations = world_seen stations []

-- What is promised of checkpoints of several nodes, of the nodes before an event and of the records that a crash at a
-- moment of it leaves.
pub record IsCoordinatedInside (net : Net) (before : World) (records : ℕ → Record) : Type 0 where
  -- An instance is decided only while all whom the decision names hold it.
  pub commits_while_held : (x n p : ℕ) → (before.records x).decided n ≡ false → (records x).decided n ≡ true
      → (records x).named n p ≡ true
      → (image : Image) × Holds (before.records p) x n image × Holds (records p) x n image
  -- A decided instance that a node holds stays held and decided until its image is the node's permanent one.
  pub stays_committed : (x n p : ℕ) (image : Image) → Holds (before.records p) x n image
      → (before.records x).decided n ≡ true
      → (Holds (records p) x n image × ((records x).decided n ≡ true))
      ⊎ (((records p).tentative ≡ None) × ((records p).permanent ≡ image))
  -- Whoever holds a decided instance is another node, which the decision names.
  pub holders_are_named : (x n p : ℕ) (image : Image) → Holds (records p) x n image → (records x).decided n ≡ true
      → (p ≢ x) × ((records x).named n p ≡ true)
  -- What was over before the event is over by these records: its number is used, and it isn't decided.
  pub stays_over : (x n : ℕ) → Over before x n → (n ≤ (records x).highest x) × ((records x).decided n ≡ false)
  -- No image becomes permanent whose instance was over before the event.
  pub over_stays_out : (k : ℕ)
      → ((records k).permanent ≡ (before.records k).permanent)
      ⊎ ((x : ℕ) × (n : ℕ) × Holds (before.records k) x n (records k).permanent × (Over before x n → ⊥))
  -- Whom a decision names had to take part, in the order in which they first said so.
  pub names_the_needed : (x n : ℕ) → (before.records x).decided n ≡ false → (records x).decided n ≡ true
      → NamesTheNeeded net before records x n
  -- No smaller set would do: were the initiator to take its image without one of them, the line had an orphan.
  pub no_smaller_decision : (x n p : ℕ) (part : ℕ → Bool) → (before.records x).decided n ≡ false
      → (records x).decided n ≡ true → (records x).named n p ≡ true → part x ≡ true → part p ≡ false
      → NoOrphan net (line_with before.records part) → ⊥

-- The line that follows from these records is sound: nobody has received what another would have to put again, and
-- nothing is lost that is still to be received or to leave. And it covers what has left these stations.
pub record IsLineOf (net : Network) (stations : List StationView) (records : List RecordView) : Type 0 where
  pub sound : Sound (net_seen net) (effective (records_seen records)) (outlets_seen stations)
  pub covers : Covers (net_seen net) (records_seen records) (outlets_seen stations)

-- What a crash in an event left is in line: the line of these records is one of what had left before the event, and of
-- what has left by its end; it isn't behind the line before the event; and checkpoints are coordinated by them.
pub record AreInLine (net : Network) (before after : List StationView) (records : List RecordView) : Type 0 where
  pub at_first : IsLineOf net before records
  pub at_last : IsLineOf net after records
  pub not_behind : NotBehind (records_seen (records_of before)) (records_seen records)
  pub coordinated : ∥ IsCoordinatedInside (net_seen net) (nodes_seen before) (records_seen records) ∥₁
