-- The recovery line of a world: what all nodes restart from, if they crash together. The words of the line are those of
-- the abstract machine (the crate `recovery_line`); here stands how a world is seen there, and what it is for a line to
-- be in order.
use Rattle.std.specs.Prelude.{◌≡◌, ◌⊎◌, ◌==◌, if◌then◌else◌, ℕ, List, [], ◌∷◌, map, length, Option, Some, None}
use Rattle.std.specs.Prelude.{slice_get}
use Rattle.ckpt_codec.specs.Common.{Network, RecordView}
use Rattle.recovery_line.specs.Images.{Net}
use Rattle.recovery_line.specs.Line.{NotBehind}
use Rattle.recovery_line.specs.Observers.{record_seen}
use Rattle.recovery_line.specs.Records.{Record, new_record}
use Rattle.protocol.specs.Node.Layout.{producer_of, consumer_of}
use Rattle.protocol.specs.Node.Plans.{next_record}
use Rattle.protocol.specs.World.EventView.{EventView, ByNode, ByNetwork, Install, Release, event_node}
use Rattle.protocol.specs.World.Released.{released_of}
use Rattle.protocol.specs.World.StationView.{StationView}
use Rattle.protocol.specs.World.Steps.{Setting, plan_of}

-- ---- the record that an event puts

-- The record that an event puts at a station, where it puts one, and else the one that is kept: that of the plan of a
-- deed that can happen.
abbrev pub next_kept : Setting → EventView → StationView → RecordView
next_kept setting (ByNode k deed) station = next_record (plan_of setting k deed station).prospect station.node.kept
next_kept setting (Install done) station = station.node.kept
next_kept setting (Release k) station = station.node.kept
next_kept setting (ByNetwork k place act) station = station.node.kept

-- of any station of a world in which the event happens: no other station's record is put
abbrev pub next_for : Setting → EventView → StationView → RecordView
next_for setting event station =
    if station.number == event_node event then next_kept setting event station else station.node.kept

-- ---- a world as the abstract machine sees it

-- a network as the abstract machine sees it: the nodes at the two ends of each channel
abbrev pub net_seen : Network → Net
net_seen net =
    record {
      producer = λ c. producer_of net (slice_get net.channels c);
      consumer =
          λ c. consumer_of net (slice_get net.channels c);
    }

abbrev pub record_or_new : Option RecordView → Record
record_or_new None = new_record
record_or_new (Some kept) = record_seen kept

-- the record of each node as the abstract machine sees it, by the node's number; a new one where there is no such
-- node
abbrev pub records_seen : List RecordView → ℕ → Record
records_seen records node = record_or_new (slice_get records node)

-- how many items have left by each channel, as the abstract machine sees it
abbrev pub outlets_seen : List StationView → ℕ → ℕ
outlets_seen stations c = length (released_of c stations)

-- the records that the nodes keep
abbrev pub records_of : List StationView → List RecordView
records_of stations = map (λ (station : StationView). station.node.kept) stations

-- ---- lines in order

-- Lines that follow one another: one that isn't behind a second isn't behind what the second isn't behind.
abbrev pub LinesFollow : Type 0
LinesFollow =
    (first second third : ℕ → Record) → NotBehind first second → NotBehind second third → NotBehind first third

-- ---- the records that a crash inside an event leaves

-- a record of each station: the one of before, or the next one
abbrev pub AreEither : List RecordView → List RecordView → List RecordView → Type 0
AreEither [] [] [] = Unit {0}
AreEither [] [] (r ∷ records) = ⊥
AreEither [] (n ∷ nexts) records = ⊥
AreEither (k ∷ kepts) [] records = ⊥
AreEither (k ∷ kepts) (n ∷ nexts) [] = ⊥
AreEither (k ∷ kepts) (n ∷ nexts) (r ∷ records) = ((r ≡ k) ⊎ (r ≡ n)) × AreEither kepts nexts records
