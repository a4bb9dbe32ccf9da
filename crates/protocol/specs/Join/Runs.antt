-- That a world has come about by steps of the abstract machine.
use Rattle.std.specs.Prelude.{◌≡◌, ℕ, List, [], ◌∷◌, Some, All, slice_get}
use Rattle.ckpt_codec.specs.Common.{Network}
use Rattle.wire.specs.Traffic.{Traffic, flights_to}
use Rattle.wire.specs.declared.queue.Flight.{Flight}
use Rattle.recovery_line.specs.Images.{Net}
use Rattle.recovery_line.specs.Packets.{Packet}
use Rattle.recovery_line.specs.Starts.{Reachable}
use Rattle.recovery_line.specs.Worlds.{World, Run}
use Rattle.protocol.specs.Join.Seen.{bytes_seen, world_seen}
use Rattle.protocol.specs.World.RecoveryLine.{net_seen}
use Rattle.protocol.specs.World.StationView.{StationView}

-- in each of these worlds the records are those of this one
abbrev pub KeepRecords : World → List World → Type 0
KeepRecords w [] = Unit {0}
KeepRecords w (u ∷ worlds) = (u.records ≡ w.records) × KeepRecords w worlds

-- of the steps that lead to these worlds none but the first writes a record
abbrev pub WriteAtFirst : List World → Type 0
WriteAtFirst [] = Unit {0}
WriteAtFirst (u ∷ worlds) = KeepRecords u worlds

-- Some steps lead from one world to another, of which none but the first writes a record. So what is true of two
-- worlds of which a step leads from one to the other, and speaks of their records alone, is true of these.
pub record Leads (net : Net) (w v : World) : Type 0 where
  pub worlds : List World
  pub run : Run net w worlds v
  pub once : WriteAtFirst worlds

abbrev pub WasSent : List Packet → Packet → Type 0
WasSent sent packet = (place : ℕ) × (slice_get sent place ≡ Some packet)

-- what bytes say of checkpoints, if they spell a packet, was sent
abbrev pub SaysWhatWasSent : List Packet → List ℕ → Type 0
SaysWhatWasSent sent bytes = (told : Packet) → bytes_seen bytes ≡ Some told → WasSent sent told

-- Whatever is in flight was sent.
abbrev pub Carries : Traffic → List Packet → Type 0
Carries traffic sent = (to : ℕ) → All (λ (f : Flight). SaysWhatWasSent sent f.packet) (flights_to traffic to)

-- A packet in flight to some node says this of checkpoints.
pub record IsInFlight (traffic : Traffic) (told : Packet) : Type 0 where
  pub to : ℕ
  pub place : ℕ
  pub flight : Flight
  pub there : slice_get (flights_to traffic to) place ≡ Some flight
  pub says : bytes_seen flight.packet ≡ Some told

-- Steps of the abstract machine lead to these stations from a world with which a run may begin, where just that is under
-- way which is in flight here.
pub record HasRun (net : Network) (stations : List StationView) (traffic : Traffic) : Type 0 where
  pub sent : List Packet
  pub reached : Reachable (net_seen net) (world_seen stations sent)
  pub carries : Carries traffic sent
  pub flown : (told : Packet) → WasSent sent told → IsInFlight traffic told

-- A world goes on: it has run, and steps lead from it to these stations, in which whatever is in flight then was sent,
-- if it wasn't in flight before. So what is true of two worlds of the machine of which one comes after the other is
-- true of these. What is sent in these steps need not be in flight: it may be lost, and may never really have been
-- sent, where a device failed in the event.
pub record RunsOn (net : Network) (before : List StationView) (traffic : Traffic) (after : List StationView)
    (flown : Traffic) : Type 0 where
  pub run : HasRun net before traffic
  pub sent : List Packet
  pub leads : Leads (net_seen net) (world_seen before run.sent) (world_seen after sent)
  pub carries : Carries flown sent
