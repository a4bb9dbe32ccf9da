-- What is true of a station where checkpoints are coordinated, beside what is true of every station: what it collects
-- and keeps may be said to other nodes.
use Rattle.std.specs.Prelude.{◌≡◌, ◌≢◌, ℕ, ◌<◌, ◌≤◌, true, length, Some, slice_get}
use Rattle.datagram.specs.PacketText.{IsPositive}
use Rattle.ckpt_codec.specs.Common.{node_count, Network, MAX_COUNT, DecisionView, received_of, ImageView, RecordView}
use Rattle.ckpt_codec.specs.Common.{Tentative, MAX_DECISIONS}
use Rattle.recovery_line.specs.Nodes.{Answer}
use Rattle.recovery_line.specs.Observers.{has_node}
use Rattle.protocol.specs.Node.Beginning.{live_in}
use Rattle.protocol.specs.Join.Seen.{questions_seen}
use Rattle.protocol.specs.Node.Addresses.{are_nodes, producer_node}
use Rattle.protocol.specs.Node.Layout.{is_incoming, is_outgoing}
use Rattle.protocol.specs.Node.LiveView.{LiveView}
use Rattle.protocol.specs.World.StationView.{StationView}

-- another node of the network
pub record IsOther (net : Network) (home p : ℕ) : Type 0 where
  pub below : p < node_count net
  pub apart : p ≢ home

-- so many items of this channel may be asked for: the node that puts on it is another one, from which it goes
pub record IsQuestion (net : Network) (home c m : ℕ) : Type 0 where
  pub positive : IsPositive m
  pub nodes : are_nodes net home (producer_node net c) ≡ true
  pub goes : is_outgoing net (producer_node net c) c ≡ true

-- What a node collects has a place for each channel of the network; its number and each question may be written; and
-- whoever took part is another node.
pub record LiveIsSound (net : Network) (home : ℕ) (live : LiveView) : Type 0 where
  pub wide : length live.questions ≡ length net.channels
  pub number : IsPositive live.number
  pub questions : (c m : ℕ) (answer : Answer) → questions_seen live.questions c ≡ Some (m, answer)
      → IsQuestion net home c m
  pub takers : (p : ℕ) → has_node p live.takers ≡ true → IsOther net home p

-- what an image received of each channel from another node may be asked for
abbrev pub MayBeAskedFor : Network → ℕ → ImageView → Type 0
MayBeAskedFor net home image = (c : ℕ) → is_incoming net home c ≡ true → received_of image c ≤ MAX_COUNT

pub record HeldIsSound (net : Network) (home : ℕ) (held : Tentative) : Type 0 where
  pub initiator : held.initiator < node_count net
  pub number : IsPositive held.number
  pub counts : MayBeAskedFor net home held.image

pub record DecisionIsSound (net : Network) (home : ℕ) (decision : DecisionView) : Type 0 where
  pub number : IsPositive decision.number
  pub others : (p : ℕ) → has_node p decision.participants ≡ true → IsOther net home p

-- A record lists a number for each node of the network; what it holds and what it decided may be said; and while an
-- image of the node's own is held there is room for one decision more.
pub record KeepsNodes (net : Network) (home : ℕ) (kept : RecordView) : Type 0 where
  pub listed : length kept.highest ≡ node_count net
  pub held : (held : Tentative) → kept.tentative ≡ Some held → HeldIsSound net home held
  pub decisions : (i : ℕ) (d : DecisionView) → slice_get kept.decisions i ≡ Some d → DecisionIsSound net home d
  pub room : (held : Tentative) → kept.tentative ≡ Some held → held.initiator ≡ home
      → length kept.decisions < MAX_DECISIONS

-- So it is of a station's record, and of what its node collects.
pub record IsJoined (net : Network) (station : StationView) : Type 0 where
  pub kept : KeepsNodes net station.number station.node.kept
  pub live : (live : LiveView) → live_in station.node.mode ≡ Some live → LiveIsSound net station.number live
