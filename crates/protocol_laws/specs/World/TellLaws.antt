-- What a station sends may be in flight, or has a spelling: in its turn, and as it begins, decides and hears.
use Rattle.std.proofs.Common.{◌≡◌, ◌<◌, List, ℤ, All, map, Option, Some, None, refl}
use Rattle.std.specs.Prelude.{◌==◌}
use Rattle.std.specs.List.{flat_map}
use Rattle.std.proofs.lemmas.List.Elements.{All-append, All-nil}
use Rattle.protocol.specs.Node.Common.{node_count, Network, IsValid, live_asks, live_in, LiveView, is_none, Down}
use Rattle.protocol.specs.Node.Common.{InDoubt, ModeView, Runs, running_in, running_node, inbox_packets, IsWritable}
use Rattle.protocol.specs.Node.Common.{kept_packet, turn_packets, incoming_on, IsLaidOut, IsPacket, Packet, names_run}
use Rattle.protocol.specs.Node.Common.{start_prospect, packet_for, hear_prospect, packets_by, decide_prospect}
use Rattle.protocol.specs.Node.Common.{RunningView}
use Rattle.protocol.specs.World.Common.{IsJoined, LiveIsSound, StationInvariant, outputs_of, StationView}
use Rattle.protocol.specs.World.Common.{MayBeAskedFor, BytesAreSound}
use Rattle.protocol_laws.specs.Join.Spelled.{all_sendable, asks_sendable, told_sendable}
use Rattle.protocol.specs.Node.Telling.{undone_packets, verdicts_told}
use Rattle.protocol_laws.specs.Node.RestoreLaws.{received_few}
use Rattle.protocol_laws.specs.World.SendLaws.{IsSendable, inboxes_sendable, kept_sendable, outboxes_sendable, undone_sendable}
use Rattle.datagram.specs.Reading.{whole_at}
use Rattle.protocol_laws.specs.Join.Keeps.{current_counts}
use Rattle.protocol_laws.specs.Join.Sayable.{ProspectSays, begins_says, concludes_says, hears_says, says_allowed}
use Rattle.protocol_laws.specs.World.HeardLaws.{named_here, right_is, whole_written}
use Rattle.protocol.specs.declared.outcome.Outcome.{Outcome}
use Rattle.std.proofs.Common.{sym, subst, ℕ, ap, ◌∙◌}

module _ (net : Network) (inputs : List (List ℤ)) (valid : IsValid net) (station : StationView)
    (inv : StationInvariant net inputs station) (named : station.node.kept.node ≡ station.number)
    (below : station.number < node_count net) (joined : IsJoined net station) where
  asked : (o : Option LiveView) → ((live : LiveView) → o ≡ Some live → LiveIsSound net station.number live)
      → All (IsSendable net inputs) (live_asks net station.number o)
  asked None sound = All-nil (IsSendable net inputs)
  asked (Some live) sound =
      all_sendable net inputs (live_asks net station.number (Some live))
      (asks_sendable net inputs valid station.number below live (sound live refl))

  in_mode : (mode : ModeView) → station.node.mode ≡ mode
      → All (IsSendable net inputs) (turn_packets net station.number station.node.kept mode)
  in_mode Down is = All-nil (IsSendable net inputs)
  in_mode InDoubt is =
      All-append (IsSendable net inputs)
      (map (kept_packet net station.number station.node.kept.permanent) (incoming_on net station.number)) _
      (kept_sendable net inputs valid station.number station.node.kept.permanent
      (λ c comes. received_few net station.number inputs station.node.kept.permanent c
      (subst (λ (n : ℕ). IsLaidOut net n station.node.kept.permanent) named inv.kept.permanent.laid_out)
      inv.kept.permanent.counts comes))
      (all_sendable net inputs (verdicts_told station.number station.node.kept)
      (told_sendable net inputs valid station.number below station.node.kept joined.kept))
  in_mode (Runs running) is =
      let node = running_node station.node.kept station.node.version running in
      let runs = inv.runs node (ap (running_in station.node.kept station.node.version) is) in
      All-append (IsSendable net inputs)
      (flat_map (inbox_packets net station.number station.node.kept.permanent) running.inboxes)
      _ (inboxes_sendable net inputs valid station.number (outputs_of station.outlets) node named runs)
      (All-append (IsSendable net inputs) (undone_packets net station.number station.node.kept.epoch running.outboxes)
      _ (undone_sendable net inputs valid station.number (outputs_of station.outlets) node named runs
      inv.kept.epoch (station.node.kept.epoch == 0))
      (All-append (IsSendable net inputs) (live_asks net station.number running.live)
      _ (asked running.live (λ live e. joined.live live (ap live_in is ∙ e)))
      (All-append (IsSendable net inputs) (verdicts_told station.number station.node.kept)
      _ (all_sendable net inputs (verdicts_told station.number station.node.kept)
      (told_sendable net inputs valid station.number below station.node.kept joined.kept))
      (outboxes_sendable net inputs valid station.number (outputs_of station.outlets) node named runs
      (is_none station.node.kept.tentative)))))

  pub turn_sendable : All (IsSendable net inputs)
      (turn_packets net station.number station.node.kept station.node.mode)
  turn_sendable = in_mode station.node.mode refl

  -- and what it sends may be written
  pub station_writable : All IsWritable (turn_packets net station.number station.node.kept station.node.mode)
  station_writable =
      (let may : All (IsSendable net inputs) (turn_packets net station.number station.node.kept station.node.mode) =
      turn_sendable in
      λ k d within. (may k d within).writable)

  -- ---- what it begins, decides, and hears

  -- what it has now may be asked for
  counts : (running : RunningView) → station.node.mode ≡ Runs running
      → MayBeAskedFor net station.number running.current
  counts running runs =
      let node = running_node station.node.kept station.node.version running in
      subst (λ (n : ℕ). MayBeAskedFor net n running.current) named
      (current_counts net station.node.kept.node inputs valid
      (subst (λ (n : ℕ). n < node_count net) (sym named) below) node
      (inv.runs node (ap (running_in station.node.kept station.node.version) runs)).sound.kept.links)

  pub begins_said : ProspectSays net inputs station.number (start_prospect net station.number station.node)
  begins_said =
      begins_says net inputs valid station.number below station.node joined.kept joined.live counts

  pub decides_said : ProspectSays net inputs station.number (decide_prospect station.number station.node)
  decides_said =
      concludes_says net inputs valid station.number below station.node joined.kept joined.live counts

  pub hears_said : (bytes : List ℕ) (to : ℕ) → BytesAreSound net inputs to bytes → (packet : Packet)
      → packet_for net station.number bytes ≡ Some packet
      → ProspectSays net inputs station.number
      (hear_prospect net station.number packet.from packet.body station.node)
  hears_said bytes to says packet is =
      let right = named_here net station.number bytes packet is in
      hears_says net inputs valid station.number below station.node joined.kept joined.live counts
      packet.from packet.body
      (whole_written net inputs packet to bytes says
      (right_is net station.number (whole_at bytes) packet is).0)
      (ap (λ (n : ℕ). names_run net packet.from n packet.body) (sym right.0) ∙ right.1)

  -- What it sends then has a spelling, however that comes out: of a start, of a decision, and of a packet for it that
  -- sound bytes spell.
  pub start_allowed : (came : Outcome)
      → All IsPacket (packets_by (start_prospect net station.number station.node) came)
  start_allowed =
      says_allowed net inputs station.number (start_prospect net station.number station.node) begins_said

  pub decide_allowed : (came : Outcome) → All IsPacket (packets_by (decide_prospect station.number station.node) came)
  decide_allowed = says_allowed net inputs station.number (decide_prospect station.number station.node) decides_said

  pub heard_allowed : (bytes : List ℕ) (to : ℕ) → BytesAreSound net inputs to bytes → (packet : Packet)
      → packet_for net station.number bytes ≡ Some packet → (came : Outcome)
      → All IsPacket (packets_by (hear_prospect net station.number packet.from packet.body station.node) came)
  heard_allowed bytes to says packet is =
      says_allowed net inputs station.number
      (hear_prospect net station.number packet.from packet.body station.node) (hears_said bytes to says packet is)
