-- What comes to a station of a sound world may be heard.
use Rattle.std.proofs.Common.{◌≡◌, ℕ, Bool, true, false, List, All, Option, Some, None, option_map, ap, subst, ◌∙◌}
use Rattle.std.specs.Prelude.{slice_get}
use Rattle.protocol.specs.Node.Common.{Network, IsPacket, Packet, packet_for, hear_prospect, packets_by}
use Rattle.protocol.specs.World.Common.{is_due, flights_to, Flight, StationView, Setting, due_bytes, BytesAreSound}
use Rattle.protocol.specs.World.Common.{IsSoundSetting, IsSoundStation}
use Rattle.protocol.specs.World.Steps.{bytes_when}
use Rattle.protocol.specs.Node.Delivering.{IsHeard}
use Rattle.protocol_laws.specs.World.HeardLaws.{heard_right}
use Rattle.protocol_laws.specs.World.TellLaws.{heard_allowed}
use Rattle.protocol_laws.specs.World.TrafficLaws.{arrives_sound}
use Rattle.protocol.specs.declared.outcome.Outcome.{Outcome}

-- bytes that are due are those of a packet in flight
due_are : (round : ℕ) (flight : Option Flight) (bytes : List ℕ) → due_bytes round flight ≡ Some bytes
    → option_map (λ (f : Flight). f.packet) flight ≡ Some bytes
due_are round None bytes is = absurd (cc)
due_are round (Some flight) bytes is = at (is_due round flight) is
  where
    at : (due : Bool) → bytes_when due flight.packet ≡ Some bytes → Some flight.packet ≡ Some bytes
    at true here = here
    at false here = absurd (cc)

module _ (setting : Setting) (sure : IsSoundSetting setting) (old : StationView) (sound : IsSoundStation setting old)
    (k place : ℕ) (net : Network) (is : setting.net ≡ net) where
  came_sound : (bytes : List ℕ) → due_bytes setting.round (slice_get (flights_to setting.traffic k) place) ≡ Some bytes
      → BytesAreSound setting.net setting.inputs k bytes
  came_sound bytes due =
      arrives_sound setting.net setting.inputs setting.traffic k place bytes sure.traffic
      (due_are setting.round (slice_get (flights_to setting.traffic k) place) bytes due)

  pub arrives_heard : (bytes : List ℕ) (packet : Packet)
      → due_bytes setting.round (slice_get (flights_to setting.traffic k) place) ≡ Some bytes
      → packet_for net old.number bytes ≡ Some packet → IsHeard net old.number packet
  arrives_heard bytes packet due spelled =
      subst (λ (n : Network). IsHeard n old.number packet) is
      (heard_right setting.net setting.inputs old.number bytes k (came_sound bytes due) packet
      (ap (λ (n : Network). packet_for n old.number bytes) is ∙ spelled))

  pub arrives_allowed : (bytes : List ℕ) (packet : Packet)
      → due_bytes setting.round (slice_get (flights_to setting.traffic k) place) ≡ Some bytes
      → packet_for net old.number bytes ≡ Some packet → (came : Outcome)
      → All IsPacket (packets_by (hear_prospect net old.number packet.from packet.body old.node) came)
  arrives_allowed bytes packet due spelled came =
      subst
      (λ (n : Network). All IsPacket
      (packets_by (hear_prospect n old.number packet.from packet.body old.node) came)) is
      (heard_allowed setting.net setting.inputs sure.valid old sound.inv sound.named sound.below sound.joined bytes k
      (came_sound bytes due) packet (ap (λ (n : Network). packet_for n old.number bytes) is ∙ spelled) came)
