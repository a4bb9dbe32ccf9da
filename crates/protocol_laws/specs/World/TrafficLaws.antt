-- Laws of what is in flight: whatever becomes of it, it stays sound, and what arrives of it is.
use Rattle.std.proofs.Common.{◌≡◌, ℕ, ℤ, List, All, Some, option_map, refl}
use Rattle.std.specs.Prelude.{IsTrue, slice_get}
use Rattle.protocol.specs.Node.Common.{Network, Packet, names_right}
use Rattle.datagram.specs.PacketText.{IsPacketText}
use Rattle.wire.proofs.Passing.{arrived_passes}
use Rattle.protocol.specs.World.Common.{Traffic, flights_to, traffic_without, all_sent, opening_traffic, Sending}
use Rattle.protocol.specs.World.Common.{BytesAreSound, TrafficIsSound}
use Rattle.wire.specs.Traffic.{traffic_delayed, traffic_repeated}
use Rattle.protocol_laws.specs.World.FlightLaws.{all_sent_holds, delayed_holds, gone_holds, opened_holds, repeated_holds}
use Rattle.protocol.specs.World.Traffic.{PacketIsSound, SendingIsSound}

-- What is in flight

module _ (net : Network) (inputs : List (List ℤ)) where
  -- what is spelled by a packet that is right and sound
  pub spelled_sound : (packet : Packet) (bytes : List ℕ) → IsPacketText packet bytes → IsTrue (names_right net packet)
      → PacketIsSound net inputs packet
      → BytesAreSound net inputs packet.to bytes
  spelled_sound packet bytes text names sound =
      ∣ record { packet = packet; text = text; here = refl; names = names; sound = sound } ∣₁

  pub traffic_opened : TrafficIsSound net inputs opening_traffic
  traffic_opened = opened_holds (BytesAreSound net inputs)

  -- one is taken or lost
  pub gone_sound : (traffic : Traffic) (to place : ℕ) → TrafficIsSound net inputs traffic
      → TrafficIsSound net inputs (traffic_without traffic to place)
  gone_sound = gone_holds (BytesAreSound net inputs)

  pub delayed_sound : (traffic : Traffic) (to place rounds : ℕ) → TrafficIsSound net inputs traffic
      → TrafficIsSound net inputs (traffic_delayed traffic to place rounds)
  delayed_sound = delayed_holds (BytesAreSound net inputs)

  pub repeated_sound : (traffic : Traffic) (to place : ℕ) → TrafficIsSound net inputs traffic
      → TrafficIsSound net inputs (traffic_repeated traffic to place)
  repeated_sound = repeated_holds (BytesAreSound net inputs)

  -- packets are sent
  pub all_sent_sound : (round : ℕ) (sendings : List Sending) (traffic : Traffic) → TrafficIsSound net inputs traffic
      → All (SendingIsSound net inputs) sendings
      → TrafficIsSound net inputs (all_sent round sendings traffic)
  all_sent_sound = all_sent_holds (BytesAreSound net inputs)

  -- the bytes at a place are sound
  pub arrives_sound : (traffic : Traffic) (to place : ℕ) (bytes : List ℕ) → TrafficIsSound net inputs traffic
      → option_map (λ f. f.packet) (slice_get (flights_to traffic to) place) ≡ Some bytes
      → BytesAreSound net inputs to bytes
  arrives_sound traffic to place bytes sound is =
      arrived_passes (BytesAreSound net inputs to) (flights_to traffic to) place bytes (sound to) is
