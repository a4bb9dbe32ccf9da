-- What may be in flight between the nodes of a network: packets that name what there is, and items that belong.
use Rattle.std.specs.Prelude.{◌≡◌, ℕ, ℤ, List, All, IsTrue}
use Rattle.kahn_net.specs.Common.{Belongs}
use Rattle.ckpt_codec.specs.Common.{Network}
use Rattle.datagram.specs.PacketText.{IsPacketText}
use Rattle.datagram.specs.declared.packet.Body.{Body}
use Rattle.datagram.specs.declared.packet.Body.TheVariants.{Data}
use Rattle.datagram.specs.declared.packet.Packet.{Packet}
use Rattle.wire.specs.Traffic.{Traffic, flights_to}
use Rattle.wire.specs.declared.queue.Flight.{Flight}
use Rattle.wire.specs.declared.sending.Sending.{Sending}
use Rattle.protocol.specs.Node.Addresses.{names_right}

-- this is an item of the channel, in some approximation
abbrev pub ItemBelongs : Network → List (List ℤ) → ℕ → ℕ → ℤ → Type 0
ItemBelongs net inputs channel position item = ∥ Belongs net inputs channel position item ∥₁

-- an item that is sent belongs
abbrev pub BodyIsSound : Network → List (List ℤ) → Body → Type 0
BodyIsSound net inputs (Data channel position item) = ItemBelongs net inputs channel position item
BodyIsSound net inputs body = Unit {0}

abbrev pub PacketIsSound : Network → List (List ℤ) → Packet → Type 0
PacketIsSound net inputs packet = BodyIsSound net inputs packet.body

-- the bytes spell a packet for this node, which names what there is, and of which each item belongs to its channel
pub record SpellsSound (net : Network) (inputs : List (List ℤ)) (to : ℕ) (bytes : List ℕ) : Type 0 where
  pub packet : Packet
  pub text : IsPacketText packet bytes
  pub here : packet.to ≡ to
  pub names : IsTrue (names_right net packet)
  pub sound : PacketIsSound net inputs packet

abbrev pub BytesAreSound : Network → List (List ℤ) → ℕ → List ℕ → Type 0
BytesAreSound net inputs to bytes = ∥ SpellsSound net inputs to bytes ∥₁

abbrev pub FlightIsSound : Network → List (List ℤ) → ℕ → Flight → Type 0
FlightIsSound net inputs to flight = BytesAreSound net inputs to flight.packet

-- a packet to be sent
abbrev pub SendingIsSound : Network → List (List ℤ) → Sending → Type 0
SendingIsSound net inputs sending = BytesAreSound net inputs sending.to sending.packet

-- what is in flight to each node spells a packet for it, with right names and items that belong to their channels
abbrev pub TrafficIsSound : Network → List (List ℤ) → Traffic → Type 0
TrafficIsSound net inputs traffic = (to : ℕ) → All (FlightIsSound net inputs to) (flights_to traffic to)
