-- The packets in flight to one node.
use Rattle.std.specs.Prelude.{ℕ, ◌+◌, Bool, nat_le, List, ◌++◌, slice_get, slice_set, slice_index, Option, Some, None}
use Rattle.std.specs.Prelude.{option_map, replicate, remove, All, IsTrue}
use Rattle.std.specs.Option.{option_to_list}
use Rattle.wire.specs.declared.rule.Fate.{Fate}
use Rattle.wire.specs.declared.queue.Flight.{Flight}
use Rattle.wire.specs.Rules.{capped}

-- the packets in order, how many each node has sent, and for how many more there is memory
pub record QueueState : Type 0 where
  pub flights : List Flight
  pub counts : List ℕ
  pub room : ℕ

abbrev pub flight : List ℕ → ℕ → Flight
flight packet due = record { packet = packet; due = due }

-- a packet in flight may be delivered in this round
abbrev pub is_due : ℕ → Flight → Bool
is_due round f = nat_le f.due round

-- with another packet in a place, if there is one
abbrev pub replaced : List Flight → ℕ → Option Flight → List Flight
replaced flights place None = flights
replaced flights place (Some f) = slice_set flights place f

abbrev pub with_delay : List Flight → ℕ → ℕ → List Flight
with_delay flights place rounds =
    replaced flights place (option_map (λ f. flight f.packet (capped (f.due + rounds))) (slice_get flights place))

-- one packet more was sent by this node
abbrev pub counted : List ℕ → ℕ → List ℕ
counted counts from = slice_set counts from (capped (slice_index counts from + 1))

-- the packet at a place is no longer in flight
abbrev pub without : QueueState → ℕ → QueueState
without queue place = record { flights = remove queue.flights place; counts = queue.counts; room = queue.room + 1 }

-- a packet's copy goes last, with the round of its original
abbrev pub with_copy : List Flight → ℕ → List Flight
with_copy flights place = flights ++ option_to_list (slice_get flights place)

-- what is put in flight of a packet that is sent in a round
abbrev pub flights_of : Fate → List ℕ → ℕ → List Flight
flights_of fate packet round = replicate fate.copies (flight packet (capped (round + fate.delay)))

-- each packet in flight passes a test
abbrev pub AllPackets : (List ℕ → Bool) → List Flight → Type 0
AllPackets test flights = All (λ f. IsTrue (test f.packet)) flights
