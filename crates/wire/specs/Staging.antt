-- Packets that are to go last, before they do.
use Rattle.std.specs.Prelude.{◌≡◌, ◌⊎◌, ◌≤◌, ◌<◌, ◌+◌, ℕ, List, [], ◌∷◌, ◌++◌, length, map, All}
use Rattle.std.specs.List.{AllZip}
use Rattle.wire.specs.declared.queue.TheConstants.{NODES}
use Rattle.wire.specs.Index.{plain_fate}
use Rattle.wire.specs.Rules.{capped, fate_of}
use Rattle.wire.specs.Wire.{nth_in}
use Rattle.wire.specs.declared.rule.Rule.{Rule}
use Rattle.wire.specs.declared.sending.Sending.{Sending}
use Rattle.wire.specs.Queue.{QueueState}
use Rattle.wire.specs.RoomFor.{FindsRoom}
use Rattle.wire.specs.Traffic.{AreNodes, QueueTraffic, Traffic, all_sent, queues_traffic, traffic_at}

-- these go last in a queue, which counts as they do
abbrev pub joined : QueueTraffic → QueueTraffic → QueueTraffic
joined queue more = record { flights = queue.flights ++ more.flights; counts = more.counts }

-- and so in each
abbrev pub all_joined : List QueueTraffic → List QueueTraffic → List QueueTraffic
all_joined [] more = []
all_joined (queue ∷ queues) [] = queue ∷ queues
all_joined (queue ∷ queues) (first ∷ more) = joined queue first ∷ all_joined queues more

-- and with what is to go last
abbrev pub behind : List QueueTraffic → Traffic → Traffic
behind queues more = record { queues = all_joined queues more.queues; rules = more.rules }

-- what was sent already is counted, and nothing is to go last
abbrev pub unsent : QueueTraffic → QueueTraffic
unsent queue = record { flights = []; counts = queue.counts }

-- there is memory for them
abbrev pub HasRoom : QueueState → QueueState → Type 0
HasRoom queue more = length more.flights ≤ queue.room

-- queues, seen with these rules
abbrev pub ruled : List Rule → List QueueState → Traffic
ruled rules queues = record { queues = queues_traffic queues; rules = rules }

-- These were made ready to be sent one after the other in a round, where as many were sent before as of this traffic.
abbrev pub IsStaged : Traffic → ℕ → List Sending → List QueueState → Type 0
IsStaged traffic round sendings staged =
    ruled traffic.rules staged
    ≡ all_sent round sendings (record { queues = map unsent traffic.queues; rules = traffic.rules })

-- Which packet from its node to the one that it is for the next of these is, and which one so many others behind it are.
abbrev pub number_of : Traffic → ℕ → Sending → ℕ
number_of traffic ahead sending = capped (nth_in (traffic_at traffic sending.to).counts sending.from + ahead)

-- No rule is for any of so many packets that come next from the node that sends this one to the one that it is for.
abbrev pub IsFree : Traffic → ℕ → Sending → Type 0
IsFree traffic count sending =
    (ahead : ℕ) → ahead < count
    → fate_of traffic.rules sending.from sending.to (number_of traffic ahead sending) ≡ plain_fate

-- the same with these rules
abbrev pub with_rules : List Rule → Traffic → Traffic
with_rules rules traffic = record { queues = traffic.queues; rules = rules }

-- what is in flight with these packets sent, where no rule is for any of them
abbrev pub by_no_rule : ℕ → List Sending → Traffic → Traffic
by_no_rule round sendings traffic =
    with_rules traffic.rules (all_sent round sendings (with_rules [] traffic))

-- a queue has no less memory than before
abbrev pub HasNoLessRoom : QueueState → QueueState → Type 0
HasNoLessRoom old new = old.room ≤ new.room

-- ---- a batch

-- Packets that are ready to be sent in a round: as they are, where no rule is for any of them, or a queue for each node
-- with what is to go last there.
pub record BatchState : Type 0 where
  pub straight : List Sending
  pub round : ℕ
  pub queues : List QueueState

-- These are ready to be sent in a round: as they are, where no rule is for any of them, or staged in queues.
abbrev pub IsReady : Traffic → ℕ → List Sending → BatchState → Type 0
IsReady traffic round sendings batch =
    (All (IsFree traffic (length sendings)) sendings × (batch.straight ≡ sendings) × (batch.round ≡ round) × (batch.queues ≡ []))
    ⊎ ((batch.straight ≡ []) × (length batch.queues ≡ NODES) × IsStaged traffic round sendings batch.queues)

-- there is memory for what is to go last in each queue, if anything is
abbrev pub HasPlaces : List QueueState → List QueueState → Type 0
HasPlaces queues [] = Unit {0}
HasPlaces queues (first ∷ more) = AllZip HasRoom queues (first ∷ more)

-- a batch can be sent without memory: its packets are from nodes to nodes, and there is room for each
pub record HasRoomFor (queues : List QueueState) (batch : BatchState) : Type 0 where
  pub nodes : All AreNodes batch.straight
  pub straight : All (FindsRoom queues (length batch.straight)) batch.straight
  pub behind : HasPlaces queues batch.queues

-- a batch is of packets from nodes to nodes, or of a queue for each node
abbrev pub IsBatch : BatchState → Type 0
IsBatch batch =
    (All AreNodes batch.straight × (batch.queues ≡ [])) ⊎ ((batch.straight ≡ []) × (length batch.queues ≡ NODES))
