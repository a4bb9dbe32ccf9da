-- When each channel has its ends, and which has none.
use Rattle.std.specs.Prelude.{◌≡◌, ◌≢◌, ℕ, List, length, slice_get, Some}
use Rattle.net_text.specs.declared.tree.ChannelText.{ChannelText}
use Rattle.net_text.specs.declared.tree.Role.TheVariants.{Input, Output}
use Rattle.net_check.specs.declared.fault.NetFault.{NetFault}
use Rattle.net_check.specs.declared.fault.NetFault.TheVariants.{NoMemory, TwiceNamed, UnknownName, TwoProducers}
use Rattle.net_check.specs.declared.fault.NetFault.TheVariants.{TwoConsumers, LoopWithoutGet, Limit, NoProducer}
use Rattle.net_check.specs.declared.fault.NetFault.TheVariants.{NoConsumer, MissingInput}
use Rattle.kahn_net.specs.declared.program.Channel.{Channel}
use Rattle.kahn_net.specs.declared.program.Port.{Port}
use Rattle.kahn_net.specs.declared.program.Port.TheVariants.{Outside}

-- an end stands outside in an input or output alone
pub record HasItsEnds (channel : ChannelText) (producer consumer : Port) : Type 0 where
  pub input : producer ≡ Outside → channel.role ≡ Input
  pub output : consumer ≡ Outside → channel.role ≡ Output

-- the channels have these ends
pub record AreJoined (channels : List ChannelText) (producers consumers : List Port) (joined : List Channel) : Type 0
  where
    pub count : length joined ≡ length channels
    pub producer : (c : ℕ) (channel : Channel) → slice_get joined c ≡ Some channel
        → slice_get producers c ≡ Some channel.producer
    pub consumer : (c : ℕ) (channel : Channel) → slice_get joined c ≡ Some channel
        → slice_get consumers c ≡ Some channel.consumer
    pub ends : (c : ℕ) (declared : ChannelText) (channel : Channel) → slice_get channels c ≡ Some declared
        → slice_get joined c ≡ Some channel → HasItsEnds declared channel.producer channel.consumer

-- 16 or 17 at this channel
abbrev pub EndFault : ChannelText → Port → Port → NetFault → Type 0
EndFault channel producer consumer NoMemory = Unit {0}
EndFault channel producer consumer (NoProducer line) =
    (channel.role ≢ Input) × (producer ≡ Outside) × (channel.line ≡ line)
EndFault channel producer consumer (NoConsumer line) =
    (channel.role ≢ Output) × (consumer ≡ Outside) × (channel.line ≡ line)
EndFault channel producer consumer (TwiceNamed line) = ⊥
EndFault channel producer consumer (UnknownName line) = ⊥
EndFault channel producer consumer (TwoProducers line) = ⊥
EndFault channel producer consumer (TwoConsumers line) = ⊥
EndFault channel producer consumer (LoopWithoutGet line) = ⊥
EndFault channel producer consumer (Limit line) = ⊥
EndFault channel producer consumer MissingInput = ⊥

-- want of memory, or 16 or 17 at one of the channels
abbrev pub EndFaultAmong : List ChannelText → List Port → List Port → NetFault → Type 0
EndFaultAmong channels producers consumers NoMemory = Unit {0}
EndFaultAmong channels producers consumers (NoProducer line) =
    (c : ℕ) × (channel : ChannelText) × (slice_get channels c ≡ Some channel) × (channel.role ≢ Input)
    × (slice_get producers c ≡ Some Outside) × (channel.line ≡ line)
EndFaultAmong channels producers consumers (NoConsumer line) =
    (c : ℕ) × (channel : ChannelText) × (slice_get channels c ≡ Some channel) × (channel.role ≢ Output)
    × (slice_get consumers c ≡ Some Outside) × (channel.line ≡ line)
EndFaultAmong channels producers consumers (TwiceNamed line) = ⊥
EndFaultAmong channels producers consumers (UnknownName line) = ⊥
EndFaultAmong channels producers consumers (TwoProducers line) = ⊥
EndFaultAmong channels producers consumers (TwoConsumers line) = ⊥
EndFaultAmong channels producers consumers (LoopWithoutGet line) = ⊥
EndFaultAmong channels producers consumers (Limit line) = ⊥
EndFaultAmong channels producers consumers MissingInput = ⊥
