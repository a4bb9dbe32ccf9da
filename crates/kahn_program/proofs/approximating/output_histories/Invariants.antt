use Rattle.std.proofs.Common.{◌≡◌, ◌++◌, ℕ, drop, map}
use Rattle.protocol.specs.Node.Common.{history_of}
use Rattle.protocol.specs.World.Common.{output_channels}
use Rattle.kahn_program.proofs.approximating.output_histories.Given as goal

-- what was listed, and then what is to come
abbrev pub invariant-loop-number : goal.invariant-loop-number
invariant-loop-number l =
    l.streams.items
    ++ map (λ (channel : ℕ). history_of l.histories channel) (output_channels l.number (drop l.number l.channels))
    ≡ map (λ (channel : ℕ). history_of l.histories channel) (output_channels 0 l.channels)
