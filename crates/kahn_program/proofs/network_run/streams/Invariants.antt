use Rattle.std.proofs.Common.{◌≡◌, ◌++◌, ℕ, drop, map}
use Rattle.protocol.specs.World.Common.{output_channels, released_of}
use Rattle.cobaltmidge.specs.Common.{world_of}
use Rattle.kahn_program.specs.Runs.{first_items}
use Rattle.kahn_program.proofs.network_run.streams.Given as goal

-- what was listed, and then what is to come
abbrev pub invariant-loop-number : goal.invariant-loop-number
invariant-loop-number g l =
    l.streams.items
    ++ map (λ (channel : ℕ). first_items l.cut (released_of channel (world_of l.world).stations))
    (output_channels l.number (drop l.number l.channels))
    ≡ map (λ (channel : ℕ). first_items l.cut (released_of channel (world_of l.world).stations))
    (output_channels 0 l.channels)
