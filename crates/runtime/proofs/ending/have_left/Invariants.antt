use Rattle.std.proofs.Common.{◌≡◌, ℕ, ℤ, List, drop, length, map}
use Rattle.std.specs.Prelude.{nat_le}
use Rattle.std.specs.List.{list_all}
use Rattle.protocol.specs.World.Common.{output_channels, released_of}
use Rattle.world.specs.WholeView.{world_of}
use Rattle.runtime.proofs.ending.have_left.Given as goal

-- as those that weren't looked at yet
abbrev pub invariant-loop-number : goal.invariant-loop-number
invariant-loop-number g l =
    list_all (λ (stream : List ℤ). nat_le l.items (length stream))
    (map (λ (channel : ℕ). released_of channel (world_of l.world).stations)
    (output_channels l.number (drop l.number l.channels)))
    ≡ list_all (λ (stream : List ℤ). nat_le l.items (length stream))
    (map (λ (channel : ℕ). released_of channel (world_of l.world).stations) (output_channels 0 l.channels))
