use Rattle.std.proofs.Common.{◌≡◌, ◌++◌, map, drop}
use Rattle.protocol.specs.World.Common.{output_channels}
use Rattle.std.specs.List.{AllByRecursion}
use Rattle.world.specs.OpeningWorld.{HasNotFailed, IsMade, IsUnused}
use Rattle.world.proofs.outputs.open_outputs.Given as goal

-- what is listed, and then what is to come
abbrev pub invariant-loop-number : goal.invariant-loop-number
invariant-loop-number g l =
    (map (λ output. output.channel) l.outputs.items ++ output_channels l.number (drop l.number l.channels)
    ≡ output_channels 0 l.channels)
    × AllByRecursion (IsUnused g.O.Outlet.taken) l.outputs.items
    × AllByRecursion (IsMade g.M.OutletMaker.makes) l.outputs.items
    × AllByRecursion HasNotFailed l.outputs.items
