use Rattle.std.proofs.Common.{◌≡◌, ◌++◌}
use Rattle.std.specs.Vec.Iter.{into_iter_items}
use Rattle.world.specs.Closing.{all_outputs, disks_of}
use Rattle.world.proofs.closing.parts_of.Given as goal

-- what was given back, and then what is to come
abbrev pub invariant-loop-station : goal.invariant-loop-station
invariant-loop-station g l =
    (l.disks.items ++ disks_of (into_iter_items l.station-iterator) ≡ disks_of l.fn.stations.items)
    × (l.outputs.items ++ all_outputs (into_iter_items l.station-iterator) ≡ all_outputs l.fn.stations.items)
