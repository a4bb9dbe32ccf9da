use Rattle.std.proofs.Common.{◌≡◌, ◌++◌, reverse, take}
use Rattle.sector_disk.specs.Past.{states_of}
use Rattle.arrived.proofs.list.note_each.Given as goal

abbrev pub invariant-loop-item : goal.invariant-loop-item
invariant-loop-item l =
    reverse (states_of l.later) ≡ reverse (states_of l.initial.later) ++ take l.item-index l.items
