use Rattle.std.proofs.Common.{◌≡◌, ◌++◌, map, take, drop}
use Rattle.protocol.specs.Node.Common.{saved_counted}
use Rattle.node_memory.proofs.installing.count_all.Given as goal

abbrev pub invariant-loop-saved : goal.invariant-loop-saved
invariant-loop-saved l =
    l.saved-items
    ≡ map (saved_counted l.channels l.process l.taken) (take l.saved-index l.initial.saved-items)
    ++ drop l.saved-index l.initial.saved-items
