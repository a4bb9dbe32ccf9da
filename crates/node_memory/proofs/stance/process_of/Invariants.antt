use Rattle.std.proofs.Common.{◌≡◌, ◌==◌, drop, find}
use Rattle.protocol.specs.Node.Common.{SavedProcessView}
use Rattle.node_memory.proofs.stance.process_of.Given as goal

-- the process is among those that weren't looked at yet
abbrev pub invariant-loop-saved : goal.invariant-loop-saved
invariant-loop-saved l =
    find (λ (saved : SavedProcessView). saved.number == l.process) (drop l.saved-index l.saved-items)
    ≡ find (λ (saved : SavedProcessView). saved.number == l.process) l.image.processes
