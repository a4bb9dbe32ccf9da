use Rattle.std.proofs.Common.{◌≡◌, ◌++◌, take, drop}
use Rattle.protocol.specs.Node.Common.{standing_of, moved}
use Rattle.node_memory.proofs.installing.move_process.Given as goal

abbrev pub invariant-loop-k : goal.invariant-loop-k
invariant-loop-k l =
    (l.processes.items ≡ l.initial.processes.items)
    × (moved l.process (standing_of l.state) l.processes.items
    ≡ take l.k l.processes.items ++ moved l.process (standing_of l.state) (drop l.k l.processes.items))
