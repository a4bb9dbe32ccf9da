use Rattle.std.proofs.Common.{◌≡◌, ◌++◌, take}
use Rattle.std.specs.List.{flat_map}
use Rattle.protocol.specs.Node.Telling.{decision_packets}
use Rattle.node_memory.proofs.telling.add_decisions.Given as goal

abbrev pub invariant-loop-decision : goal.invariant-loop-decision
invariant-loop-decision l =
    l.packets.items
    ≡ l.fn.packets.items ++ flat_map (decision_packets l.home) (take l.decision-index l.decisions)
