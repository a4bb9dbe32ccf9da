use Rattle.std.proofs.Common.{◌≡◌, ◌++◌, drop}
use Rattle.protocol.specs.Node.Common.{items_from}
use Rattle.node_memory.proofs.granting.copy_items.Given as goal

-- what is listed, and then what is to come
abbrev pub invariant-loop-number : goal.invariant-loop-number
invariant-loop-number l =
    l.items.items ++ items_from l.inputs.came l.image l.inboxes l.process l.number (drop l.number l.channels)
    ≡ items_from l.inputs.came l.image l.inboxes l.process 0 l.channels
