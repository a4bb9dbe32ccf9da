use Rattle.std.proofs.Common.{◌≡◌}
use Rattle.protocol.specs.Node.Common.{popped_times}
use Rattle.node_memory.proofs.popping.pop_times.Given as goal

abbrev pub invariant-loop : goal.invariant-loop
invariant-loop l = l.window ≡ popped_times l.counter l.initial.window
