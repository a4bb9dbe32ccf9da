use Rattle.std.proofs.Common.{◌≡◌, ◌++◌, map}
use Rattle.std.specs.Vec.Iter.{into_iter_items}
use Rattle.net_text.specs.Trees.{process_tree}
use Rattle.net_check.specs.Resolution.{process_names}
use Rattle.net_check.proofs.names.names_of_processes.Given as goal

abbrev pub invariant-loop-process : goal.invariant-loop-process
invariant-loop-process l =
    l.names.items ++ process_names (map process_tree (into_iter_items l.process-iterator))
    ≡ process_names (map process_tree l.fn.processes.items)
