use Rattle.std.proofs.Common.{◌≡◌, take, map, length}
use Rattle.net_text.specs.Trees.{process_tree}
use Rattle.net_check.specs.Claims.{AreResolved}
use Rattle.kahn_net.specs.Common.{code_of}
use Rattle.net_check.proofs.resolve.resolve_all.Given as goal

abbrev pub invariant-loop-number : goal.invariant-loop-number
invariant-loop-number l = record {
  count : length l.resolved.items ≡ l.number;
  resolved : AreResolved l.channels (map process_tree (take l.number l.processes)) (map code_of l.resolved.items)
      l.ends.producers l.ends.consumers;
}
