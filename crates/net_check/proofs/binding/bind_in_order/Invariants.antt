use Rattle.std.proofs.Common.{◌≡◌, ◌++◌, map}
use Rattle.std.specs.Vec.Iter.{into_iter_items}
use Rattle.net_text.specs.Trees.{input_tree, inputs_tree}
use Rattle.net_check.specs.Bound.{AreBound}
use Rattle.kahn_net.specs.Common.{network_of}
use Rattle.net_check.proofs.binding.bind_in_order.Given as goal

abbrev pub invariant-loop-line : goal.invariant-loop-line
invariant-loop-line l = record {
  bound : AreBound l.net.channel_names.items (network_of l.net.program) (map input_tree l.yielded)
      l.binding.lists.items l.binding.named.items;
  lines : map input_tree l.yielded ++ map input_tree (into_iter_items l.line-iterator) ≡ inputs_tree l.fn.inputs;
}
