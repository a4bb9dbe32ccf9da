use Rattle.std.proofs.Common.{◌≡◌, ◌++◌, map}
use Rattle.net_text.specs.Trees.{process_tree}
use Rattle.net_check.specs.Resolution.{channels_of, processes_of}
use Rattle.net_check.specs.Ready.{AreDeclared}
use Rattle.std.specs.Vec.Iter.{into_iter_items}
use Rattle.net_text.specs.Trees.{declaration_tree, net_tree}
use Rattle.net_check.proofs.declared.Declared.of.Given as goal

abbrev pub invariant-loop-declaration : goal.invariant-loop-declaration
invariant-loop-declaration l = record {
  declared : AreDeclared l.declared.channels.items (map process_tree l.declared.processes.items);
  channels : l.declared.channels.items ++ channels_of (map declaration_tree (into_iter_items l.declaration-iterator))
      ≡ channels_of (net_tree l.fn.text);
  processes : map process_tree l.declared.processes.items
      ++ processes_of (map declaration_tree (into_iter_items l.declaration-iterator))
      ≡ processes_of (net_tree l.fn.text);
}
