use Rattle.std.proofs.Common.{map, take}
use Rattle.net_text.specs.Trees.{link_tree, links_tree}
use Rattle.net_check.specs.Resolution.{ResolvesLinks, variable_names}
use Rattle.kahn_net.specs.Common.{links_of}
use Rattle.net_check.proofs.resolve.+resolve_expr.Given as goal

abbrev pub invariant-loop-link : goal.invariant-loop-link
invariant-loop-link l =
    ResolvesLinks (variable_names l.scope.variables.now) (links_tree (map link_tree (take l.link-index l.link-items)))
    (links_of l.resolved.items)
