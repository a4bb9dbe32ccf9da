use Rattle.std.proofs.Common.{◌≡◌, drop}
use Rattle.kahn_net.specs.Common.{value_of, links_of, tree_of}
use Rattle.kahn_net.specs.Statements.{value_along}
use Rattle.stream_eq.proofs.evaluate.+value.Given as goal

abbrev pub invariant-loop-link : goal.invariant-loop-link
invariant-loop-link l =
    value_along (links_of (drop l.link-index l.link-items)) l.variables l.total
    ≡ value_of (tree_of l.fn.expr) l.fn.variables
