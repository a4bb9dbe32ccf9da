use Rattle.std.proofs.Common.{◌≡◌, ◌++◌, drop}
use Rattle.kahn_net.specs.Common.{links_of, tree_of}
use Rattle.proc_code.specs.Translation.{code_to, count_links, links_code, operand_behind, operand_of}
use Rattle.proc_code.proofs.emitting.+emit_expr.Given as goal

abbrev pub invariant-loop-link : goal.invariant-loop-link
invariant-loop-link l =
    (l.code.items ++ links_code l.fn.to l.left (links_of (drop l.link-index l.link-items))
    ≡ l.fn.code.items ++ code_to l.fn.to (tree_of l.fn.expr))
    × (operand_behind l.left (links_of (drop l.link-index l.link-items)) ≡ operand_of (tree_of l.fn.expr))
    × (l.later ≡ count_links (links_of (drop l.link-index l.link-items)))
