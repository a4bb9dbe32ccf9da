use Rattle.std.proofs.Common.{◌≡◌, drop}
use Rattle.net_text.specs.Trees.{block_tree}
use Rattle.net_check.specs.Texts.{is_passing_text}
use Rattle.net_check.proofs.limits.+passing.Given as goal

abbrev pub invariant-is_passing-loop-statement : goal.invariant-is_passing-loop-statement
invariant-is_passing-loop-statement l =
    is_passing_text (block_tree (drop l.statement-index l.statements)) ≡ is_passing_text (block_tree l.statements)
