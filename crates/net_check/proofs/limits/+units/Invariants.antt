use Rattle.std.proofs.Common.{◌≡◌, ◌+◌, drop}
use Rattle.net_text.specs.Trees.{block_tree}
use Rattle.net_check.specs.Texts.{block_units_text}
use Rattle.net_check.proofs.limits.+units.Given as goal

abbrev pub invariant-units_after-loop-statement : goal.invariant-units_after-loop-statement
invariant-units_after-loop-statement l =
    l.rest + block_units_text (block_tree l.statements)
    ≡ l.left + block_units_text (block_tree (drop l.statement-index l.statements))
