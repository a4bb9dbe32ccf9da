use Rattle.std.proofs.Common.{◌≡◌, drop}
use Rattle.net_text.specs.Trees.{block_tree}
use Rattle.net_check.specs.Texts.{past_line}
use Rattle.net_check.proofs.limits.+past.Given as goal

abbrev pub invariant-past_line-loop-statement : goal.invariant-past_line-loop-statement
invariant-past_line-loop-statement l =
    past_line l.open_yet l.round (block_tree (drop l.statement-index l.statements))
    ≡ past_line l.open_yet l.round (block_tree l.statements)
