use Rattle.std.proofs.lemmas.Grind.{elements}
use Rattle.std.proofs.Common.{arith}
use Rattle.net_check.proofs.inputs.are_inner_empty.Goals as goal

pub returns : goal.returns
returns c = grind (arith, elements)

pub returns-then-not-is_empty_where_made : goal.returns-then-not-is_empty_where_made
returns-then-not-is_empty_where_made c = grind (arith, elements)

pub loop-c-preserved : goal.loop-c-preserved
loop-c-preserved c = grind (arith, elements)
