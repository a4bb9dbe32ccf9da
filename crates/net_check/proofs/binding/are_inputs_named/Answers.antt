use Rattle.std.proofs.lemmas.Grind.{elements}
use Rattle.std.proofs.Common.{arith}
use Rattle.net_check.proofs.binding.are_inputs_named.Goals as goal

pub returns : goal.returns
returns c = grind (arith, elements)

pub returns-then-not-is_named_if_input : goal.returns-then-not-is_named_if_input
returns-then-not-is_named_if_input c = grind (arith, elements)

pub loop-c-preserved : goal.loop-c-preserved
loop-c-preserved c = grind (arith, elements)
