use Rattle.std.proofs.lemmas.Grind.{elements}
use Rattle.std.proofs.Common.{arith}
use Rattle.std.proofs.lemmas.Grind.{common_steps}
use Rattle.net_text.proofs.lexer.gap_len.Goals as goal

pub returns-clause-within : goal.returns-clause-within
returns-clause-within c = grind (arith, elements)

pub returns-then-not-is_white-clause-within : goal.returns-then-not-is_white-clause-within
returns-then-not-is_white-clause-within c = grind (arith, elements)

pub loop-i-preserved : goal.loop-i-preserved
loop-i-preserved c = grind (arith, common_steps)
