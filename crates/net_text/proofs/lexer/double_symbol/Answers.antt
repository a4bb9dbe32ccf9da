use Rattle.std.proofs.lemmas.Grind.{elements}
use Rattle.std.proofs.Common.{arith}
use Rattle.net_text.proofs.lexer.double_symbol.Goals as goal

pub returns-in-33 : goal.returns-in-33
returns-in-33 c = grind (arith, elements)

pub returns-in-60 : goal.returns-in-60
returns-in-60 c = grind (arith, elements)

pub returns-in-61 : goal.returns-in-61
returns-in-61 c = grind (arith, elements)

pub returns-in-62 : goal.returns-in-62
returns-in-62 c = grind (arith, elements)

pub returns-in_default : goal.returns-in_default
returns-in_default c = grind (arith, elements)

pub returns-in_default-3 : goal.returns-in_default-3
returns-in_default-3 c = grind (arith, elements)

pub returns-in_default-4 : goal.returns-in_default-4
returns-in_default-4 c = grind (arith, elements)

pub returns-in_default-5 : goal.returns-in_default-5
returns-in_default-5 c = grind (arith, elements)

pub returns-in_default-6 : goal.returns-in_default-6
returns-in_default-6 c = grind (arith, elements)
