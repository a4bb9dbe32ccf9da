use Rattle.std.proofs.lemmas.Grind.{elements}
use Rattle.std.proofs.Common.{arith}
use Rattle.net_text.proofs.lexer.keyword_of.Goals as goal

pub returns-in-chan : goal.returns-in-chan
returns-in-chan c = grind (arith, elements)

pub returns-in-div : goal.returns-in-div
returns-in-div c = grind (arith, elements)

pub returns-in-else : goal.returns-in-else
returns-in-else c = grind (arith, elements)

pub returns-in-get : goal.returns-in-get
returns-in-get c = grind (arith, elements)

pub returns-in-if : goal.returns-in-if
returns-in-if c = grind (arith, elements)

pub returns-in-input : goal.returns-in-input
returns-in-input c = grind (arith, elements)

pub returns-in-kahn : goal.returns-in-kahn
returns-in-kahn c = grind (arith, elements)

pub returns-in-loop : goal.returns-in-loop
returns-in-loop c = grind (arith, elements)

pub returns-in-mod : goal.returns-in-mod
returns-in-mod c = grind (arith, elements)

pub returns-in-on : goal.returns-in-on
returns-in-on c = grind (arith, elements)

pub returns-in-output : goal.returns-in-output
returns-in-output c = grind (arith, elements)

pub returns-in-process : goal.returns-in-process
returns-in-process c = grind (arith, elements)

pub returns-in-put : goal.returns-in-put
returns-in-put c = grind (arith, elements)

pub returns-in-repeat : goal.returns-in-repeat
returns-in-repeat c = grind (arith, elements)

pub returns-in-stop : goal.returns-in-stop
returns-in-stop c = grind (arith, elements)

pub returns-in-to : goal.returns-in-to
returns-in-to c = grind (arith, elements)

pub returns-in-var : goal.returns-in-var
returns-in-var c = grind (arith, elements)

pub returns-in_default : goal.returns-in_default
returns-in_default c = grind (arith, elements)
