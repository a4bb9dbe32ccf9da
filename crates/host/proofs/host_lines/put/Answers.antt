use Rattle.std.proofs.lemmas.Grind.{elements}
use Rattle.std.proofs.Common.{arith}
use Rattle.host.proofs.host_lines.put.Goals as goal

pub returns : goal.returns
returns g c = grind (arith, elements)

pub returns-then-waits : goal.returns-then-waits
returns-then-waits g c = grind (arith, elements)

pub returns-then-not-put_all : goal.returns-then-not-put_all
returns-then-not-put_all g c = grind (arith, elements)
