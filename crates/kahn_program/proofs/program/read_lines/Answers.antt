use Rattle.std.proofs.lemmas.Grind.{elements}
use Rattle.std.proofs.Common.{arith}
use Rattle.kahn_program.proofs.program.read_lines.Goals as goal

pub returns-in_ok-lines-in-Some-clause-read : goal.returns-in_ok-lines-in-Some-clause-read
returns-in_ok-lines-in-Some-clause-read g c = grind (arith, elements)

pub returns-in-None-clause-goes : goal.returns-in-None-clause-goes
returns-in-None-clause-goes g c = grind (arith, elements)

pub returns-in_ok-lines-in-Some-clause-lines : goal.returns-in_ok-lines-in-Some-clause-lines
returns-in_ok-lines-in-Some-clause-lines g c = grind (arith, elements)
