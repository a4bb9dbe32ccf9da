use Rattle.std.proofs.Common.{arith}
use Rattle.std.proofs.lemmas.Grind.{elements}
use Rattle.runtime.proofs.ending.end_by.Goals as goal

pub returns-then-have_left-clause-over : goal.returns-then-have_left-clause-over
returns-then-have_left-clause-over g c = grind (arith, elements)
