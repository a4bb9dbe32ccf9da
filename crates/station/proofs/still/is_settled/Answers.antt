use Rattle.std.proofs.Common.{arith}
use Rattle.std.proofs.lemmas.Grind.{elements}
use Rattle.station.proofs.still.is_settled.Goals as goal

pub returns-else-have_come : goal.returns-else-have_come
returns-else-have_come g c = grind (arith, elements)

pub returns-then-have_come : goal.returns-then-have_come
returns-then-have_come g c = grind (arith, elements)
