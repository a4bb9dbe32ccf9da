use Rattle.std.proofs.Common.{arith}
use Rattle.std.proofs.lemmas.Grind.{elements}
use Rattle.station.proofs.station.Station.is_complete.Goals as goal

pub returns-then-are_at_rest : goal.returns-then-are_at_rest
returns-then-are_at_rest c = grind (arith, elements)

pub returns-else-are_at_rest : goal.returns-else-are_at_rest
returns-else-are_at_rest c = grind (arith, elements)
