use Rattle.std.proofs.Common.{arith}
use Rattle.std.proofs.lemmas.Grind.{elements}
use Rattle.station.proofs.station.Station.stance.Goals as goal

pub returns-in-Running : goal.returns-in-Running
returns-in-Running c = grind (arith, elements)
