use Rattle.std.proofs.Common.{arith}
use Rattle.std.proofs.lemmas.Grind.{elements}
use Rattle.station.proofs.station.Station.is_still.Goals as goal

pub returns-in-Err : goal.returns-in-Err
returns-in-Err c = grind (arith, elements)
