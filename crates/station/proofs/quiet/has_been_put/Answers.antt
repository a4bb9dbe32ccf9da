use Rattle.std.proofs.lemmas.Grind.{elements}
use Rattle.std.proofs.Common.{arith}
use Rattle.station.proofs.quiet.has_been_put.Goals as goal

pub returns-in-None : goal.returns-in-None
returns-in-None g c = grind (arith, elements)

pub returns-in-Outside : goal.returns-in-Outside
returns-in-Outside g c = grind (arith, elements)

pub returns-in-Process : goal.returns-in-Process
returns-in-Process g c = grind (arith, elements)
