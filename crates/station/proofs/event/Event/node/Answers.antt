use Rattle.std.proofs.Common.{arith}
use Rattle.std.proofs.lemmas.Grind.{elements}
use Rattle.station.proofs.event.Event.node.Goals as goal

pub returns-in-Install : goal.returns-in-Install
returns-in-Install c = grind (arith, elements)
