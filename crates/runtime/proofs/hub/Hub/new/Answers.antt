use Rattle.std.proofs.Common.{arith}
use Rattle.std.proofs.lemmas.Grind.{elements}
use Rattle.runtime.proofs.hub.Hub.new.Goals as goal

pub over-requires-clause-unwritten : goal.over-requires-clause-unwritten
over-requires-clause-unwritten g c = grind (arith, elements)
