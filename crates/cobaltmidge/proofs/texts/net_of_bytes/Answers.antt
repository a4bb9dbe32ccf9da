use Rattle.std.proofs.lemmas.Grind.{elements}
use Rattle.std.proofs.Common.{arith}
use Rattle.cobaltmidge.proofs.texts.net_of_bytes.Goals as goal

pub returns-clause-net : goal.returns-clause-net
returns-clause-net c = grind (arith, elements)
