use Rattle.std.proofs.lemmas.Grind.{elements}
use Rattle.std.proofs.Common.{arith}
use Rattle.stream_eq.proofs.process.put_outputs.Goals as goal

pub returns-clause-played : goal.returns-clause-played
returns-clause-played c = grind (arith, elements)

pub returns-clause-long : goal.returns-clause-long
returns-clause-long c = grind (arith, elements)
