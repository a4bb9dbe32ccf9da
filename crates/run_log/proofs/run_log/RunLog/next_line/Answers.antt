use Rattle.std.proofs.Common.{arith}
use Rattle.std.proofs.lemmas.Grind.{elements}
use Rattle.run_log.proofs.run_log.RunLog.next_line.Goals as goal

pub returns : goal.returns
returns g c = grind (arith, elements)
