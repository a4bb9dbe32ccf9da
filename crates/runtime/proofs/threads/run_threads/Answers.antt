use Rattle.std.proofs.Common.{arith}
use Rattle.std.proofs.lemmas.Grind.{elements}
use Rattle.runtime.proofs.threads.run_threads.Goals as goal

pub returns-then-is_err : goal.returns-then-is_err
returns-then-is_err g c = grind (arith, elements)

pub returns : goal.returns
returns g c = grind (arith, elements)
