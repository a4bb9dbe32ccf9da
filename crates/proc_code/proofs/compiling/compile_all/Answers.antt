use Rattle.std.proofs.lemmas.Grind.{common_steps, elements}
use Rattle.std.proofs.Common.{arith}
use Rattle.proc_code.proofs.compiling.compile_all.Goals as goal

pub loop-process-preserved : goal.loop-process-preserved
loop-process-preserved c = grind (arith, common_steps)

pub returns : goal.returns
returns c = grind (arith, elements)
