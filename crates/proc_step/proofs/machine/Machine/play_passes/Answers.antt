use Rattle.std.proofs.lemmas.Grind.{elements}
use Rattle.std.proofs.Common.{arith}
use Rattle.proc_step.proofs.machine.Machine.play_passes.Goals as goal

pub returns : goal.returns
returns c = grind (arith, elements)
