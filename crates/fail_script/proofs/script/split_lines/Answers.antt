use Rattle.std.proofs.lemmas.Grind.{common_steps}
use Rattle.std.proofs.Common.{arith}
use Rattle.fail_script.proofs.script.split_lines.Goals as goal

pub returns : goal.returns
returns c = grind (arith, common_steps)

pub loop-line-preserved : goal.loop-line-preserved
loop-line-preserved c = grind (arith, common_steps)
