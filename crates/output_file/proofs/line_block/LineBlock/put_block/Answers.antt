use Rattle.std.proofs.Common.{arith}
use Rattle.std.proofs.lemmas.Grind.{common_steps}
use Rattle.output_file.proofs.line_block.LineBlock.put_block.Goals as goal

pub returns-then-is_empty-clause-all : goal.returns-then-is_empty-clause-all
returns-then-is_empty-clause-all g c = grind (arith, common_steps)

pub returns-clause-written : goal.returns-clause-written
returns-clause-written g c = grind (arith, common_steps)
