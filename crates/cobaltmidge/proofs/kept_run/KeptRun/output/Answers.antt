use Rattle.std.proofs.lemmas.Grind.{elements}
use Rattle.std.proofs.Common.{arith}
use Rattle.cobaltmidge.proofs.kept_run.KeptRun.output.Goals as goal

pub index-requires : goal.index-requires
index-requires c = grind (arith, elements)

pub returns : goal.returns
returns c = grind (arith, elements)
