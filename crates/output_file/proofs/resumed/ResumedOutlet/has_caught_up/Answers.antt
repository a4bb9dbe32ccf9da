use Rattle.std.proofs.Common.{arith}
use Rattle.std.proofs.lemmas.Grind.{common_steps}
use Rattle.output_file.proofs.resumed.ResumedOutlet.has_caught_up.Goals as goal

pub returns : goal.returns
returns g c = grind (arith, common_steps)
