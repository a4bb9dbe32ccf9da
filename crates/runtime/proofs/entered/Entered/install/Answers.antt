use Rattle.std.proofs.Common.{arith}
use Rattle.std.proofs.lemmas.Grind.{common_steps}
use Rattle.runtime.proofs.entered.Entered.install.Goals as goal

pub returns-then-made-ge-MAX_COUNT-clause-begins : goal.returns-then-made-ge-MAX_COUNT-clause-begins
returns-then-made-ge-MAX_COUNT-clause-begins g c = grind (arith, common_steps)
