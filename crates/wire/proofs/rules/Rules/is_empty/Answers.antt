use Rattle.std.proofs.lemmas.Grind.{common_steps}
use Rattle.std.proofs.Common.{arith}
use Rattle.wire.proofs.rules.Rules.is_empty.Goals as goal

pub returns : goal.returns
returns c = grind (arith, common_steps)
