use Rattle.std.proofs.lemmas.Grind.{common_steps}
use Rattle.std.proofs.Common.{arith}
use Rattle.cobaltmidge.proofs.items.Items.with.Goals as goal

pub returns-in-Ok-push-clause-given : goal.returns-in-Ok-push-clause-given
returns-in-Ok-push-clause-given c = grind (arith, common_steps)
