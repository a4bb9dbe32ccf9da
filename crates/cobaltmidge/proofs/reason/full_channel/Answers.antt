use Rattle.std.proofs.lemmas.Grind.{elements}
use Rattle.std.proofs.Common.{arith}
use Rattle.cobaltmidge.proofs.reason.full_channel.Goals as goal

pub loop-number-init : goal.loop-number-init
loop-number-init g c = grind (arith, elements)
