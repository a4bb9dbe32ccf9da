use Rattle.std.proofs.lemmas.Grind.{common_steps}
use Rattle.std.proofs.Common.{arith}
use Rattle.history_text.proofs.header.write_channel.Goals as goal

pub returns : goal.returns
returns g c = grind (arith, common_steps)
