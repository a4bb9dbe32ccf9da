use Rattle.std.proofs.lemmas.Grind.{elements}
use Rattle.std.proofs.Common.{arith}
use Rattle.history_text.proofs.event.EventWords.of_job.Goals as goal

pub returns : goal.returns
returns c = grind (arith, elements)
