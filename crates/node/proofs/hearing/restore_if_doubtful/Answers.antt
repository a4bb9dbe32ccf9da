use Rattle.std.proofs.Common.{arith}
use Rattle.std.proofs.lemmas.Grind.{elements}
use Rattle.node.proofs.hearing.restore_if_doubtful.Goals as goal

pub returns-in_ok-restore-in-InDoubt : goal.returns-in_ok-restore-in-InDoubt
returns-in_ok-restore-in-InDoubt c = grind (arith, elements)
