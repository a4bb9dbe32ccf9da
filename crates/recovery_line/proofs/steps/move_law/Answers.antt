use Rattle.recovery_line.proofs.Moving.{moves_at_most_once}
use Rattle.recovery_line.proofs.steps.move_law.Goals as goal

pub returns : goal.returns
returns c = moves_at_most_once
