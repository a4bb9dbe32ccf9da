use Rattle.recovery_line.proofs.Example as example
use Rattle.recovery_line.proofs.runs.reachable_decision_law.Goals as goal

pub returns : goal.returns
returns c = example.reaches_a_decision
