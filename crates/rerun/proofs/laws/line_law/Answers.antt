use Rattle.rerun.proofs.Stages.{lines}
use Rattle.rerun.proofs.laws.line_law.Goals as goal

pub returns : goal.returns
returns c = lines
