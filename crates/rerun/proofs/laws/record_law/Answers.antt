use Rattle.rerun.proofs.Turning.{records}
use Rattle.rerun.proofs.laws.record_law.Goals as goal

pub returns : goal.returns
returns c = records
