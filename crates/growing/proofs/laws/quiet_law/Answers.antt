use Rattle.growing.proofs.Quiet.{quiet_where_none_waits}
use Rattle.growing.proofs.laws.quiet_law.Goals as goal

pub returns : goal.returns
returns c = quiet_where_none_waits
