use Rattle.whole_run.proofs.Premises.{crash_is_found}
use Rattle.whole_run.proofs.meeting.crash_law.Goals as goal

pub returns : goal.returns
returns g c = crash_is_found c.args.before.now c.args.after.now
