use Rattle.whole_run.proofs.Premises.{event_goes_on}
use Rattle.whole_run.proofs.meeting.event_law.Goals as goal

pub returns : goal.returns
returns g c = event_goes_on c.args.before.now c.args.after.now
