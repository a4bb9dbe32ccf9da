use Rattle.std.proofs.Common.{◌∙◌, sym}
use Rattle.run_log.proofs.Adding.{leads, runs}
use Rattle.run_log.proofs.run_log.RunLog.close.Goals as goal

pub returns-clause-leads : goal.returns-clause-leads
returns-clause-leads g c = leads _ _ _ _ _ c.args.self.lines.items c.args.self.passed c.args.self.replays

pub returns-clause-run : goal.returns-clause-run
returns-clause-run g c = runs _ _ _ _ _ c.args.self.lines.items c.args.self.passed c.args.self.replays

pub invariant_of-self-clause-numbers : goal.invariant_of-self-clause-numbers
invariant_of-self-clause-numbers g c = λ yes. c.args.self.numbers yes ∙ sym c.audit.ensures.same
