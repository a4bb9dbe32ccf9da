use Rattle.std.proofs.Common.{◌∙◌, sym}
use Rattle.std.proofs.lemmas.Option.{slice_get_within}
use Rattle.run_log.proofs.Adding.{none_is_left}
use Rattle.std.proofs.Common.{arith}
use Rattle.std.proofs.lemmas.Grind.{common_steps, elements}
use Rattle.run_log.proofs.run_log.RunLog.fault.Goals as goal

pub be_silent-requires-clause-own : goal.be_silent-requires-clause-own
be_silent-requires-clause-own g c =
    ∣ none_is_left g.ThisRun.Run.script c.args.self.now.passed (sym c.next_line.ensures ∙ c.in-None.is) ∣₁

pub play-requires-clause-few : goal.play-requires-clause-few
play-requires-clause-few g c = slice_get_within g.ThisRun.Run.script c.args.self.now.passed c.in-Some.line (sym c.next_line.ensures ∙ c.in-Some.is)

pub play-requires-clause-own : goal.play-requires-clause-own
play-requires-clause-own g c = grind (arith, elements)

pub returns-clause-answered : goal.returns-clause-answered
returns-clause-answered g c = grind (arith, common_steps)

pub returns-then-line-round-clause-stopped : goal.returns-then-line-round-clause-stopped
returns-then-line-round-clause-stopped g c = grind (arith, elements)

pub returns-in-None-clause-stopped : goal.returns-in-None-clause-stopped
returns-in-None-clause-stopped g c = grind (arith, elements)

pub be_silent-requires-then-line-round-clause-own : goal.be_silent-requires-then-line-round-clause-own
be_silent-requires-then-line-round-clause-own g c = grind (arith, common_steps)

pub returns-clause-stopped : goal.returns-clause-stopped
returns-clause-stopped g c = grind (arith, elements)

pub returns-in-None-clause-answered : goal.returns-in-None-clause-answered
returns-in-None-clause-answered g c = grind (arith, elements)

pub returns-clause-goes_on : goal.returns-clause-goes_on
returns-clause-goes_on g c = grind (arith, elements)

pub returns-then-line-round-clause-goes_on : goal.returns-then-line-round-clause-goes_on
returns-then-line-round-clause-goes_on g c = grind (arith, elements)

pub returns-then-line-round-clause-answered : goal.returns-then-line-round-clause-answered
returns-then-line-round-clause-answered g c = grind (arith, elements)
