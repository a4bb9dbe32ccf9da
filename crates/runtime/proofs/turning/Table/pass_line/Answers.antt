use Rattle.std.proofs.Common.{◌∙◌, sym}
use Rattle.std.proofs.lemmas.Result.{IfOk-weaker}
use Rattle.run_log.specs.Answers.{IsFaultWritten}
use Rattle.runtime.proofs.Beginnings.{faulted}
use Rattle.runtime.proofs.Calls.{either_so, refused_so}
use Rattle.run_log.specs.ArmedWorlds.{armed_view}
use Rattle.runtime.proofs.Turns.{line_passed, none_passed}
use Rattle.runtime.specs.Turning.{progress}
use Rattle.runtime.proofs.turning.Table.pass_line.Goals as goal

pub invariant_of-self-2 : goal.invariant_of-self-2
invariant_of-self-2 g c =
    let held = refused_so c.fault.result (λ fault refused. refused.same) c.fault.ensures.refused in
    record {
      one_part = c.fault.ensures.parts ∙ c.args.self.now.one_part;
      running = either_so c.fault.result (λ answer told. told.running) (λ same. same.stopped) c.fault.ensures.answered held ∙ c.args.self.now.running;
      begins = λ keeps.
          faulted _ c.args.self.now.log.lines.items c.fault.new.self.lines.items _
          (c.args.self.now.log.same_keeps ∙ keeps) (c.args.self.now.begins keeps) (λ same. same.lines)
          c.fault.result
          (IfOk-weaker c.fault.result _ (IsFaultWritten c.args.self.now.log.keeps c.args.self.now.log.lines.items c.fault.new.self.lines.items)
          (λ answer told. told.written) c.fault.ensures.answered)
          held;
    }

pub returns : goal.returns
returns g c =
    let old = c.args.self.now.log in
    let new = c.fault.new.self in
    record {
      passed = line_passed g.ThisRun.Run.rooms g.ThisRun.Run.script old.passed new.passed (armed_view old.armed) (armed_view new.armed)
          c.in_ok-_answer._answer (c.in_ok-_answer.ensures.goes_on c.args.self.now.running) c.in_ok-_answer.ensures.answered.played
          c.in_ok-_answer.ensures.answered.passed;
    }

-- where no line is due nothing happens
pub returns-then-not-is_line_due : goal.returns-then-not-is_line_due
returns-then-not-is_line_due g c =
    let log = c.args.self.now.log in
    record {
      passed = none_passed g.ThisRun.Run.rooms g.ThisRun.Run.script (progress (armed_view log.armed) log.passed)
          (sym c.is_line_due.ensures ∙ cc c.if-not-is_line_due.true);
    }
