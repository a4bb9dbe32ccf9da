use Rattle.std.proofs.Common.{rules, ◌≡◌, ◌<◌, ◌∙◌, ◌+◌, ℕ, true, refl, sym, ap, subst, arith}
use Rattle.run_log.specs.ArmedWorlds.{armed_view}
use Rattle.run_log.specs.Turns.{passed_then}
use Rattle.run_log.specs.declared.answer.FaultAnswer.{FaultAnswer}
use Rattle.runtime.specs.Beginning.{first_lines}
use Rattle.runtime.specs.Turning.{ArePassed, progress, was_passed}
use Rattle.runtime.proofs.Beginnings.{AreAllOf, passes}
use Rattle.runtime.proofs.Turns.{is_due, one_passed, reply_of}
use Rattle.runtime.proofs.driving.begin.Goals as goal

pub loop-line-init : goal.loop-line-init
loop-line-init g c = record {
  parts = refl;
  counts = c.requires.counts;
  running = c.requires.running;
  at = c.requires.unpassed;
  passed = ap (progress (armed_view c.args.log.now.armed)) c.requires.unpassed;
  begun = search rules;
}

pub loop-line-preserved : goal.loop-line-preserved
loop-line-preserved g c =
    let loop = c.loop-line.invariant in
    let line = c.loop-line._line in
    let replied : was_passed c.in_ok-answer.answer ≡ true = sym c.was_passed.ensures ∙ cc c.if-not-was_passed.false in
    let reply = reply_of c.in_ok-answer.answer replied in
    let now : c.fault.new.log.passed ≡ passed_then c.in_ok-answer.answer c.loop-line.log.passed = c.in_ok-answer.ensures.answered.passed in
    let few : line < first_lines g.ThisRun.Run.script = omega (arith, c.requires.lines, c.loop-line-test.true) in
    record {
      parts = c.fault.ensures.parts ∙ loop.parts;
      counts = c.fault.ensures.counts;
      running = c.in_ok-answer.ensures.answered.running ∙ loop.running;
      at = now ∙ (ap (λ (a : FaultAnswer). passed_then a c.loop-line.log.passed) reply.1 ∙ ap (λ (n : ℕ). n + 1) loop.at);
      passed = one_passed g.ThisRun.Run.rooms g.ThisRun.Run.script line c.loop-line.log.passed c.fault.new.log.passed
          (progress (armed_view c.args.log.now.armed) 0) (armed_view c.loop-line.log.armed) (armed_view c.fault.new.log.armed)
          c.in_ok-answer.answer reply.0 few loop.at loop.passed reply.1 c.in_ok-answer.ensures.answered.played now;
      begun = λ keeps.
          passes _ line _ _ _ reply.0 (c.loop-line.log.same_keeps ∙ keeps) reply.1 c.in_ok-answer.ensures.answered.written (loop.begun keeps);
    }

-- a line of round 0 is due
pub unreachable-requires : goal.unreachable-requires
unreachable-requires g c =
    let few : c.loop-line._line < first_lines g.ThisRun.Run.script = omega (arith, c.requires.lines, c.loop-line-test.true) in
    is_due g.ThisRun.Run.rooms g.ThisRun.Run.script c.loop-line.log.passed c.loop-line._line (armed_view c.loop-line.log.armed)
    (armed_view c.fault.new.log.armed) c.in_ok-answer.answer c.loop-line.invariant.at few
    (c.in_ok-answer.ensures.goes_on c.loop-line.invariant.running) c.in_ok-answer.ensures.answered.played
    (sym c.was_passed.ensures ∙ cc c.if-not-was_passed.true)

pub returns-in_err-answer-clause-running : goal.returns-in_err-answer-clause-running
returns-in_err-answer-clause-running g c = c.in_err-answer.ensures.unchanged.stopped ∙ c.loop-line.invariant.running

pub returns-clause-running : goal.returns-clause-running
returns-clause-running g c = c.loop-line.invariant.running

pub returns-clause-passed : goal.returns-clause-passed
returns-clause-passed g c =
    let ended : c.loop-line._line ≡ c.args.lines = omega (arith, c.loop-line-test.false, c.loop-line.auto._line-end) in
    subst (λ (n : ℕ). ArePassed g.ThisRun.Run.rooms g.ThisRun.Run.script n (progress (armed_view c.args.log.now.armed) 0)
    (progress (armed_view c.loop-line.log.armed) c.loop-line.log.passed)) ended c.loop-line.invariant.passed

pub returns-clause-begun : goal.returns-clause-begun
returns-clause-begun g c = λ keeps.
    let ended : c.loop-line._line ≡ c.args.lines = omega (arith, c.loop-line-test.false, c.loop-line.auto._line-end) in
    (subst (λ (n : ℕ). AreAllOf n c.loop-line.log.lines.items) ended (c.loop-line.invariant.begun keeps)).1
