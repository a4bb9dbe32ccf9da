use Rattle.std.proofs.Common.{◌≤◌, ◌∙◌, length, refl, sym, arith}
use Rattle.run_log.specs.ArmedWorlds.{armed_view}
use Rattle.runtime.specs.Turning.{progress}
use Rattle.runtime.proofs.Turns.{late_line, none_late, one_later}
use Rattle.runtime.proofs.turning.Table.catch_up.Goals as goal

pub loop-line-init : goal.loop-line-init
loop-line-init g c = record { late = refl; passed = omega arith }

pub loop-line-preserved : goal.loop-line-preserved
loop-line-preserved g c =
    let rooms = g.ThisRun.Run.rooms in
    let script = g.ThisRun.Run.script in
    let before = c.loop-line.self.log in
    let after = c.pass_line.new.self.log in
    let from = progress (armed_view before.armed) before.passed in
    let to = progress (armed_view after.armed) after.passed in
    let late = sym c.is_line_late.ensures ∙ cc c.if-not-is_line_late.false in
    let passed = c.in_ok-pass_line.ensures.passed in
    let one = late_line rooms script from to late passed in
    let at = c.loop-line.invariant.passed in
    record {
      late = one_later rooms script c.loop-line._line _ from to c.loop-line.invariant.late late passed;
      passed = omega (arith, one.1, at);
    }

pub returns-then-not-is_line_late : goal.returns-then-not-is_line_late
returns-then-not-is_line_late g c = record {
  caught_up = record {
    lines = c.loop-line._line;
    late = c.loop-line.invariant.late;
    none = sym c.is_line_late.ensures ∙ cc c.if-not-is_line_late.true;
  };
}

-- once all lines are passed, none is late
pub returns : goal.returns
returns g c =
    let log = c.loop-line.self.log in
    let at = c.loop-line.invariant.passed in
    let left = c.lines_left-left.ensures in
    let past : length g.ThisRun.Run.script ≤ log.passed = omega (arith, at, left, c.loop-line-test.false) in
    record {
      caught_up = record {
        lines = c.loop-line._line;
        late = c.loop-line.invariant.late;
        none = none_late g.ThisRun.Run.script (progress (armed_view log.armed) log.passed) past;
      };
    }
