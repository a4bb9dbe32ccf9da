use Rattle.std.proofs.lemmas.Result.{err_from_is_err_and}
use Rattle.fail_script.proofs.ScriptLaws.{turn_goes_on, turn_fails}
use Rattle.std.proofs.lemmas.Grind.{elements}
use Rattle.std.proofs.Common.{arith}
use Rattle.fail_script.proofs.script.read_lines.Goals as goal

pub returns-in_err-line-clause-err : goal.returns-in_err-line-clause-err
returns-in_err-line-clause-err c =
    let p = err_from_is_err_and c.from_residual.result c.from_residual.ensures.1 in
    rw (p.1, p.2)
    (turn_fails c.args.nodes c.loop-i.round c.args.parts.now c.loop-i.i _ c.without_return.result.now
    c.loop-i.lines.items
    c.in_err-line.field-0.0 c.loop-i-test.true c.without_return.ensures c.loop-i.invariant c.in_err-line.ensures.err)

pub loop-i-preserved : goal.loop-i-preserved
loop-i-preserved c =
    turn_goes_on c.args.nodes c.loop-i.round c.args.parts.now c.loop-i.i _ c.without_return.result.now
    c.loop-i.lines.items
    c.add_line.new.lines.items c.in_ok-line.line c.in_ok-round.round c.loop-i-test.true c.without_return.ensures
    c.loop-i.invariant c.in_ok-line.ensures.ok c.in_ok-round.ensures.lines c.in_ok-round.ensures.round

pub returns-clause-ok : goal.returns-clause-ok
returns-clause-ok c = grind (arith, elements)
