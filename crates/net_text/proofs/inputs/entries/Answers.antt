use Rattle.std.proofs.Common.{map}
use Rattle.std.proofs.lemmas.Result.{err_from_is_err_and}
use Rattle.std.specs.Str.Lines.{strip_carriage_return}
use Rattle.net_text.specs.Trees.{input_tree}
use Rattle.net_text.specs.InputReading.{entry_tree}
use Rattle.net_text.proofs.Items.{loop_fails, loop_goes_on, loop_ends}
use Rattle.net_text.proofs.inputs.entries.Goals as goal

pub returns-in_err-entry : goal.returns-in_err-entry
returns-in_err-entry c =
    let p = err_from_is_err_and c.from_residual.result c.from_residual.ensures.1 in
    rw (p.1, p.2)
    (loop_fails (λ part. strip_carriage_return part.now) c.args.parts.now c.loop-i.i _ c.without_return.result.now
    (map input_tree c.loop-i.lines.items) c.in_err-entry.field-0.0 _ c.loop-i-test.true c.without_return.ensures
    c.in_err-entry.ensures c.loop-i.invariant)

pub loop-i-preserved : goal.loop-i-preserved
loop-i-preserved c =
    rw c.in_ok-add_entry.ensures
    (loop_goes_on (λ part. strip_carriage_return part.now) c.args.parts.now c.loop-i.i
    _ c.without_return.result.now (map input_tree c.loop-i.lines.items) (entry_tree c.in_ok-entry.entry)
    _ c.loop-i-test.true c.without_return.ensures c.in_ok-entry.ensures c.loop-i.invariant)

pub returns : goal.returns
returns c =
    loop_ends (λ part. strip_carriage_return part.now) c.args.parts.now c.loop-i.i
    (map input_tree c.loop-i.lines.items) _ c.loop-i-test.false c.loop-i.invariant
