use Rattle.std.proofs.lemmas.Grind.{elements}
use Rattle.std.proofs.Common.{◌≡◌, ap, ◌∙◌, map, arith}
use Rattle.std.proofs.lemmas.Result.{err_from_is_err_and}
use Rattle.std.specs.Str.Lines.{strip_carriage_return}
use Rattle.net_text.specs.Trees.{input_tree}
use Rattle.net_text.proofs.InputLaws.{lines_are, inputs_took, one_inputs, failed_no_text}
use Rattle.net_text.proofs.InputFaults.{failed_inputs, read_no_fault, refused_by}
use Rattle.net_text.proofs.inputs.parse_inputs.Goals as goal

pub returns-in_err-lines-clause-err : goal.returns-in_err-lines-clause-err
returns-in_err-lines-clause-err c =
    let p = err_from_is_err_and c.from_residual-in_err-lines.result c.from_residual-in_err-lines.ensures.1 in
    let parts : c.deref.result.now ≡ c.in_ok-parts.parts.items = c.deref.ensures.value in
    rw (p.1, p.2)
    (failed_inputs c.args.text.now (map (λ part. strip_carriage_return part.now) c.deref.result.now)
    c.in_err-lines.field-0.0
    (lines_are (λ part. part.now) c.deref.result.now c.args.text.now
    (ap (map (λ part. part.now)) parts ∙ c.in_ok-parts.ensures)) (omega arith) c.in_err-lines.ensures)

pub returns-in_err-lines-clause-only : goal.returns-in_err-lines-clause-only
returns-in_err-lines-clause-only c =
    let p = err_from_is_err_and c.from_residual-in_err-lines.result c.from_residual-in_err-lines.ensures.1 in
    let parts : c.deref.result.now ≡ c.in_ok-parts.parts.items = c.deref.ensures.value in
    rw (p.1, p.2)
    (λ es is. failed_no_text c.args.text.now (map (λ part. strip_carriage_return part.now) c.deref.result.now)
    c.in_err-lines.field-0.0 es
    (lines_are (λ part. part.now) c.deref.result.now c.args.text.now
    (ap (map (λ part. part.now)) parts ∙ c.in_ok-parts.ensures)) c.in_err-lines.ensures is)

pub returns-clause-ok : goal.returns-clause-ok
returns-clause-ok c =
    let parts : c.deref.result.now ≡ c.in_ok-parts.parts.items = c.deref.ensures.value in
    inputs_took c.args.text.now (map (λ part. strip_carriage_return part.now) c.deref.result.now)
    (map input_tree c.in_ok-lines.lines.items)
    (lines_are (λ part. part.now) c.deref.result.now c.args.text.now
    (ap (map (λ part. part.now)) parts ∙ c.in_ok-parts.ensures)) (omega arith) c.in_ok-lines.ensures

pub returns-clause-only : goal.returns-clause-only
returns-clause-only c =
    let parts : c.deref.result.now ≡ c.in_ok-parts.parts.items = c.deref.ensures.value in
    λ es is. one_inputs c.args.text.now (map (λ part. strip_carriage_return part.now) c.deref.result.now)
    (map input_tree c.in_ok-lines.lines.items) es
    (lines_are (λ part. part.now) c.deref.result.now c.args.text.now
    (ap (map (λ part. part.now)) parts ∙ c.in_ok-parts.ensures)) c.in_ok-lines.ensures is

pub returns-in_err-lines-clause-each : goal.returns-in_err-lines-clause-each
returns-in_err-lines-clause-each c =
    let p = err_from_is_err_and c.from_residual-in_err-lines.result c.from_residual-in_err-lines.ensures.1 in
    let parts : c.deref.result.now ≡ c.in_ok-parts.parts.items = c.deref.ensures.value in
    let why =
    failed_inputs c.args.text.now (map (λ part. strip_carriage_return part.now) c.deref.result.now)
    c.in_err-lines.field-0.0
    (lines_are (λ part. part.now) c.deref.result.now c.args.text.now
    (ap (map (λ part. part.now)) parts ∙ c.in_ok-parts.ensures)) (omega arith) c.in_err-lines.ensures in
    rw (p.1, p.2) (λ fault is. refused_by c.args.text.now c.in_err-lines.field-0.0 why fault is)

pub returns-clause-each : goal.returns-clause-each
returns-clause-each c =
    let parts : c.deref.result.now ≡ c.in_ok-parts.parts.items = c.deref.ensures.value in
    let read =
    inputs_took c.args.text.now (map (λ part. strip_carriage_return part.now) c.deref.result.now)
    (map input_tree c.in_ok-lines.lines.items)
    (lines_are (λ part. part.now) c.deref.result.now c.args.text.now
    (ap (map (λ part. part.now)) parts ∙ c.in_ok-parts.ensures)) (omega arith) c.in_ok-lines.ensures in
    λ fault is. read_no_fault c.args.text.now (map input_tree c.in_ok-lines.lines.items) fault read is

pub returns-clause-err : goal.returns-clause-err
returns-clause-err c = grind (arith, elements)

pub returns-in_err-lines-clause-ok : goal.returns-in_err-lines-clause-ok
returns-in_err-lines-clause-ok c = grind (arith, elements)

pub returns-in_err-parts-clause-each : goal.returns-in_err-parts-clause-each
returns-in_err-parts-clause-each c = grind (arith, elements)

pub returns-in_err-parts-clause-err : goal.returns-in_err-parts-clause-err
returns-in_err-parts-clause-err c = grind (arith, elements)

pub returns-in_err-parts-clause-ok : goal.returns-in_err-parts-clause-ok
returns-in_err-parts-clause-ok c = grind (arith, elements)

pub returns-in_err-parts-clause-only : goal.returns-in_err-parts-clause-only
returns-in_err-parts-clause-only c = grind (arith, elements)

pub returns-then-text-gt-MAX_INPUTS_BYTES-clause-each : goal.returns-then-text-gt-MAX_INPUTS_BYTES-clause-each
returns-then-text-gt-MAX_INPUTS_BYTES-clause-each c = grind (arith, elements)

pub returns-then-text-gt-MAX_INPUTS_BYTES-clause-err : goal.returns-then-text-gt-MAX_INPUTS_BYTES-clause-err
returns-then-text-gt-MAX_INPUTS_BYTES-clause-err c = grind (arith, elements)

pub returns-then-text-gt-MAX_INPUTS_BYTES-clause-ok : goal.returns-then-text-gt-MAX_INPUTS_BYTES-clause-ok
returns-then-text-gt-MAX_INPUTS_BYTES-clause-ok c = grind (arith, elements)

pub returns-then-text-gt-MAX_INPUTS_BYTES-clause-only : goal.returns-then-text-gt-MAX_INPUTS_BYTES-clause-only
returns-then-text-gt-MAX_INPUTS_BYTES-clause-only c = grind (arith, elements)
