use Rattle.std.proofs.Common.{rules, ap, ◌∙◌}
use Rattle.std.proofs.lemmas.Result.{err_from_is_err_and}
use Rattle.fail_script.proofs.ScriptLaws.{texts_of, parts_are_lines, told_fault, told_once, told_no_script}
use Rattle.fail_script.proofs.ScriptLaws.{read_script, read_no_fault, read_once}
use Rattle.fail_script.proofs.script.parse_script.Goals as goal

pub returns-in_err-lines-clause-err : goal.returns-in_err-lines-clause-err
returns-in_err-lines-clause-err c =
    let p = err_from_is_err_and c.from_residual-in_err-lines.result c.from_residual-in_err-lines.ensures.1 in
    let same =
    ap texts_of c.deref.ensures.value
    ∙ parts_are_lines c.in_ok-parts.parts.items c.args.text.now c.in_ok-parts.ensures in
    rw (p.1, p.2)
    (told_fault c.args.nodes (texts_of c.deref.result.now) c.args.text.now c.in_err-lines.field-0.0 same
    c.if-text-gt-MAX_SCRIPT_BYTES.false c.in_err-lines.ensures.err)

pub returns-in_err-lines-clause-each : goal.returns-in_err-lines-clause-each
returns-in_err-lines-clause-each c =
    let p = err_from_is_err_and c.from_residual-in_err-lines.result c.from_residual-in_err-lines.ensures.1 in
    let same =
    ap texts_of c.deref.ensures.value
    ∙ parts_are_lines c.in_ok-parts.parts.items c.args.text.now c.in_ok-parts.ensures in
    rw (p.1, p.2)
    (told_once c.args.nodes (texts_of c.deref.result.now) c.args.text.now c.in_err-lines.field-0.0 (search rules) same
    c.if-text-gt-MAX_SCRIPT_BYTES.false c.in_err-lines.ensures.err)

pub returns-in_err-lines-clause-only : goal.returns-in_err-lines-clause-only
returns-in_err-lines-clause-only c =
    let p = err_from_is_err_and c.from_residual-in_err-lines.result c.from_residual-in_err-lines.ensures.1 in
    let same =
    ap texts_of c.deref.ensures.value
    ∙ parts_are_lines c.in_ok-parts.parts.items c.args.text.now c.in_ok-parts.ensures in
    rw (p.1, p.2)
    (told_no_script c.args.nodes (texts_of c.deref.result.now) c.args.text.now c.in_err-lines.field-0.0 (search rules)
    same
    c.in_err-lines.ensures.err)

pub returns-clause-ok : goal.returns-clause-ok
returns-clause-ok c =
    let same =
    ap texts_of c.deref.ensures.value
    ∙ parts_are_lines c.in_ok-parts.parts.items c.args.text.now c.in_ok-parts.ensures in
    read_script c.args.nodes (texts_of c.deref.result.now) c.args.text.now c.in_ok-lines.lines.items same
    c.if-text-gt-MAX_SCRIPT_BYTES.false c.in_ok-lines.ensures.ok

pub returns-clause-each : goal.returns-clause-each
returns-clause-each c =
    let same =
    ap texts_of c.deref.ensures.value
    ∙ parts_are_lines c.in_ok-parts.parts.items c.args.text.now c.in_ok-parts.ensures in
    read_no_fault c.args.nodes (texts_of c.deref.result.now) c.args.text.now c.in_ok-lines.lines.items (search rules)
    same
    c.if-text-gt-MAX_SCRIPT_BYTES.false c.in_ok-lines.ensures.ok

pub returns-clause-only : goal.returns-clause-only
returns-clause-only c =
    let same =
    ap texts_of c.deref.ensures.value
    ∙ parts_are_lines c.in_ok-parts.parts.items c.args.text.now c.in_ok-parts.ensures in
    read_once c.args.nodes (texts_of c.deref.result.now) c.args.text.now c.in_ok-lines.lines.items (search rules) same
    c.in_ok-lines.ensures.ok
