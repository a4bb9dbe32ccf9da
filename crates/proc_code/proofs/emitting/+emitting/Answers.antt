use Rattle.std.proofs.Common.{◌∙◌}
use Rattle.proc_code.proofs.Emitted.{if_emits, repeat_emits}
use Rattle.std.proofs.lemmas.Grind.{common_steps, elements}
use Rattle.std.proofs.Common.{arith}
use Rattle.proc_code.proofs.emitting.+emitting.Goals as goal

pub emit_statement-returns-in_ok-emit_statements-in-If-2 : goal.emit_statement-returns-in_ok-emit_statements-in-If-2
emit_statement-returns-in_ok-emit_statements-in-If-2 t c =
    if_emits c.args.statement.now c.in-If.test c.in-If.first c.in-If.second c.deref.result.now c.deref-in-If.result.now
    c.args.code.now.items c.emit_expr-in-If.new.code.items c.emit-in-If.new.code.items c.emit_statements.new.code.items
    c.emit-in-If-2.new.code.items c.emit_statements-in-If.new.code.items
    c.args.sites.now.items c.emit_statements.new.sites.items c.emit_statements-in-If.new.sites.items
    _ _ c.in_ok-value-in-If.value c.len-test_end.result c.len-first_end.result c.len-in-If.result
    c.in-If.is c.deref.ensures.value c.deref-in-If.ensures.value
    c.in_ok-value-in-If.ensures.value c.in_ok-value-in-If.ensures.code (c.len-test_end.ensures ∙ c.emit_expr-in-If.new.code.ok.0)
    c.in_ok-emit-in-If.ensures
    c.in_ok-emit_statements-in-If.ensures.code c.in_ok-emit_statements-in-If.ensures.sites
    (c.len-first_end.ensures ∙ c.emit_statements.new.code.ok.0)
    c.in_ok-emit-in-If-2.ensures
    c.in_ok-emit_statements-in-If-2.ensures.code c.in_ok-emit_statements-in-If-2.ensures.sites
    (c.len-in-If.ensures ∙ c.emit_statements-in-If.new.code.ok.0)

pub emit_statement-returns-in_ok-emit-in-Repeat-2 : goal.emit_statement-returns-in_ok-emit-in-Repeat-2
emit_statement-returns-in_ok-emit-in-Repeat-2 t c =
    repeat_emits c.args.statement.now c.in-Repeat.times c.in-Repeat.body c.deref-in-Repeat.result.now c.args.code.now.items
    c.emit-in-Repeat.new.code.items c.emit_statements-in-Repeat.new.code.items c.emit-in-Repeat-2.new.code.items
    c.args.sites.now.items c.emit_statements-in-Repeat.new.sites.items _ c.len-opening.result c.len-in-Repeat.result
    c.in-Repeat.is c.deref-in-Repeat.ensures.value (c.len-opening.ensures ∙ c.args.code.now.ok.0) c.in_ok-emit-in-Repeat.ensures
    c.in_ok-emit_statements-in-Repeat.ensures.code c.in_ok-emit_statements-in-Repeat.ensures.sites
    c.in_ok-emit-in-Repeat-2.ensures (c.len-in-Repeat.ensures ∙ c.emit-in-Repeat-2.new.code.ok.0)

pub emit_statement-index_mut-requires-in-If : goal.emit_statement-index_mut-requires-in-If
emit_statement-index_mut-requires-in-If c = grind (arith, elements)

pub emit_statements-loop-statement-preserved : goal.emit_statements-loop-statement-preserved
emit_statements-loop-statement-preserved c = grind (arith, common_steps)

pub emit_statement-index_mut-requires-in-Repeat : goal.emit_statement-index_mut-requires-in-Repeat
emit_statement-index_mut-requires-in-Repeat c = grind (arith, elements)

pub emit_statement-index_mut-requires : goal.emit_statement-index_mut-requires
emit_statement-index_mut-requires c = grind (arith, elements)
