use Rattle.std.proofs.Common.{◌+◌, suc, refl, arith}
use Rattle.net_text.specs.Trees.{block_tree, expr_tree}
use Rattle.net_check.specs.Texts.{block_units_text, expr_units_text}
use Rattle.net_check.proofs.Counting.{counted_on, none_left, then_costs, units_at}
use Rattle.net_check.proofs.Ifs.{if_units, repeat_units}
use Rattle.net_check.proofs.limits.+units.Goals as goal

pub units_after-returns-in-None : goal.units_after-returns-in-None
units_after-returns-in-None t c =
    let here =
    units_at c.args.statements.now c.loop-statement.statement-index c.statement-item.result (omega arith)
    c.statement-item.is in
    let short = c.in-None.ensures in
    let i = c.loop-statement.invariant in
    omega arith

pub units_after-loop-statement-preserved : goal.units_after-loop-statement-preserved
units_after-loop-statement-preserved t c =
    let here =
    units_at c.args.statements.now c.loop-statement.statement-index c.statement-item.result (omega arith)
    c.statement-item.is in
    let i = c.loop-statement.invariant in
    omega arith

pub units_after_statement-returns-then-left-eq0 : goal.units_after_statement-returns-then-left-eq0
units_after_statement-returns-then-left-eq0 t c = let some = then_costs c.args.statement.now in omega arith

pub units_after_statement-returns-in_err-rest-in-If-2 : goal.units_after_statement-returns-in_err-rest-in-If-2
units_after_statement-returns-in_err-rest-in-If-2 t c =
    let whole =
    if_units c.args.statement.now c.in-If.test c.in-If.first c.in-If.second c.deref.result.now c.in-If.second.items
    c.in-If.is c.deref.ensures.value refl in
    let test = c.in_ok-rest-in-If.ensures in
    let short = c.in_err-rest-in-If-2.ensures in
    none_left _ _ _ c.from_residual-in_err-rest-in-If-2.ensures (omega arith)

pub units_after_statement-returns-in_ok-rest-in-If-2 : goal.units_after_statement-returns-in_ok-rest-in-If-2
units_after_statement-returns-in_ok-rest-in-If-2 t c =
    let whole =
    if_units c.args.statement.now c.in-If.test c.in-If.first c.in-If.second c.deref.result.now
    c.deref-in-If.result.now c.in-If.is c.deref.ensures.value c.deref-in-If.ensures.value in
    let test = c.in_ok-rest-in-If.ensures in
    let first = c.in_ok-rest-in-If-2.ensures in
    counted_on c.units_after-in-If.result c.args.left c.in_ok-rest-in-If-2.rest
    (suc (expr_units_text (expr_tree c.in-If.test) + block_units_text (block_tree c.deref.result.now)))
    (block_units_text (block_tree c.deref-in-If.result.now)) _ (omega arith) (omega arith)
    c.units_after-in-If.ensures

pub units_after_statement-returns-in_ok-rest-in-Repeat : goal.units_after_statement-returns-in_ok-rest-in-Repeat
units_after_statement-returns-in_ok-rest-in-Repeat t c =
    let whole =
    repeat_units c.args.statement.now c.in-Repeat.times c.in-Repeat.line c.in-Repeat.body c.deref-in-Repeat.result.now
    c.in-Repeat.is c.deref-in-Repeat.ensures.value in
    let taken = c.in_ok-rest-in-Repeat.ensures in
    counted_on c.units_after-in-Repeat.result c.args.left c.in_ok-rest-in-Repeat.rest 2
    (block_units_text (block_tree c.deref-in-Repeat.result.now)) _ (omega arith) (omega arith)
    c.units_after-in-Repeat.ensures
