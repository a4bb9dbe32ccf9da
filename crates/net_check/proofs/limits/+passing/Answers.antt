use Rattle.std.proofs.Common.{◌≡◌, ◌∙◌, sym, ap, refl, Bool, true, ◌&&◌, nat_lt, arith}
use Rattle.std.proofs.lemmas.Bool.{lt-ltb}
use Rattle.net_text.specs.Trees.{block_tree}
use Rattle.net_check.specs.Texts.{is_passing_text}
use Rattle.net_check.proofs.Counting.{passes_here, passes_later}
use Rattle.net_check.proofs.Ifs.{if_passes, repeat_passes}
use Rattle.net_check.proofs.limits.+passing.Goals as goal

pub is_passing-returns-then-is_passing_statement : goal.is_passing-returns-then-is_passing_statement
is_passing-returns-then-is_passing_statement t c =
    passes_here c.args.statements.now c.loop-statement.statement-index c.statement-item.result
    c.loop-statement-test.true c.statement-item.is c.loop-statement.invariant c.if-is_passing_statement.ensures

pub is_passing-loop-statement-preserved : goal.is_passing-loop-statement-preserved
is_passing-loop-statement-preserved t c =
    passes_later c.args.statements.now c.loop-statement.statement-index c.statement-item.result
    c.loop-statement-test.true c.statement-item.is c.loop-statement.invariant c.if-is_passing_statement.ensures

pub is_passing_statement-returns-then-not-is_passing : goal.is_passing_statement-returns-then-not-is_passing
is_passing_statement-returns-then-not-is_passing t c =
    let whole =
    if_passes c.args.statement.now c.in-If.test c.in-If.first c.in-If.second c.deref.result.now
    c.in-If.second.items c.in-If.is c.deref.ensures.value refl in
    ap (λ (b : Bool). b && is_passing_text (block_tree c.in-If.second.items)) c.if-not-is_passing.ensures ∙ sym whole

pub is_passing_statement-returns-else-not-is_passing : goal.is_passing_statement-returns-else-not-is_passing
is_passing_statement-returns-else-not-is_passing t c =
    let whole =
    if_passes c.args.statement.now c.in-If.test c.in-If.first c.in-If.second c.deref.result.now
    c.deref-in-If.result.now c.in-If.is c.deref.ensures.value c.deref-in-If.ensures.value in
    c.is_passing-in-If.ensures
    ∙ ap (λ (b : Bool). b && is_passing_text (block_tree c.deref-in-If.result.now)) c.if-not-is_passing.ensures
    ∙ sym whole

pub is_passing_statement-returns-else-times-eq0 : goal.is_passing_statement-returns-else-times-eq0
is_passing_statement-returns-else-times-eq0 t c =
    let whole =
    repeat_passes c.args.statement.now c.in-Repeat.times c.in-Repeat.line c.in-Repeat.body c.deref-in-Repeat.result.now
    c.in-Repeat.is c.deref-in-Repeat.ensures.value in
    let some : nat_lt 0 c.in-Repeat.times ≡ true =
    lt-ltb 0 c.in-Repeat.times (omega (arith, c.if-times-eq0.false)) in
    c.is_passing-in-Repeat.ensures
    ∙ (ap (λ (b : Bool). b && is_passing_text (block_tree c.deref-in-Repeat.result.now)) (sym some) ∙ sym whole)
