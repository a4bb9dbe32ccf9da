use Rattle.std.proofs.Common.{ℕ, ◌-◌, ◌*◌, Bool, cond, Option, Some, refl, sym, ap, ◌∙◌}
use Rattle.net_text.specs.Trees.{block_tree}
use Rattle.net_check.specs.Texts.{or_line, past_line}
use Rattle.net_check.proofs.Counting.{past_here, past_later}
use Rattle.net_check.proofs.Ifs.{if_past, repeat_past}
use Rattle.net_check.proofs.limits.+past.Goals as goal

pub past_line-returns-in-Some : goal.past_line-returns-in-Some
past_line-returns-in-Some t c =
    past_here c.args.open_yet c.args.round c.args.statements.now c.loop-statement.statement-index
    c.statement-item.result c.in-Some.line c.loop-statement-test.true c.statement-item.is c.loop-statement.invariant
    c.in-Some.ensures

pub past_line-loop-statement-preserved : goal.past_line-loop-statement-preserved
past_line-loop-statement-preserved t c =
    past_later c.args.open_yet c.args.round c.args.statements.now c.loop-statement.statement-index
    c.statement-item.result c.loop-statement-test.true c.statement-item.is c.loop-statement.invariant
    c.in_default.ensures

pub past_line_of-returns-in-Some : goal.past_line_of-returns-in-Some
past_line_of-returns-in-Some t c =
    let later = past_line c.args.open_yet c.args.round (block_tree c.in-If.second.items) in
    ap (λ (x : Option ℕ). or_line x later) c.in-Some.ensures
    ∙ sym (if_past c.args.open_yet c.args.round c.args.statement.now c.in-If.test c.in-If.first c.in-If.second
    c.deref.result.now c.in-If.second.items c.in-If.is c.deref.ensures.value refl)

pub past_line_of-returns-in-None : goal.past_line_of-returns-in-None
past_line_of-returns-in-None t c =
    let later = past_line c.args.open_yet c.args.round (block_tree c.deref-in-None.result.now) in
    c.past_line-in-None.ensures
    ∙ (ap (λ (x : Option ℕ). or_line x later) c.in-None.ensures
    ∙ sym (if_past c.args.open_yet c.args.round c.args.statement.now c.in-If.test c.in-If.first c.in-If.second
    c.deref.result.now c.deref-in-None.result.now c.in-If.is c.deref.ensures.value c.deref-in-None.ensures.value))

pub past_line_of-returns-else-not-is_repeat_within : goal.past_line_of-returns-else-not-is_repeat_within
past_line_of-returns-else-not-is_repeat_within t c =
    let inside = past_line (c.args.open_yet - 1) (c.args.round * c.in-Repeat.times)
    (block_tree c.deref-in-Repeat.result.now) in
    c.past_line-in-Repeat.ensures
    ∙ (ap (λ (b : Bool). cond b inside (Some c.in-Repeat.line)) c.if-not-is_repeat_within.ensures
    ∙ sym (repeat_past c.args.open_yet c.args.round c.args.statement.now c.in-Repeat.times c.in-Repeat.line
    c.in-Repeat.body c.deref-in-Repeat.result.now c.in-Repeat.is c.deref-in-Repeat.ensures.value))
