use Rattle.std.proofs.Common.{◌∙◌, ap, sym, ◌+◌, ◌≤◌, length, subst, ℕ, ℤ, List}
use Rattle.std.specs.Prelude.{◌↔◌, ◌<◌, IsTrue, max}
use Rattle.std.proofs.lemmas.Result.{IfOk-weaker}
use Rattle.window_link.specs.Windows.{is_due}
use Rattle.protocol.specs.Node.Common.{first_due, MAX_COUNT}
use Rattle.node_memory.proofs.Dues.{taken_due, due_within}
use Rattle.node_memory.proofs.sending.copy_due.Goals as goal

pub returns-clause-due : goal.returns-clause-due
returns-clause-due c =
    let due = c.due-due in
    let first = due.ensures.first ∙ ap (max c.args.outbox.now.window.acknowledged) c.base.ensures in
    let members =
    subst (λ (e : ℕ). (p : ℕ)
    → ((due.result.start ≤ p) × (p < due.result.end))
    ↔ IsTrue (is_due c.args.outbox.now.window c.args.log.now.base e p)) c.end.ensures.value
    (subst (λ (b : ℕ). (p : ℕ)
    → ((due.result.start ≤ p) × (p < due.result.end)) ↔ IsTrue (is_due c.args.outbox.now.window b c.end.result p))
    c.base.ensures due.ensures.members) in
    IfOk-weaker c.copy_since.result
    _ _ (λ items is. is
    ∙ taken_due c.args.outbox.now c.args.log.now due.result.start due.result.end first due.ensures.proper members)
    c.copy_since.ensures

pub returns-clause-within : goal.returns-clause-within
returns-clause-within c =
    let outbox = c.args.outbox.now in
    let log = c.args.log.now in
    let high = subst (λ (e : ℕ). e ≤ MAX_COUNT) c.end.ensures.value c.end.ensures.bound in
    IfOk-weaker c.copy_since.result _ _ (λ items is.
    subst (λ (list : List ℤ). 0 < length list → first_due outbox log + length list ≤ MAX_COUNT) (sym is)
    (due_within outbox log MAX_COUNT high)) (returns-clause-due c)
