use Rattle.std.proofs.Common.{◌∙◌, ◌+◌, ap, slice_index, sym, subst, ◌≤◌, ℕ}
use Rattle.kahn_net.specs.declared.limits.TheConstants.{MAX_COUNT}
use Rattle.wire.specs.Rules.{capped}
use Rattle.wire.specs.Wire.{nth_in}
use Rattle.wire.proofs.Free.{not_before, not_behind}
use Rattle.wire.proofs.direct.is_free.Goals as goal

pub returns-then-is_none_between : goal.returns-then-is_none_between
returns-then-is_none_between c = λ told ahead less.
    let s = c.args.sending.now in
    let sent = slice_index c.args.queue.now.counts s.from in
    let next = c.next_number-next.ensures in
    c.is_none_between.ensures c.if-is_none_between.true s.from s.to (capped (nth_in c.args.queue.now.counts s.from + ahead))
    (subst (λ (n : ℕ). n ≤ capped (nth_in c.args.queue.now.counts s.from + ahead)) (sym next)
    (not_before sent ahead MAX_COUNT))
    (subst (λ (n : ℕ). capped (nth_in c.args.queue.now.counts s.from + ahead) ≤ n)
    (sym (c.capped_sum.ensures ∙ ap (λ (n : ℕ). capped (n + c.args.count)) next))
    (not_behind sent ahead c.args.count MAX_COUNT less))
