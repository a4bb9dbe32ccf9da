use Rattle.std.proofs.Common.{ℕ, [], ◌∷◌, ◌++◌, ◌∙◌, ap, arith}
use Rattle.proc_step.proofs.Counts.{counted_all, counted_more}
use Rattle.proc_step.proofs.outcome.count_taken.Goals as goal

pub loop-items-preserved : goal.loop-items-preserved
loop-items-preserved c =
    let s = c.in-Some.ensures.steps in
    counted_more c.loop-items.taken.items c.push.new.self.items _ c.in-Some.items.now c.in-Some.left.now _ _ _ _ s.0 s.1
    (c.in_ok-push.ensures.items
    ∙ ap (λ (n : ℕ). c.loop-items.taken.items ++ n ∷ [])
    (omega (arith, c.saturating_sub.ensures, c.len.ensures, c.len-in-loop-items.ensures)))
    c.loop-items.invariant

pub returns : goal.returns
returns c =
    counted_all c.loop-items.taken.items _ _ _ (λ p. p.1.0) (λ q. q.1.0) c.in-None.ensures.steps c.loop-items.invariant
