use Rattle.std.proofs.Common.{◌∙◌, ◌++◌, ◌∷◌, [], ap, ℕ}
use Rattle.folder_status.proofs.Places.{one_limit_more}
use Rattle.folder_status.proofs.limits.list_limits.Goals as goal

pub loop-number-preserved : goal.loop-number-preserved
loop-number-preserved c =
    one_limit_more c.args.kept.now c.args.inner c.args.more c.loop-number.number c.args.channels.now c.loop-number.limits.items c.push.new.self.items _
    c.loop-number-test.true (c.in_ok-push.ensures.items ∙ ap (λ (n : ℕ). c.loop-number.limits.items ++ n ∷ []) c.limit_of.ensures) c.loop-number.invariant
