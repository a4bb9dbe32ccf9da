use Rattle.runtime.proofs.threads.fn.run_at_desks.scope.Given as goal

abbrev pub decreases-loop-handle : goal.decreases-loop-handle
decreases-loop-handle g l = goal.left-loop-handle g l
