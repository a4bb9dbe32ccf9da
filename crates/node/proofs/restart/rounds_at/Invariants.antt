use Rattle.std.proofs.Common.{◌≡◌, ◌==◌, find, drop}
use Rattle.node.proofs.restart.rounds_at.Given as goal

-- none of those before it is armed for the call
abbrev pub invariant-loop-restart : goal.invariant-loop-restart
invariant-loop-restart l =
    find (λ restart. restart.call == l.call) (drop l.restart-index l.armed)
    ≡ find (λ restart. restart.call == l.call) l.armed
