use Rattle.std.proofs.Common.{◌≡◌, ◌==◌, find, drop}
use Rattle.sector_disk.proofs.schedule.armed_for.Given as goal

-- none of those before it is armed for the call
abbrev pub invariant-loop-fault : goal.invariant-loop-fault
invariant-loop-fault l =
    find (λ fault. fault.call == l.call) (drop l.fault-index l.armed) ≡ find (λ fault. fault.call == l.call) l.armed
