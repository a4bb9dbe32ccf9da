use Rattle.std.proofs.Common.{take}
use Rattle.sector_disk.specs.Schedule.{IsNoneBefore}
use Rattle.sector_disk.proofs.schedule.next_armed.Given as goal

-- none of those that were looked at is armed for an earlier call
abbrev pub invariant-loop-fault : goal.invariant-loop-fault
invariant-loop-fault l = IsNoneBefore l.next l.calls (take l.fault-index l.armed)
