use Rattle.std.proofs.Common.{◌≡◌, take}
use Rattle.record.proofs.image.copy_processes.Given as goal

abbrev pub invariant-loop-process : goal.invariant-loop-process
invariant-loop-process l = l.copies.items ≡ take l.process-index l.saved
