use Rattle.sector_disk.proofs.Changes.{changed_to}
use Rattle.std.proofs.lemmas.Grind.{elements}
use Rattle.std.proofs.Common.{arith}
use Rattle.sector_disk.proofs.memory.MemDiskDisk.write.Goals as goal

pub returns-then-count_call-clause-time : goal.returns-then-count_call-clause-time
returns-then-count_call-clause-time c = changed_to _ _ _ _ _ c.note.ensures

pub returns-clause-time : goal.returns-clause-time
returns-clause-time c = changed_to _ _ _ _ _ c.note.ensures

pub returns-then-count_call-clause-counted : goal.returns-then-count_call-clause-counted
returns-then-count_call-clause-counted c = grind (arith, elements)
