use Rattle.sector_disk.proofs.Changes.{changed_to}
use Rattle.std.proofs.lemmas.Grind.{elements}
use Rattle.std.proofs.Common.{arith}
use Rattle.sector_disk.proofs.memory.MemDiskDisk.sync.Goals as goal

pub returns-clause-time : goal.returns-clause-time
returns-clause-time c = changed_to _ _ _ _ _ c.note.ensures

pub returns-clause-durable : goal.returns-clause-durable
returns-clause-durable c = grind (arith, elements)
