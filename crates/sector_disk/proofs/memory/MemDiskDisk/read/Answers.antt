use Rattle.std.proofs.lemmas.Grind.{elements}
use Rattle.std.proofs.Common.{arith}
use Rattle.sector_disk.proofs.memory.MemDiskDisk.read.Goals as goal

pub returns-clause-time : goal.returns-clause-time
returns-clause-time c = grind (arith, elements)
