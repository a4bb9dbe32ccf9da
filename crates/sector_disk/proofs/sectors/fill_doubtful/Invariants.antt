use Rattle.sector_disk.proofs.Settle.{SettledUpTo}
use Rattle.sector_disk.proofs.sectors.fill_doubtful.Given as goal

abbrev pub invariant-loop-k : goal.invariant-loop-k
invariant-loop-k l = SettledUpTo l.k l.fill l.in_doubt l.initial.bytes l.bytes
