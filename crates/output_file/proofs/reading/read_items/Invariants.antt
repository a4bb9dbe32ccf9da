use Rattle.std.proofs.Common.{◌-◌, length}
use Rattle.output_file.proofs.Lining.{HasRead}
use Rattle.output_file.proofs.reading.read_items.Given as goal

abbrev pub invariant-loop-len : goal.invariant-loop-len
invariant-loop-len l = HasRead l.bytes l.items.items l.read

abbrev pub decreases-loop-len : goal.decreases-loop-len
decreases-loop-len l = length l.bytes - l.read
