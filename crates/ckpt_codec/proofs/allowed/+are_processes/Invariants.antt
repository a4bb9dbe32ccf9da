use Rattle.std.proofs.Common.{length}
use Rattle.ckpt_codec.proofs.allowed.+are_processes.Given as goal

abbrev pub decreases-are_processes : goal.decreases-are_processes
decreases-are_processes l = length l.processes.now
