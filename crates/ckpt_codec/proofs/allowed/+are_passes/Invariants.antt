use Rattle.std.proofs.Common.{length}
use Rattle.ckpt_codec.proofs.allowed.+are_passes.Given as goal

abbrev pub decreases-are_passes : goal.decreases-are_passes
decreases-are_passes l = length l.left.now
