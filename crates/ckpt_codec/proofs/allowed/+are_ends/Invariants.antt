use Rattle.std.proofs.Common.{length}
use Rattle.ckpt_codec.proofs.allowed.+are_ends.Given as goal

abbrev pub decreases-are_ends : goal.decreases-are_ends
decreases-are_ends l = length l.ends.now
