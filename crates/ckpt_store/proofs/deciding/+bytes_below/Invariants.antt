use Rattle.std.proofs.Common.{length}
use Rattle.ckpt_store.proofs.deciding.+bytes_below.Given as goal

abbrev pub decreases-bytes_below : goal.decreases-bytes_below
decreases-bytes_below l = length l.decisions.now
