use Rattle.std.proofs.Common.{length}
use Rattle.ckpt_store.proofs.refusing.+some_names.Given as goal

abbrev pub decreases-some_names : goal.decreases-some_names
decreases-some_names l = length l.decisions.now
