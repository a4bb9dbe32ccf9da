use Rattle.std.proofs.Common.{length}
use Rattle.ckpt_store.proofs.deciding.+each_confirmed_bytes.Given as goal

abbrev pub decreases-each_confirmed_bytes : goal.decreases-each_confirmed_bytes
decreases-each_confirmed_bytes l = length l.decisions.now
