use Rattle.std.proofs.Common.{length}
use Rattle.run_files.proofs.places.+is_within.Given as goal

abbrev pub decreases-is_within : goal.decreases-is_within
decreases-is_within l = length l.folder.now
