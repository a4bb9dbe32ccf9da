use Rattle.std.proofs.Common.{◌≡◌, take}
use Rattle.cobaltmidge.specs.KeptOutlets.{held_counts}
use Rattle.cobaltmidge.proofs.kept_outlets.held_counts.Given as goal

-- those of the files that were looked at
abbrev pub invariant-loop-file : goal.invariant-loop-file
invariant-loop-file g l = l.counts.items ≡ held_counts (take l.file-index l.files)
