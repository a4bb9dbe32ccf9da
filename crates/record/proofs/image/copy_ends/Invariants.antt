use Rattle.std.proofs.Common.{◌≡◌, take}
use Rattle.record.proofs.image.copy_ends.Given as goal

abbrev pub invariant-loop-end : goal.invariant-loop-end
invariant-loop-end l = l.copies.items ≡ take l.end-index l.saved
