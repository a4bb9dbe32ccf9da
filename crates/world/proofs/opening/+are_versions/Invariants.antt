use Rattle.std.specs.Prelude.{length}
use Rattle.world.proofs.opening.+are_versions.Given as goal

-- the versions that are still to be looked at
abbrev pub decreases-are_versions : goal.decreases-are_versions
decreases-are_versions l = length l.versions.now
