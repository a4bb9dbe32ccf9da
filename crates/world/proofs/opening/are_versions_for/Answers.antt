use Rattle.std.proofs.Common.{arith}
use Rattle.std.proofs.lemmas.Grind.{elements}
use Rattle.world.proofs.opening.are_versions_for.Goals as goal

pub returns-then-versions-disks : goal.returns-then-versions-disks
returns-then-versions-disks c = grind (arith, elements)
