use Rattle.std.proofs.lemmas.Grind.{elements}
use Rattle.std.proofs.Common.{arith}
use Rattle.sector_disk.proofs.past.Past.note.Goals as goal

pub returns : goal.returns
returns g c = grind (arith, elements)
