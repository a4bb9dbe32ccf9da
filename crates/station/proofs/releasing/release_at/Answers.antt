use Rattle.std.proofs.Common.{arith}
use Rattle.std.proofs.lemmas.Grind.{elements}
use Rattle.station.proofs.releasing.release_at.Goals as goal

pub returns-in-Err-Failed-clause-trimmed : goal.returns-in-Err-Failed-clause-trimmed
returns-in-Err-Failed-clause-trimmed g c = grind (arith, elements)

pub returns-in-Ok-clause-handed : goal.returns-in-Ok-clause-handed
returns-in-Ok-clause-handed g c = grind (arith, elements)

pub returns-in-Err-Failed-clause-handed : goal.returns-in-Err-Failed-clause-handed
returns-in-Err-Failed-clause-handed g c = grind (arith, elements)

pub returns-in-Ok-clause-trimmed : goal.returns-in-Ok-clause-trimmed
returns-in-Ok-clause-trimmed g c = grind (arith, elements)
