use Rattle.std.proofs.Common.{arith}
use Rattle.std.proofs.lemmas.Grind.{elements}
use Rattle.station.proofs.stance.is_leaving.Goals as goal

pub returns-then-has_what_was_got : goal.returns-then-has_what_was_got
returns-then-has_what_was_got g c = grind (arith, elements)

pub returns-else-has_what_was_got : goal.returns-else-has_what_was_got
returns-else-has_what_was_got g c = grind (arith, elements)
