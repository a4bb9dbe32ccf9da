use Rattle.std.proofs.lemmas.Grind.{elements}
use Rattle.std.proofs.Common.{arith}
use Rattle.decide_core.proofs.hearing.verdict_of.Goals as goal

pub returns-then-is_live : goal.returns-then-is_live
returns-then-is_live c = grind (arith, elements)
