use Rattle.std.proofs.Common.{arith}
use Rattle.std.proofs.lemmas.Grind.{elements}
use Rattle.station.proofs.station.Station.pick_own.Goals as goal

pub returns-then-has_grant : goal.returns-then-has_grant
returns-then-has_grant c = grind (arith, elements)

pub returns : goal.returns
returns c = grind (arith, elements)

pub returns-then-may_decide : goal.returns-then-may_decide
returns-then-may_decide c = grind (arith, elements)

pub returns-then-may_send : goal.returns-then-may_send
returns-then-may_send c = grind (arith, elements)

pub returns-then-is_some : goal.returns-then-is_some
returns-then-is_some c = grind (arith, elements)

pub returns-then-wants_checkpoint : goal.returns-then-wants_checkpoint
returns-then-wants_checkpoint c = grind (arith, elements)
