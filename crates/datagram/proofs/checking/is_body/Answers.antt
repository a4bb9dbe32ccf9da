use Rattle.std.proofs.lemmas.Grind.{elements}
use Rattle.std.proofs.Common.{arith}
use Rattle.datagram.proofs.checking.is_body.Goals as goal

pub returns-in-Undone : goal.returns-in-Undone
returns-in-Undone c = grind (arith, elements)

pub returns-in-Ack : goal.returns-in-Ack
returns-in-Ack c = grind (arith, elements)

pub returns-then-is_channel-2 : goal.returns-then-is_channel-2
returns-then-is_channel-2 c = grind (arith, elements)

pub returns-then-is_positive : goal.returns-then-is_positive
returns-then-is_positive c = grind (arith, elements)

pub returns-in-Covered : goal.returns-in-Covered
returns-in-Covered c = grind (arith, elements)

pub returns-then-is_ask : goal.returns-then-is_ask
returns-then-is_ask c = grind (arith, elements)

pub returns-then-is_channel : goal.returns-then-is_channel
returns-then-is_channel c = grind (arith, elements)

pub returns-else-is_ask : goal.returns-else-is_ask
returns-else-is_ask c = grind (arith, elements)

pub returns-in-Ask : goal.returns-in-Ask
returns-in-Ask c = grind (arith, elements)
