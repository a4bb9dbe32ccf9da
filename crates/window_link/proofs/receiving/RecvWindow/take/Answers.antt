use Rattle.std.proofs.lemmas.Grind.{elements}
use Rattle.std.proofs.Common.{arith}
use Rattle.window_link.proofs.receiving.RecvWindow.take.Goals as goal

pub put-requires : goal.put-requires
put-requires c = grind (arith, elements)

pub invariant_of-self : goal.invariant_of-self
invariant_of-self c = grind (arith, elements)
