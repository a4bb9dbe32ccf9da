use Rattle.std.proofs.Common.{arith}
use Rattle.std.proofs.lemmas.Grind.{elements}
use Rattle.runtime.proofs.watching.fn.run_beside.join+arg3+FnOnce.call_once.Goals as goal

pub join+arg3-requires : goal.join+arg3-requires
join+arg3-requires c = grind (arith, elements)
