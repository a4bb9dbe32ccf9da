use Rattle.std.proofs.Common.{arith}
use Rattle.std.proofs.lemmas.Grind.{elements}
use Rattle.runtime.proofs.threads.fn.run_at_desks.scope+FnOnce.call_once.Goals as goal

pub scope-requires : goal.scope-requires
scope-requires c = grind (arith, elements)
