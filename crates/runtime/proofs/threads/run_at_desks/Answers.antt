use Rattle.std.proofs.Common.{arith}
use Rattle.std.proofs.lemmas.Grind.{elements}
use Rattle.runtime.proofs.threads.run_at_desks.Goals as goal

pub scoped-requires : goal.scoped-requires
scoped-requires g c = grind (arith, elements)
