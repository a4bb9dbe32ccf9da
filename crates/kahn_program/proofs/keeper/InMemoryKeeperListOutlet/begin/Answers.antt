use Rattle.std.proofs.Common.{arith, inl, true}
use Rattle.std.proofs.lemmas.Grind.{elements}
use Rattle.kahn_program.proofs.Faults.{fault_is}
use Rattle.kahn_program.proofs.keeper.InMemoryKeeperListOutlet.begin.Goals as goal

pub open_world-requires-clause-unfailed : goal.open_world-requires-clause-unfailed
open_world-requires-clause-unfailed c = grind (arith, elements)

pub returns-in-Err-clause-err : goal.returns-in-Err-clause-err
returns-in-Err-clause-err c = rw c.run_failure.ensures (inl (fault_is true c.in-Err.unfinished.fault (c.in-Err.ensures.err true)))
