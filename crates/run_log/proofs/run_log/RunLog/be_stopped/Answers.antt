use Rattle.std.proofs.Common.{arith}
use Rattle.std.proofs.lemmas.Grind.{elements}
use Rattle.run_log.proofs.run_log.RunLog.be_stopped.Goals as goal

pub invariant_of-self : goal.invariant_of-self
invariant_of-self g c = grind (arith, elements)

pub returns-then-self-ge-MAX_COUNT-clause-refused : goal.returns-then-self-ge-MAX_COUNT-clause-refused
returns-then-self-ge-MAX_COUNT-clause-refused g c = grind (arith, elements)
