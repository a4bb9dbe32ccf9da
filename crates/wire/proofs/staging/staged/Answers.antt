use Rattle.std.proofs.lemmas.Grind.{common_steps, elements}
use Rattle.std.proofs.Common.{arith}
use Rattle.wire.proofs.staging.staged.Goals as goal

pub returns-clause-count : goal.returns-clause-count
returns-clause-count c = grind (arith, elements)

pub stage_all-requires-clause-there : goal.stage_all-requires-clause-there
stage_all-requires-clause-there c = grind (arith, elements)

pub returns-clause-ready : goal.returns-clause-ready
returns-clause-ready c = grind (arith, common_steps)
