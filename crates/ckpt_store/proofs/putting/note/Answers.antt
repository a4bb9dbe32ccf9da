use Rattle.std.proofs.Common.{arith}
use Rattle.std.proofs.lemmas.Grind.{elements}
use Rattle.ckpt_store.proofs.putting.note.Goals as goal

pub returns-else-is_failure-clause-known : goal.returns-else-is_failure-clause-known
returns-else-is_failure-clause-known c = grind (arith, elements)

pub returns-then-is_failure-clause-known : goal.returns-then-is_failure-clause-known
returns-then-is_failure-clause-known c = grind (arith, elements)
