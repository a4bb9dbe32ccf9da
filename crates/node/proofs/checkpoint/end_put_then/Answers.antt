use Rattle.std.proofs.Common.{ap, sym, ◌∙◌}
use Rattle.node.specs.StoredView.{has_failed}
use Rattle.std.proofs.Common.{arith}
use Rattle.std.proofs.lemmas.Grind.{elements}
use Rattle.node.proofs.checkpoint.end_put_then.Goals as goal

pub returns-in-Err-clause-failed : goal.returns-in-Err-clause-failed
returns-in-Err-clause-failed g c = λ test. c.end_put.ensures.failed (sym (ap has_failed c.in-Err.is) ∙ test)

pub returns-in-Ok-clause-failed : goal.returns-in-Ok-clause-failed
returns-in-Ok-clause-failed g c = grind (arith, elements)
