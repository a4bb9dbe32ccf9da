use Rattle.std.proofs.lemmas.Grind.{elements}
use Rattle.std.proofs.Common.{arith}
use Rattle.net_check.proofs.binding.Binding.new.Goals as goal

pub returns-clause-empty : goal.returns-clause-empty
returns-clause-empty c = grind (arith, elements)

pub returns-clause-fresh : goal.returns-clause-fresh
returns-clause-fresh c = grind (arith, elements)

pub returns-clause-lists : goal.returns-clause-lists
returns-clause-lists c = grind (arith, elements)

pub returns-clause-named : goal.returns-clause-named
returns-clause-named c = grind (arith, elements)

pub returns-in_err-push-2-clause-empty : goal.returns-in_err-push-2-clause-empty
returns-in_err-push-2-clause-empty c = grind (arith, elements)

pub returns-in_err-push-2-clause-fresh : goal.returns-in_err-push-2-clause-fresh
returns-in_err-push-2-clause-fresh c = grind (arith, elements)

pub returns-in_err-push-2-clause-lists : goal.returns-in_err-push-2-clause-lists
returns-in_err-push-2-clause-lists c = grind (arith, elements)

pub returns-in_err-push-2-clause-named : goal.returns-in_err-push-2-clause-named
returns-in_err-push-2-clause-named c = grind (arith, elements)

pub returns-in_err-push-clause-empty : goal.returns-in_err-push-clause-empty
returns-in_err-push-clause-empty c = grind (arith, elements)

pub returns-in_err-push-clause-fresh : goal.returns-in_err-push-clause-fresh
returns-in_err-push-clause-fresh c = grind (arith, elements)

pub returns-in_err-push-clause-lists : goal.returns-in_err-push-clause-lists
returns-in_err-push-clause-lists c = grind (arith, elements)

pub returns-in_err-push-clause-named : goal.returns-in_err-push-clause-named
returns-in_err-push-clause-named c = grind (arith, elements)

pub loop-preserved : goal.loop-preserved
loop-preserved c = grind (arith, elements)
