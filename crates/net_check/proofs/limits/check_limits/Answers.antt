use Rattle.std.proofs.Common.{refl, sym}
use Rattle.net_text.specs.Trees.{process_tree}
use Rattle.net_check.specs.NetFaults.{many_units, many_times}
use Rattle.net_check.proofs.Fitting.{past_units}
use Rattle.std.proofs.Common.{arith}
use Rattle.std.proofs.lemmas.Grind.{elements}
use Rattle.net_check.proofs.limits.check_limits.Goals as goal

pub returns-then-not-has_few_units-clause-err : goal.returns-then-not-has_few_units-clause-err
returns-then-not-has_few_units-clause-err c =
    λ text p h. many_units p (process_tree c.args.process.now) h
    (past_units c.has_few_units.result _ c.has_few_units.ensures.1 c.if-not-has_few_units.true) refl

pub returns-in-Some-clause-err : goal.returns-in-Some-clause-err
returns-in-Some-clause-err c = λ text p h. many_times p (process_tree c.args.process.now) h (sym c.in-Some.ensures)

pub returns-clause-err : goal.returns-clause-err
returns-clause-err c = grind (arith, elements)
