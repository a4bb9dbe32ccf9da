use Rattle.std.proofs.Common.{ap, arith}
use Rattle.std.proofs.lemmas.Grind.{elements}
use Rattle.node.specs.NodeView.{mode_view}
use Rattle.node.proofs.node.Node.grant.Goals as goal

pub returns-in-Down-clause-state : goal.returns-in-Down-clause-state
returns-in-Down-clause-state g c = grind (arith, elements)

pub returns-in-Down-clause-job : goal.returns-in-Down-clause-job
returns-in-Down-clause-job g c = grind (arith, elements)

pub returns-in_default-clause-job : goal.returns-in_default-clause-job
returns-in_default-clause-job g c = grind (arith, elements)

pub returns-in-Running-clause-state : goal.returns-in-Running-clause-state
returns-in-Running-clause-state g c = grind (arith, elements)

pub returns-in_default-clause-state : goal.returns-in_default-clause-state
returns-in_default-clause-state g c = grind (arith, elements)

pub grant-requires : goal.grant-requires
grant-requires g c = record { at_hand = c.requires.at_hand _ (ap mode_view c.in-Running.is) }
