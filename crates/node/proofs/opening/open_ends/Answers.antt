use Rattle.protocol.specs.Node.Common.{network_of}
use Rattle.node.proofs.Opened.{all_opened}
use Rattle.std.proofs.Common.{arith}
use Rattle.std.proofs.lemmas.Grind.{common_steps}
use Rattle.node.proofs.opening.open_ends.Goals as goal

pub returns-clause-ordered : goal.returns-clause-ordered
returns-clause-ordered c =
    all_opened (network_of c.args.net.now.program) c.args.home c.loop-number.number c.args.channels.now
    c.loop-number.ends.items c.loop-number-test.false c.loop-number.invariant

pub returns-clause-ends : goal.returns-clause-ends
returns-clause-ends c = grind (arith, common_steps)

pub loop-number-preserved : goal.loop-number-preserved
loop-number-preserved c = grind (arith, common_steps)
