use Rattle.recovery_line.proofs.OneNode.{node_stays_ok}
use Rattle.recovery_line.proofs.one_node.node_law.Goals as goal

pub returns : goal.returns
returns c = node_stays_ok
