use Rattle.recovery_line.proofs.OneNode.{node_never_falls_back}
use Rattle.recovery_line.proofs.one_node.node_line_law.Goals as goal

pub returns : goal.returns
returns c = node_never_falls_back
