use Rattle.recovery_line.proofs.OneHears.{node_hears_ok}
use Rattle.recovery_line.proofs.one_node.node_packet_law.Goals as goal

pub returns : goal.returns
returns c = node_hears_ok
