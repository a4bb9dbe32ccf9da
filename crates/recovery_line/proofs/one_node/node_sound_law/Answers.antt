use Rattle.recovery_line.proofs.OneNode.{node_is_sound}
use Rattle.recovery_line.proofs.Deciding.{own_is_not_effective}
use Rattle.recovery_line.proofs.one_node.node_sound_law.Goals as goal

pub returns-clause-restarts : goal.returns-clause-restarts
returns-clause-restarts c = node_is_sound

pub returns-clause-in_line : goal.returns-clause-in_line
returns-clause-in_line c = own_is_not_effective
