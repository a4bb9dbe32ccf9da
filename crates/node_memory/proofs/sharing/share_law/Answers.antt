use Rattle.protocol_laws.specs.Node.SizeLaws.{image_within, current_within, opening_within, own_within, decided_within}
use Rattle.node_memory.proofs.sharing.share_law.Goals as goal

pub returns-clause-image : goal.returns-clause-image
returns-clause-image c = image_within

pub returns-clause-current : goal.returns-clause-current
returns-clause-current c = current_within

pub returns-clause-opening : goal.returns-clause-opening
returns-clause-opening c = opening_within

pub returns-clause-started : goal.returns-clause-started
returns-clause-started c = own_within

pub returns-clause-decided : goal.returns-clause-decided
returns-clause-decided c = decided_within
