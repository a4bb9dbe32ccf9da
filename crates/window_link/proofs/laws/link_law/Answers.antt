use Rattle.window_link.specs.Link.{opening}
use Rattle.window_link.proofs.Acknowledged.{acked_over, acked_at_first}
use Rattle.window_link.proofs.Prefix.{taken_is_beginning}
use Rattle.window_link.proofs.laws.link_law.Goals as goal

pub returns-clause-prefix : goal.returns-clause-prefix
returns-clause-prefix c = λ size events one_each. taken_is_beginning events size (acked_at_first size) one_each

pub returns-clause-next : goal.returns-clause-next
returns-clause-next c = λ size events. (acked_over events (opening size) (acked_at_first size)).count

pub returns-clause-present : goal.returns-clause-present
returns-clause-present c = λ size events. (acked_over events (opening size) (acked_at_first size)).present

pub returns-clause-acknowledged : goal.returns-clause-acknowledged
returns-clause-acknowledged c = λ size events. (acked_over events (opening size) (acked_at_first size)).acknowledged
