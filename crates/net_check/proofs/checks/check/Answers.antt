use Rattle.net_text.specs.Trees.{net_tree}
use Rattle.net_check.specs.NetFaults.{HasFault}
use Rattle.net_check.proofs.Accepting.{no_fault, ok_unless}
use Rattle.net_check.proofs.checks.check.Goals as goal

pub returns-clause-accepted : goal.returns-clause-accepted
returns-clause-accepted c =
    λ channels processes net resolves valid. ok_unless c.check_in_order.result (HasFault (net_tree c.args.text))
    c.check_in_order.ensures.fault (no_fault (net_tree c.args.text) channels processes net resolves valid)
