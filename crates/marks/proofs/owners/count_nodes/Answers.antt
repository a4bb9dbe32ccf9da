use Rattle.std.proofs.Common.{rules, ◌<◌, arith}
use Rattle.marks.proofs.Nodes.{node_below_16}
use Rattle.std.proofs.lemmas.Grind.{common_steps}
use Rattle.marks.proofs.owners.count_nodes.Goals as goal

pub overflow_add-count : goal.overflow_add-count
overflow_add-count c =
    let net = c.args.net.now in
    let few : c.process-item.result.node < 16 =
    node_below_16 net.program c.deref-process-items.result.now c.loop-process.process-index c.process-item.result
    c.deref-process-items.ensures.value net.valid (omega arith) c.process-item.is in
    search (rules, arith)

pub loop-process-preserved : goal.loop-process-preserved
loop-process-preserved c = grind (arith, common_steps)
