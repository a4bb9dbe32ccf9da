use Rattle.std.proofs.Common.{rules}
use Rattle.protocol.specs.Node.Common.{saved_counted}
use Rattle.record.specs.Laws.Walks.{changed_next}
use Rattle.node_memory.proofs.Installs.{counted_is}
use Rattle.std.proofs.Common.{arith}
use Rattle.std.proofs.lemmas.Grind.{common_steps, elements}
use Rattle.node_memory.proofs.installing.count_all.Goals as goal

pub loop-saved-preserved : goal.loop-saved-preserved
loop-saved-preserved c =
    changed_next (saved_counted c.args.channels.now c.args.process c.args.taken.now) _ _ _ c.saved-item.result
    _ c.loop-saved.invariant (search rules) c.saved-item.is
    (counted_is _ _ _ c.saved-item.result _ _ _ c.count_taken-count.ensures c.count.ensures c.saved-item.is)

pub returns : goal.returns
returns c = grind (arith, common_steps)

pub count-requires : goal.count-requires
count-requires c = grind (arith, elements)
