use Rattle.record.proofs.InOrder.{tells_order}
use Rattle.record.proofs.image.are_in_order.Goals as goal

pub returns : goal.returns
returns c = tells_order c.args.ends.now c.ascends.result c.ascends.ensures
