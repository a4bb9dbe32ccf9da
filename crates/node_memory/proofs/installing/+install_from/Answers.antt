use Rattle.std.proofs.Common.{arith}
use Rattle.protocol.specs.Node.Common.{inbox_turned}
use Rattle.node_memory.proofs.Pops.{front_read, turned_here}
use Rattle.node_memory.proofs.installing.+install_from.Goals as goal

pub returns-clause-inboxes : goal.returns-clause-inboxes
returns-clause-inboxes t c =
    turned_here (inbox_turned c.args.channels.now c.args.process c.args.taken.now) c.install_from.new.inboxes.items
    c.args.inboxes.now.items c.args.from c.index_mut.result.now c.turn_inbox.new.inbox
    (front_read _ _ _ c.args.from c.index_mut.result.now (omega arith) c.in_ok-install_from.ensures.inboxes
    c.index_mut.ensures.value) c.in_ok-install_from.ensures.inboxes c.turn_inbox.ensures
