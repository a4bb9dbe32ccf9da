use Rattle.node_memory.proofs.Pops.{trimmed_is}
use Rattle.std.proofs.Common.{arith}
use Rattle.std.proofs.lemmas.Grind.{elements}
use Rattle.node_memory.proofs.popping.turn_inbox.Goals as goal

pub returns-in-None : goal.returns-in-None
returns-in-None c =
    trimmed_is c.args.channels.now c.args.process c.args.taken.now c.args.inbox.now c.trim_taken.new.log _
    c.count_taken-count.ensures c.trim_taken.ensures c.args.prepared c.in-None.is c.requires

pub returns-in-Some : goal.returns-in-Some
returns-in-Some c = grind (arith, elements)
