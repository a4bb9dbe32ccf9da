use Rattle.std.proofs.Common.{List, map, subst}
use Rattle.protocol.specs.Node.Common.{Packet}
use Rattle.protocol.specs.World.Common.{sending_of}
use Rattle.station.specs.Coming.{IsReadyFor}
use Rattle.station.proofs.Ready.{still_ready}
use Rattle.std.proofs.Common.{arith}
use Rattle.std.proofs.lemmas.Grind.{elements}
use Rattle.station.proofs.network.prepare.Goals as goal

-- what was made ready first has its room still
pub returns-clause-made : goal.returns-clause-made
returns-clause-made c =
    subst (λ (list : List Packet). IsReadyFor c.make_ready-2.new.wire c.args.round (map sending_of list) c.in_ok-made.made)
    c.deref.ensures.value
    (still_ready c.make_ready.new.wire c.make_ready-2.new.wire c.args.round (map sending_of c.deref.result.now)
    c.in_ok-made.made c.make_ready-2.ensures.same c.in_ok-declined.ensures.more c.in_ok-made.ensures.ready)

pub returns-clause-declined : goal.returns-clause-declined
returns-clause-declined c = grind (arith, elements)
