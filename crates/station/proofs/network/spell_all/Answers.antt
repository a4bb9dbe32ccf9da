use Rattle.station.proofs.Packets.{one_spelled}
use Rattle.std.proofs.Common.{arith}
use Rattle.std.proofs.lemmas.Grind.{elements}
use Rattle.station.proofs.network.spell_all.Goals as goal

pub loop-packet-preserved : goal.loop-packet-preserved
loop-packet-preserved c =
    one_spelled c.args.packets.now c.loop-packet.packet-index c.packet-item.result c.in_ok-spell.field-0
    c.loop-packet.sendings.items c.push.new.self.items c.loop-packet-test.true c.packet-item.is
    c.loop-packet.invariant
    c.in_ok-spell.ensures.sending c.in_ok-spell.ensures.allowed c.in_ok-push.ensures.items

pub returns-clause-allowed : goal.returns-clause-allowed
returns-clause-allowed c = grind (arith, elements)

pub spell-requires : goal.spell-requires
spell-requires c = grind (arith, elements)

pub returns-clause-sendings : goal.returns-clause-sendings
returns-clause-sendings c = grind (arith, elements)

pub loop-packet-init : goal.loop-packet-init
loop-packet-init c = grind (arith, elements)
