use Rattle.std.proofs.Common.{◌≡◌, drop}
use Rattle.std.specs.List.{list_all}
use Rattle.datagram.specs.declared.packet.Need.{Need}
use Rattle.kahn_net.specs.Syntax.{network_of}
use Rattle.protocol.specs.Node.Layout.{is_incoming}
use Rattle.layout.proofs.addresses.are_incoming.Given as goal

abbrev pub invariant-loop-need : goal.invariant-loop-need
invariant-loop-need l =
    list_all (λ (need : Need). is_incoming (network_of l.net.program) l.home need.channel) (drop l.need-index l.needs)
    ≡ list_all (λ (need : Need). is_incoming (network_of l.net.program) l.home need.channel) l.needs
