use Rattle.std.proofs.Common.{◌≡◌, drop}
use Rattle.std.specs.List.{list_all}
use Rattle.kahn_net.specs.Syntax.{network_of}
use Rattle.protocol.specs.Node.Collecting.{is_met}
use Rattle.decide_core.proofs.hearing.are_met.Given as goal

abbrev pub invariant-loop-need : goal.invariant-loop-need
invariant-loop-need l =
    list_all (is_met (network_of l.net.program) l.home l.held) (drop l.need-index l.needs)
    ≡ list_all (is_met (network_of l.net.program) l.home l.held) l.needs
