use Rattle.std.proofs.Common.{◌≡◌, ◌++◌, drop, map}
use Rattle.kahn_net.specs.Syntax.{network_of}
use Rattle.protocol.specs.Node.Collecting.{new_asks, with_needs}
use Rattle.decide_core.specs.InitiatorView.{question_view}
use Rattle.decide_core.proofs.initiator.add_new_asks.Given as goal

-- what was there, what is added, and then what is to come; and what is noted so far, and what is to be
abbrev pub invariant-loop-need : goal.invariant-loop-need
invariant-loop-need l =
    (l.packets.items
    ++ new_asks (network_of l.net.program) l.home l.number (drop l.need-index l.needs) (map question_view l.questions)
    ≡ l.fn.packets.items
    ++ new_asks (network_of l.net.program) l.home l.number l.needs (map question_view l.fn.questions))
    × (with_needs (network_of l.net.program) l.home (drop l.need-index l.needs) (map question_view l.questions)
    ≡ with_needs (network_of l.net.program) l.home l.needs (map question_view l.fn.questions))
