use Rattle.std.proofs.Common.{◌≡◌, ◌++◌, drop, length, map, take}
use Rattle.kahn_net.specs.Syntax.{network_of}
use Rattle.protocol.specs.Node.Beginning.{open_questions}
use Rattle.decide_core.specs.InitiatorView.{question_view}
use Rattle.decide_core.proofs.initiator.add_open_asks.Given as goal

-- what was there, what is added, and then what is to come
abbrev pub invariant-loop-channel : goal.invariant-loop-channel
invariant-loop-channel l =
    (l.packets.items
    ++ open_questions (network_of l.net.program) l.home l.number l.channel
    (map question_view (drop l.channel l.questions))
    ≡ l.fn.packets.items
    ++ open_questions (network_of l.net.program) l.home l.number 0 (map question_view l.questions))
    × (take (length l.fn.packets.items) l.packets.items ≡ l.fn.packets.items)
