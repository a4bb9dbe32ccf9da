use Rattle.std.proofs.Common.{◌≡◌, ◌++◌, ◌-◌, map, length}
use Rattle.kahn_net.specs.Syntax.{network_of}
use Rattle.protocol.specs.Node.Needs.{each_from, question_on, questions_of}
use Rattle.decide_core.specs.InitiatorView.{question_view}
use Rattle.decide_core.proofs.initiator.questions_of.Given as goal

-- what is listed, and then what is to come
abbrev pub invariant-loop-channel : goal.invariant-loop-channel
invariant-loop-channel l =
    map question_view l.questions.items
    ++ each_from (question_on (network_of l.net.program) l.home l.permanent l.image) l.channel
    (length l.net.program.channels.items - l.channel)
    ≡ questions_of (network_of l.net.program) l.home l.permanent l.image
