use Rattle.std.proofs.Common.{◌≡◌, ◌++◌, drop}
use Rattle.approximations.specs.AtHand.{at_hand_from}
use Rattle.approximations.proofs.at_hand.list_items.Given as goal

-- what is listed, and then what is to come
abbrev pub invariant-loop-number : goal.invariant-loop-number
invariant-loop-number l =
    l.items.items ++ at_hand_from l.histories l.got l.process l.number (drop l.number l.channels)
    ≡ at_hand_from l.histories l.got l.process 0 l.channels
