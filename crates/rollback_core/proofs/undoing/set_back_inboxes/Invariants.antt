use Rattle.std.proofs.Common.{◌≡◌, ◌++◌, map, take, drop}
use Rattle.protocol.specs.Node.GoingBack.{inbox_set_back}
use Rattle.rollback_core.proofs.undoing.set_back_inboxes.Given as goal

abbrev pub invariant-loop-inbox : goal.invariant-loop-inbox
invariant-loop-inbox l =
    l.inbox-items
    ≡ map (inbox_set_back l.image l.epoch) (take l.inbox-index l.initial.inbox-items)
    ++ drop l.inbox-index l.initial.inbox-items
