use Rattle.std.proofs.Common.{◌≡◌, ◌++◌, map, take, drop}
use Rattle.protocol.specs.Node.GoingBack.{outbox_set_back}
use Rattle.rollback_core.proofs.undoing.set_back_outboxes.Given as goal

abbrev pub invariant-loop-outbox : goal.invariant-loop-outbox
invariant-loop-outbox l =
    l.outbox-items
    ≡ map (outbox_set_back l.image) (take l.outbox-index l.initial.outbox-items)
    ++ drop l.outbox-index l.initial.outbox-items
