use Rattle.std.proofs.Common.{◌≡◌, ◌++◌, map, take, drop}
use Rattle.protocol.specs.Node.GoingBack.{handled}
use Rattle.rollback_core.proofs.undoing.note_epoch.Given as goal

abbrev pub invariant-loop-inbox : goal.invariant-loop-inbox
invariant-loop-inbox l =
    l.inbox-items
    ≡ map (handled l.channel l.epoch) (take l.inbox-index l.initial.inbox-items)
    ++ drop l.inbox-index l.initial.inbox-items
