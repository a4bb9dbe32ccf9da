use Rattle.std.proofs.Common.{◌≡◌, ◌==◌, drop, find}
use Rattle.protocol.specs.declared.links.Inbox.{Inbox}
use Rattle.station.proofs.stance.is_coming.Given as goal

-- the inbox is among those that weren't looked at yet
abbrev pub invariant-loop-inbox : goal.invariant-loop-inbox
invariant-loop-inbox g l =
    find (λ (inbox : Inbox). inbox.channel == l.channel) (drop l.inbox-index l.inboxes)
    ≡ find (λ (inbox : Inbox). inbox.channel == l.channel) l.inboxes
