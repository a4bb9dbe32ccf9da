use Rattle.std.proofs.Common.{◌≡◌, ◌==◌, drop, find}
use Rattle.protocol.specs.declared.links.Outbox.{Outbox}
use Rattle.station.proofs.stance.has_what_was_got.Given as goal

-- the outbox is among those that weren't looked at yet
abbrev pub invariant-loop-outbox : goal.invariant-loop-outbox
invariant-loop-outbox g l =
    find (λ (outbox : Outbox). outbox.channel == l.channel) (drop l.outbox-index l.outboxes)
    ≡ find (λ (outbox : Outbox). outbox.channel == l.channel) l.outboxes
