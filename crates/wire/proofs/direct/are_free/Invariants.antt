use Rattle.std.proofs.Common.{length, take, All}
use Rattle.wire.specs.Staging.{IsFree, ruled}
use Rattle.wire.proofs.direct.are_free.Given as goal

-- none of those so far
abbrev pub invariant-loop-sending : goal.invariant-loop-sending
invariant-loop-sending l = All (IsFree (ruled l.rules l.queues) (length l.packets)) (take l.sending-index l.packets)
