use Rattle.std.proofs.Common.{◌≡◌, length, All}
use Rattle.std.specs.Vec.Iter.{into_iter_items}
use Rattle.wire.specs.Traffic.{AreNodes, all_sent}
use Rattle.wire.specs.Staging.{ruled}
use Rattle.wire.proofs.staging.stage_all.Given as goal

-- what is to come makes the whole of what was made
abbrev pub invariant-loop-sending : goal.invariant-loop-sending
invariant-loop-sending l =
    (length l.staged ≡ length l.fn.staged) × All AreNodes (into_iter_items l.sending-iterator)
    × (all_sent l.round (into_iter_items l.sending-iterator) (ruled l.rules l.staged)
    ≡ all_sent l.round l.fn.packets.items (ruled l.rules l.fn.staged))
