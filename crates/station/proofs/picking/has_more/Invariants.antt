use Rattle.std.proofs.Common.{◌≡◌, drop}
use Rattle.protocol.specs.World.Choice.{counts_rose}
use Rattle.station.proofs.picking.has_more.Given as goal

-- what rose is among the channels that weren't looked at yet
abbrev pub invariant-loop-saved : goal.invariant-loop-saved
invariant-loop-saved l =
    counts_rose l.now l.before (drop l.saved-index l.saved-items) ≡ counts_rose l.now l.before l.now.ends
