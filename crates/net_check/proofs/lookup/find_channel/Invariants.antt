use Rattle.std.proofs.Common.{ℕ, ◌<◌}
use Rattle.net_check.specs.Resolution.{Reads, channel_names}
use Rattle.net_check.proofs.lookup.find_channel.Given as goal

abbrev pub invariant-loop-i : goal.invariant-loop-i
invariant-loop-i l = (k : ℕ) → k < l.i → Reads (channel_names l.channels) k l.name.text → ⊥
