use Rattle.std.proofs.Common.{ℕ, ◌<◌}
use Rattle.kahn_net.specs.Streams.{IsPrefix, history_of}
use Rattle.cobaltmidge.proofs.grown.have_grown.Given as goal

abbrev pub invariant-loop-number : goal.invariant-loop-number
invariant-loop-number l = (k : ℕ) → k < l.number → IsPrefix (history_of l.fn.before k) (history_of l.fn.lists k)
