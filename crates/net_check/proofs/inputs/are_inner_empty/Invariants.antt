use Rattle.std.proofs.Common.{ℕ, ◌<◌}
use Rattle.kahn_net.specs.Fits.{IsEmptyAt}
use Rattle.net_check.proofs.inputs.are_inner_empty.Given as goal

abbrev pub invariant-loop-c : goal.invariant-loop-c
invariant-loop-c l = (k : ℕ) → k < l.c → IsEmptyAt l.channels l.lists k
