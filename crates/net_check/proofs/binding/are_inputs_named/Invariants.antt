use Rattle.std.proofs.Common.{◌≡◌, ◌<◌, ℕ, slice_get, Some, true}
use Rattle.kahn_net.specs.declared.program.Channel.{Channel}
use Rattle.kahn_net.specs.declared.program.Port.TheVariants.{Outside}
use Rattle.net_check.proofs.binding.are_inputs_named.Given as goal

abbrev pub invariant-loop-c : goal.invariant-loop-c
invariant-loop-c l =
    (k : ℕ) → k < l.c → (channel : Channel) → slice_get l.channels k ≡ Some channel → channel.producer ≡ Outside
    → slice_get l.named k ≡ Some true
