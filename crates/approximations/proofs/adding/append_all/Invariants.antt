use Rattle.std.proofs.Common.{◌≡◌, ◌<◌, ◌≤◌, ◌++◌, ℕ}
use Rattle.kahn_net.specs.Common.{history_of}
use Rattle.approximations.proofs.adding.append_all.Given as goal

abbrev pub invariant-loop-channel : goal.invariant-loop-channel
invariant-loop-channel l = record {
  done : (c : ℕ) → c < l.channel → history_of l.histories c ≡ history_of l.initial.histories c ++ history_of l.added c;
  left : (c : ℕ) → l.channel ≤ c → history_of l.histories c ≡ history_of l.initial.histories c;
}
