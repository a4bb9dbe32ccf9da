use Rattle.std.proofs.Common.{◌≡◌, ◌<◌, ◌≤◌, ◌+◌, ◌++◌, ℕ, length}
use Rattle.kahn_net.specs.Common.{history_of}
use Rattle.kahn_net.specs.declared.limits.TheConstants.{MAX_HISTORY_ITEMS}
use Rattle.approximations.proofs.adding.add_all_sent.Given as goal

abbrev pub invariant-loop-channel : goal.invariant-loop-channel
invariant-loop-channel l = record {
  done : (c : ℕ) → c < l.channel → history_of l.added c ≡ history_of l.initial.added c ++ history_of l.sent c;
  left : (c : ℕ) → l.channel ≤ c → history_of l.added c ≡ history_of l.initial.added c;
  short : (c : ℕ) → c < l.channel → length (history_of l.histories c) + length (history_of l.initial.added c)
      + length (history_of l.sent c) ≤ MAX_HISTORY_ITEMS;
}
