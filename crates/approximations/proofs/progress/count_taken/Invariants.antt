use Rattle.std.proofs.Common.{◌≡◌, ◌+◌, ◌<◌, ◌≤◌, ℕ, get_or}
use Rattle.approximations.proofs.progress.count_taken.Given as goal

abbrev pub invariant-loop-channel : goal.invariant-loop-channel
invariant-loop-channel l = record {
  done : (c : ℕ) → c < l.channel → get_or l.got c 0 ≡ get_or l.initial.got c 0 + get_or l.taken c 0;
  left : (c : ℕ) → l.channel ≤ c → get_or l.got c 0 ≡ get_or l.initial.got c 0;
}
