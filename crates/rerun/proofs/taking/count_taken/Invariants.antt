use Rattle.std.proofs.Common.{◌≡◌, ◌+◌, ◌<◌, ◌≤◌, ℕ, get_or}
use Rattle.std.specs.Prelude.{slice_get}
use Rattle.rerun.specs.Tables.{taken_by}
use Rattle.rerun.proofs.taking.count_taken.Given as goal

abbrev pub invariant-loop-channel : goal.invariant-loop-channel
invariant-loop-channel l = record {
  counted : (c : ℕ) → c < l.channel
      → get_or l.got c 0 ≡ get_or l.initial.got c 0 + taken_by l.process l.taken c (slice_get l.channels c);
  behind : (c : ℕ) → l.channel ≤ c → get_or l.got c 0 ≡ get_or l.initial.got c 0;
}
