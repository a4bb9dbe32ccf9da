use Rattle.std.proofs.Common.{◌≡◌, ◌<◌, ◌≤◌, ℕ, get_or, length}
use Rattle.std.specs.Prelude.{slice_get, slice_index_or}
use Rattle.rerun.specs.Tables.{let_go_of, no_log}
use Rattle.rerun.proofs.taking.let_go.Given as goal

abbrev pub invariant-loop-number : goal.invariant-loop-number
invariant-loop-number l = record {
  count : length l.logs.items ≡ length l.initial.logs.items;
  before : (c : ℕ) → c < l.number → slice_index_or l.logs.items c no_log
      ≡ let_go_of l.process (get_or l.got c 0) (slice_index_or l.initial.logs.items c no_log) (slice_get l.channels c);
  behind : (c : ℕ) → l.number ≤ c → slice_index_or l.logs.items c no_log ≡ slice_index_or l.initial.logs.items c no_log;
}
