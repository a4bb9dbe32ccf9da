use Rattle.std.proofs.Common.{◌≡◌, ◌≤◌, true, drop, length}
use Rattle.replay.specs.Laws.{no_event}
use Rattle.run_log.specs.Lines.{happenings}
use Rattle.run_log.proofs.counting.find_silence.Given as goal

abbrev pub invariant-loop-place : goal.invariant-loop-place
invariant-loop-place l = record {
  within : l.place ≤ length l.lines;
  none : no_event (happenings (drop l.place l.lines)) ≡ true;
}

abbrev pub decreases-loop-place : goal.decreases-loop-place
decreases-loop-place l = l.place
