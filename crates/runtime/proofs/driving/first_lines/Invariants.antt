use Rattle.std.proofs.Common.{◌≡◌, ◌+◌, drop}
use Rattle.runtime.specs.Beginning.{first_lines}
use Rattle.runtime.proofs.driving.first_lines.Given as goal

-- as those that weren't looked at yet
abbrev pub invariant-loop-number : goal.invariant-loop-number
invariant-loop-number l = l.number + first_lines (drop l.number l.script) ≡ first_lines l.script
