use Rattle.std.proofs.Common.{◌≡◌, ◌+◌, drop, if◌then◌else◌}
use Rattle.stream_program.specs.Causes.{output_count}
use Rattle.stream_program.proofs.program.has_one_output.Given as goal

-- the outputs so far, of which there is one or none, and those to come
abbrev pub invariant-loop-number : goal.invariant-loop-number
invariant-loop-number l = (if l.one then 1 else 0) + output_count (drop l._number l.channels) ≡ output_count l.channels
