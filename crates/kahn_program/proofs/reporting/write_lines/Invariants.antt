use Rattle.std.proofs.Common.{◌≡◌, ◌+◌, ◌++◌, drop, length, string_bytes}
use Rattle.kahn_program.specs.Report.{output_count, output_lines}
use Rattle.kahn_program.proofs.reporting.write_lines.Given as goal

abbrev pub invariant-loop-number : goal.invariant-loop-number
invariant-loop-number l = record {
  count : l.next + output_count (drop l.number l.channels) ≡ length l.streams;
  written : string_bytes l.text
      ++ output_lines (drop l.number l.channels) (drop l.number l.names) (drop l.next l.streams)
      ≡ string_bytes l.initial.text ++ output_lines l.channels l.names l.streams;
}
