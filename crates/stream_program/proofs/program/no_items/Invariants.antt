use Rattle.std.proofs.Common.{◌≡◌, ◌++◌, drop, string_bytes}
use Rattle.stream_program.specs.Streamed.{no_items}
use Rattle.stream_program.proofs.program.no_items.Given as goal

-- what was written, and then what is to come
abbrev pub invariant-loop-number : goal.invariant-loop-number
invariant-loop-number l =
    string_bytes l.text ++ no_items (drop l.number l.channels) (drop l.number l.names) ≡ no_items l.channels l.names
