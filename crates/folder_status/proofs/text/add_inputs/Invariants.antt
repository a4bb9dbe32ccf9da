use Rattle.std.proofs.Common.{◌≡◌, ◌++◌, drop, string_bytes}
use Rattle.folder_status.specs.Lines.{input_lines}
use Rattle.folder_status.proofs.text.add_inputs.Given as goal

-- what was added, and then what is to come
abbrev pub invariant-loop-number : goal.invariant-loop-number
invariant-loop-number l =
    string_bytes l.text ++ input_lines l.names l.inputs l.got l.number (drop l.number l.channels)
    ≡ string_bytes l.fn.text ++ input_lines l.names l.inputs l.got 0 l.channels
