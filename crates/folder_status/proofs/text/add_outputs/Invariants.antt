use Rattle.std.proofs.Common.{◌≡◌, ◌++◌, drop, string_bytes}
use Rattle.folder_status.specs.Lines.{output_lines}
use Rattle.folder_status.proofs.text.add_outputs.Given as goal

-- what was added, and then what is to come
abbrev pub invariant-loop-place : goal.invariant-loop-place
invariant-loop-place l =
    string_bytes l.text ++ output_lines l.names l.compared l.place (drop l.place l.outputs)
    ≡ string_bytes l.fn.text ++ output_lines l.names l.compared 0 l.outputs
