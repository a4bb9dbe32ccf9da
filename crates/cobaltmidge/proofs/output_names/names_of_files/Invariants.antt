use Rattle.std.proofs.Common.{◌≡◌, ◌++◌, drop, map, string_bytes}
use Rattle.cobaltmidge.specs.FileNames.{file_names}
use Rattle.cobaltmidge.proofs.output_names.names_of_files.Given as goal

-- what was listed, and then what is to come
abbrev pub invariant-loop-number : goal.invariant-loop-number
invariant-loop-number l =
    map string_bytes l.files.items ++ file_names (drop l.number l.channels) (drop l.number l.names)
    ≡ file_names l.channels l.names
