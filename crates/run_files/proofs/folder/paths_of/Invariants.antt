use Rattle.std.proofs.Common.{◌≡◌, ◌≤◌, ◌+◌, ◌++◌, drop, length, map, string_bytes}
use Rattle.std.specs.Prelude.{vec_len}
use Rattle.std.specs.Vec.{vec_capacity}
use Rattle.run_files.specs.Opening.{path_in, paths_in}
use Rattle.run_files.proofs.folder.paths_of.Given as goal

-- what was listed, and then what is to come, for which there is room
abbrev pub invariant-loop-output : goal.invariant-loop-output
invariant-loop-output l = record {
  listed : map string_bytes l.paths.items ++ map (path_in (string_bytes l.folder)) (map string_bytes (drop l.output-index l.outputs))
      ≡ paths_in (string_bytes l.folder) (map string_bytes l.outputs);
  room : vec_len l.paths + length (drop l.output-index l.outputs) ≤ vec_capacity l.paths;
}
